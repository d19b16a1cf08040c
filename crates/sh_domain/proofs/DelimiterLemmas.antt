-- The delimiter of a here-document holds no commands.
use Rattle.std.proofs.Common.{◌≡◌, ℕ, true, not, ◌&&◌, Option, Some, None, List, [], ◌∷◌, ◌++◌, refl, sym, ap, ◌∙◌, true≢false}
use Rattle.std.specs.List.{list_any}
use Rattle.std.proofs.lemmas.Bool.{and_parts}
use Rattle.sh_tree.specs.declared.tree.Part.{Part, Double', Param', Arith', Row_of-Part, end_of-Part, more_of-Part}
use Rattle.sh_tree.specs.declared.tree.Part.TheVariants as part
use Rattle.sh_tree.specs.declared.tree.Word.{Word}
use Rattle.sh_tree.specs.standard.Tree.{text_of}
use Rattle.sh_tree.specs.standard.Words.{both_texts, part_text, row_text, parts_text}
use Rattle.sh_tree.specs.standard.language.Bytes.{is_newline}
use Rattle.sh_tree.specs.standard.language.HereDocuments.{is_static, is_dollar_quoted, is_delimiter}
use Rattle.sh_tree.specs.Lists.{parts_from}
use Rattle.sh_tree.specs.standard.program.Trees as trees
use Rattle.sh_runs.specs.Surroundings.{items_located, word_located, part_located}
use Rattle.sh_domain.proofs.NumberCounts.{held}

both_static : (o q : Option (List ℕ)) → is_static (both_texts o q) ≡ true → (is_static o ≡ true) × (is_static q ≡ true)
unfolding is_static
both_static None q h = absurd (true≢false (sym h))
both_static (Some t) None h = absurd (true≢false (sym h))
both_static (Some t) (Some u) h = (refl, refl)

module _ (whole b : List ℕ) where
  mutual
    unfolding row_text is_static trees.part_of items_located

    row_bare : {m : _} (row : Row_of-Part m) → is_static (row_text b row) ≡ true → word_located (trees.word_of whole row) ≡ []
    row_bare end_of-Part h = refl
    row_bare (more_of-Part x rest) h =
        let both = both_static (part_text b x) (row_text b rest) h in
        ap (λ ls. ls ++ word_located (trees.word_of whole rest)) (part_bare x both.0) ∙ row_bare rest both.1

    part_bare : (x : Part) → is_static (part_text b x) ≡ true → part_located (trees.part_of whole x) ≡ []
    part_bare (Double' span shape parts) h = row_bare parts h
    part_bare (Param' span subject operator) h = absurd (true≢false (sym h))
    part_bare (Arith' span shape expression) h = absurd (true≢false (sym h))
    part_bare (part.Command style span list) h = absurd (true≢false (sym h))
    part_bare _ h = refl

  parts_bare : (ps : List Part) → is_static (parts_text b ps) ≡ true → word_located (parts_from whole ps) ≡ []
  unfolding parts_text parts_from items_located
  parts_bare [] h = refl
  parts_bare (x ∷ xs) h =
      let both = both_static (part_text b x) (parts_text b xs) h in
      ap (λ ls. ls ++ word_located (parts_from whole xs)) (part_bare x both.0) ∙ parts_bare xs both.1

  pub delimiter_bare : (w : Word) (n : ℕ) → is_delimiter b w ≡ true → held n (word_located (parts_from whole w.parts)) ≡ 0
  unfolding is_delimiter held
  delimiter_bare w n h =
      let static = is_static (parts_text b w.parts) in
      let quoted = not (list_any is_dollar_quoted w.parts) in
      let lines = and_parts (static && quoted) (not (list_any is_newline (text_of b w.span))) h in
      ap (held n) (parts_bare w.parts (and_parts static quoted lines.0).0)
