-- The static texts of a program's words are those of the tree's.
use Rattle.std.proofs.Common.{◌≡◌, ℕ, List, [], ◌∷◌, ◌++◌, map, refl, ap, ◌∙◌}
use Rattle.std.specs.List.{cons_option, flat_map}
use Rattle.sh_tree.specs.declared.tree.Element.{Element, Assignment', Word', Redirection'}
use Rattle.sh_tree.specs.declared.tree.Part.{items-the_row-Part}
use Rattle.sh_tree.specs.declared.tree.Word.{Word}
use Rattle.sh_tree.specs.standard.Words as tree
use Rattle.sh_tree.specs.standard.Words.{static_text, words_of}
use Rattle.sh_tree.specs.standard.program.Words.{operands_in, static_of, words_in}
use Rattle.sh_tree.specs.Lists.{element_from}
use Rattle.sh_tree.proofs.ProgramRules.{kind_of-Simple, parts_listed}
use Rattle.sh_tree.proofs.ProgramWords.{static_of_parts}
use Rattle.sh_runs.specs.Sites.{form_of, statics}
use Rattle.sh_table.specs.WordTexts.{texts_of}
use Rattle.sh_table.proofs.WordTextLemmas.{texts_listed}
use Rattle.sh_accept.specs.Statics.{StaticsAreTexts}

element_static : (b : List ℕ) (e : Element) (ws : List Word)
    → texts_of b e ++ map (λ w. static_text b w.parts) ws ≡ map (λ w. static_text b w.parts) (cons_option (tree.word_of e) ws)
unfolding texts_of operands_in words_in element_from tree.form_of tree.word_in
element_static b (Assignment' name s shape row) ws = refl
element_static b (Word' s shape row) ws =
    ap (λ t. t ∷ map (λ w. static_text b w.parts) ws) (ap static_of (parts_listed b row) ∙ static_of_parts b (items-the_row-Part _ row))
element_static b (Redirection' at number target) ws = refl

listed : (b : List ℕ) (es : List Element) → flat_map (texts_of b) es ≡ map (λ w. static_text b w.parts) (words_of es)
listed b [] = refl
listed b (e ∷ es) = ap (λ l. texts_of b e ++ l) (listed b es) ∙ element_static b e (words_of es)

pub statics_are_texts : StaticsAreTexts
unfolding form_of
statics_are_texts b es = ap (λ k. statics (form_of k)) (kind_of-Simple b es) ∙ texts_listed b es ∙ listed b es
