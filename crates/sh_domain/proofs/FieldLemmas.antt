-- A word that is read gives a field, or its text is not static: its first part takes a byte.
use Rattle.std.proofs.Common.{◌≡◌, ℕ, ◌+◌, ◌-◌, true, false, not, ◌||◌, ◌⊎◌, inl, inr, None, is_some, List, drop, refl, sym, ap, subst, ◌∙◌}
use Rattle.std.proofs.lemmas.Bool.{true≢false, or_left, or_right}
use Rattle.sh_tree.specs.standard.Words.{both_texts}
use Rattle.sh_tree.specs.declared.tree.ParameterOperator.TheVariants as operator
use Rattle.sh_tree.specs.declared.tree.Part.{Part}
use Rattle.sh_tree.specs.declared.tree.Word.{Word}
use Rattle.sh_tree.specs.declared.token.word.Context.{Context}
use Rattle.sh_tree.specs.declared.token.word.Sign.{Sign}
use Rattle.sh_tree.specs.declared.token.command.Lead.TheVariants as lead
use Rattle.sh_tree.specs.declared.token.command.Stage.{Stage}
use Rattle.sh_tree.specs.declared.token.command.Stage.TheVariants.{Named}
use Rattle.sh_tree.specs.standard.language.Commands.{lead_at}
use Rattle.sh_tree.specs.standard.language.Contexts.{in_word, in_stage}
use Rattle.sh_tree.specs.standard.language.Reading as r
use Rattle.sh_tree.specs.standard.language.Reading.{ReadsParts, ReadsPart, ReadsWord}
use Rattle.sh_tree.specs.standard.language.States.{Spot}
use Rattle.sh_tree.specs.standard.language.Trees as tree
use Rattle.sh_tree.specs.standard.language.Trees.{span}
use Rattle.sh_tree.specs.standard.language.Words.{sign_of, token}
use Rattle.sh_tree.specs.Lists.{parts_from}
use Rattle.sh_tree.specs.standard.program.Syntax as p
use Rattle.sh_tree.specs.standard.program.Trees.{part_of}
use Rattle.sh_tree.specs.standard.program.Words.{part_text, word_text}
use Rattle.sh_tree.proofs.ProgramRules.{parts_from-more, part_of-Plain, part_of-Escaped, part_of-Single, part_of-Tilde, part_of-Double, part_of-Param, part_of-Arith, part_of-Command, operator_of-Value, operator_of-Length}
use Rattle.sh_runs.specs.Counts.{gives_field, some_gives_field}
use Rattle.sh_reads.proofs.BeginningLemmas.{takes_none, ends, word_takes}
use Rattle.sh_reads.proofs.FrontLemmas.{Front}
use Rattle.sh_reads.proofs.SettledLemmas.{IsSettled}
use Rattle.sh_domain.proofs.SignLemmas.{token_formed, token_is_formed}

-- a part gives a field, or its text is not static
abbrev IsField : p.Part → Type 0
IsField x = (gives_field x ≡ true) ⊎ (part_text x ≡ None)

-- a word for which that holds, as the form of programs requires it
abbrev pub GivesField : p.Word → Type 0
GivesField w = (not (is_some (word_text w)) || some_gives_field w) ≡ true

first_gives : (x : p.Part) (w : p.Word) → IsField x → GivesField (p.more_parts x w)
unfolding part_text some_gives_field
first_gives x w (inl gives) = or_right (not (is_some (both_texts (part_text x) (word_text w)))) _ (or_left _ _ gives)
first_gives x w (inr none) = or_left _ _ (ap (λ t. not (is_some (both_texts t (word_text w)))) none)

module _ (whole : List ℕ) where
  part_gives : {limit : ℕ} {b : List ℕ} {x : Context} {g : Sign} {s v : Spot} {e : ℕ} {p : Part} (n : ℕ) → takes_none g n ≡ false → token_formed whole g s.at e ≡ true
      → ReadsPart limit b x g s e v p → IsField (part_of whole p)
  unfolding gives_field part_text
  part_gives n some formed (r.plain {s = s} {e = e}) = rw (part_of-Plain whole (span s.at e)) (inl formed)
  part_gives n some formed (r.escaped {s = s} {e = e}) = rw (part_of-Escaped whole (span s.at e)) (inl refl)
  part_gives n some formed r.joined = absurd (true≢false some)
  part_gives n some formed (r.single_quoted {s = s} {e = e} {style = style}) = rw (part_of-Single whole style (span s.at e)) (inl refl)
  part_gives n some formed (r.tilde {s = s} {e = e}) = rw (part_of-Tilde whole (span s.at e)) (inl refl)
  part_gives n some formed (r.double_quoted {s = s} {u = u} {ps = ps} q) = rw (part_of-Double whole (span s.at u.at) ps) (inl refl)
  part_gives n some formed (r.value {s = s} {e = e} {p = q}) =
      rw (part_of-Param whole (record { span = span s.at e; subject = q; operator = operator.Value }), operator_of-Value whole) (inl refl)
  part_gives n some formed (r.length_value {s = s} {e = e} {p = q}) =
      rw (part_of-Param whole (record { span = span s.at e; subject = q; operator = operator.Length }), operator_of-Length whole) (inl refl)
  part_gives n some formed (r.use_word {s = s} {u = u} {e = e} {p = q} {a = a} {colon = colon} {ps = ps} d k) =
      rw (part_of-Param whole (record { span = span s.at u.at; subject = q; operator = operator.Use a colon (tree.word e (u.at - 1) ps) })) (inr refl)
  part_gives n some formed (r.removal {s = s} {u = u} {e = e} {p = q} {r = removal} {ps = ps} d k) =
      rw (part_of-Param whole (record { span = span s.at u.at; subject = q; operator = operator.Remove removal (tree.word e (u.at - 1) ps) })) (inr refl)
  part_gives n some formed (r.arithmetic {b = b} {s = s} {u = u} {a = a} d h k c) = rw (part_of-Arith whole (span s.at _) a) (inl refl)
  part_gives n some formed (r.substitution {s = s} {u = u} {style = style} {t = t} d k h c) = rw (part_of-Command whole style (span s.at (u.at + 1)) t) (inl refl)

  parts_give : {limit : ℕ} {b : List ℕ} {x : Context} {prior : ℕ} {s u : Spot} {ps : List Part} → Front whole b → ends (sign_of x prior s.at (drop s.at b)) ≡ false
      → ReadsParts limit b x prior s u ps → GivesField (parts_from whole ps)
  unfolding token
  parts_give {b = b} f goes (r.stop {x = x} {prior = prior} {s = s} is) =
      absurd (true≢false (sym (ap (λ g. takes_none g (sign_of x prior s.at (drop s.at b)).1) is) ∙ goes))
  parts_give {b = b} f goes (r.tabs {x = x} {prior = prior} {s = s} is q) =
      absurd (true≢false (sym (ap (λ g. takes_none g (sign_of x prior s.at (drop s.at b)).1) is) ∙ goes))
  parts_give {b = b} f goes (r.more {x = x} {prior = prior} {s = s} {p = y} {ps = ps} is q rest) =
      let found = sign_of x prior s.at (drop s.at b) in
      let some = ap (λ g. takes_none g found.1) (sym is) ∙ goes in
      let formed = subst (λ g. token_formed whole g s.at (s.at + found.1) ≡ true) is (token_is_formed whole b x prior s.at f) in
      rw (parts_from-more whole y ps) (first_gives (part_of whole y) (parts_from whole ps) (part_gives found.1 some formed q))

  -- a word at a token's first byte
  pub word_gives : {limit : ℕ} {b : List ℕ} {s u : Spot} {w : Word} (g : Stage) → Front whole b → IsSettled b s → lead_at b g s.at ≡ lead.Word
      → ReadsWord limit b (in_stage b g s.at) s u w → GivesField (parts_from whole w.parts)
  word_gives {b = b} {s = s} g f here is (r.whole_word q l k) = parts_give f (word_takes b g s.at is here).1 q

  -- a word of `for`
  pub item_gives : {limit : ℕ} {b : List ℕ} {s u : Spot} {w : Word} → Front whole b → IsSettled b s → lead_at b (Named false) s.at ≡ lead.Word
      → ReadsWord limit b (in_word s.at) s u w → GivesField (parts_from whole w.parts)
  unfolding in_stage
  item_gives f here is q = word_gives (Named false) f here is q
