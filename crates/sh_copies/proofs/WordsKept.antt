-- What a word keeps if its bytes are elsewhere: its text, whether it is quoted, and the texts of
-- its single quotes.
-- POSIX.1-2024, XCU 2.2 (quoting), 2.7.4 (here-documents).
use Rattle.std.proofs.Common.{◌≡◌, ℕ, Bool, List, [], ◌∷◌, Some, refl, sym, ap, ◌∙◌}
use Rattle.std.proofs.lemmas.List.{map-append}
use Rattle.sh_tree.specs.declared.tree.Action.{Action}
use Rattle.sh_tree.specs.declared.tree.CommandStyle.{CommandStyle}
use Rattle.sh_tree.specs.declared.tree.Expr.{Expr}
use Rattle.sh_tree.specs.declared.tree.ParameterOperator.TheVariants as operator
use Rattle.sh_tree.specs.declared.tree.Part.{Part}
use Rattle.sh_tree.specs.declared.tree.Part.TheVariants as part
use Rattle.sh_tree.specs.declared.tree.Removal.{Removal}
use Rattle.sh_tree.specs.declared.tree.Script.{Script}
use Rattle.sh_tree.specs.declared.tree.SingleStyle.{SingleStyle}
use Rattle.sh_tree.specs.declared.tree.SingleStyle.TheVariants as style
use Rattle.sh_tree.specs.declared.tree.Span.{Span}
use Rattle.sh_tree.specs.declared.tree.Subject.{Subject}
use Rattle.sh_tree.specs.standard.Tree.{text_of}
use Rattle.sh_tree.specs.standard.Words.{part_text, parts_text, behind_first, single_text, part_text-Double}
use Rattle.sh_tree.specs.standard.language.HereDocuments.{is_dollar_quoted}
use Rattle.sh_tree.specs.standard.language.Parts.{is_quotation, singles_in, singles}
use Rattle.sh_tree.specs.standard.language.Trees as tree
use Rattle.sh_copies.proofs.Copies.{KeptPart, Kept, KeptExpression}
use Rattle.sh_bodies.proofs.SingleLemmas.{of_double, of_arith, of_use, of_remove}

module _ (b b' : List ℕ) where
  pub kept_none : Kept b b' [] []
  unfolding parts_text singles
  kept_none = record { text = refl; quotes = refl; dollar_quotes = refl; lines = refl }

  pub kept_more : {p p' : Part} {ps ps' : List Part} → KeptPart b b' p p' → Kept b b' ps ps' → Kept b b' (p ∷ ps) (p' ∷ ps')
  unfolding parts_text singles
  kept_more {p} {p'} {ps} {ps'} k ks = record {
    text = rw (k.text, ks.text) refl;
    quotes = rw (k.quotes, ks.quotes) refl;
    dollar_quotes = rw (k.dollar_quotes, ks.dollar_quotes) refl;
    lines = map-append (text_of b') (singles_in p') (singles ps') ∙ rw (k.lines, ks.lines) (sym (map-append (text_of b) (singles_in p) (singles ps)));
  }

  module _ (s s' : Span) where
    pub kept_plain : text_of b' s' ≡ text_of b s → KeptPart b b' (part.Plain s) (part.Plain s')
    unfolding part_text is_quotation is_dollar_quoted singles_in
    kept_plain e = record { text = ap Some e; quotes = refl; dollar_quotes = refl; lines = refl }

    pub kept_escaped : text_of b' s' ≡ text_of b s → KeptPart b b' (part.Escaped s) (part.Escaped s')
    unfolding part_text is_quotation is_dollar_quoted singles_in
    kept_escaped e = record { text = ap (λ t. Some (behind_first t)) e; quotes = refl; dollar_quotes = refl; lines = refl }

    pub kept_single : (y : SingleStyle) → text_of b' s' ≡ text_of b s → KeptPart b b' (part.Single y s) (part.Single y s')
    unfolding part_text is_quotation is_dollar_quoted singles_in
    kept_single style.Plain e = record { text = ap (λ t. Some (single_text style.Plain t)) e; quotes = refl; dollar_quotes = refl; lines = ap (λ t. t ∷ []) e }
    kept_single style.Dollar e = record { text = ap (λ t. Some (single_text style.Dollar t)) e; quotes = refl; dollar_quotes = refl; lines = ap (λ t. t ∷ []) e }

    pub kept_joined : KeptPart b b' (part.Joined s) (part.Joined s')
    unfolding part_text is_quotation is_dollar_quoted singles_in
    kept_joined = record { text = refl; quotes = refl; dollar_quotes = refl; lines = refl }

    pub kept_tilde : KeptPart b b' (part.Tilde s) (part.Tilde s')
    unfolding part_text is_quotation is_dollar_quoted singles_in
    kept_tilde = record { text = refl; quotes = refl; dollar_quotes = refl; lines = refl }

    pub kept_command : (y : CommandStyle) (t t' : Script) → KeptPart b b' (part.Command y s t) (part.Command y s' t')
    unfolding part_text is_quotation is_dollar_quoted singles_in
    kept_command y t t' = record { text = refl; quotes = refl; dollar_quotes = refl; lines = refl }

    pub kept_double : {ps ps' : List Part} → Kept b b' ps ps' → KeptPart b b' (part.Double s ps) (part.Double s' ps')
    unfolding is_quotation is_dollar_quoted
    kept_double {ps} {ps'} k = record {
      text = part_text-Double b' s' ps' ∙ k.text ∙ sym (part_text-Double b s ps);
      quotes = refl;
      dollar_quotes = refl;
      lines = rw (of_double s' ps', of_double s ps) k.lines;
    }

    pub kept_arith : (e e' : Expr) → KeptExpression b b' e e' → KeptPart b b' (part.Arith s e) (part.Arith s' e')
    unfolding part_text is_quotation is_dollar_quoted
    kept_arith e e' k = record { text = refl; quotes = refl; dollar_quotes = refl; lines = rw (of_arith s' e', of_arith s e) k }

  module _ (i i' j j' : ℕ) (p p' : Subject) where
    pub kept_value : KeptPart b b' (tree.param i j p operator.Value) (tree.param i' j' p' operator.Value)
    unfolding part_text is_quotation is_dollar_quoted singles_in
    kept_value = record { text = refl; quotes = refl; dollar_quotes = refl; lines = refl }

    pub kept_length : KeptPart b b' (tree.param i j p operator.Length) (tree.param i' j' p' operator.Length)
    unfolding part_text is_quotation is_dollar_quoted singles_in
    kept_length = record { text = refl; quotes = refl; dollar_quotes = refl; lines = refl }

    pub kept_use : (a : Action) (colon : Bool) (e e' n n' : ℕ) {ps ps' : List Part} → Kept b b' ps ps'
        → KeptPart b b' (tree.param i j p (operator.Use a colon (tree.word e n ps))) (tree.param i' j' p' (operator.Use a colon (tree.word e' n' ps')))
    unfolding part_text is_quotation is_dollar_quoted singles singles_in
    kept_use a colon e e' n n' {ps} {ps'} k = record {
      text = refl;
      quotes = refl;
      dollar_quotes = refl;
      lines = rw (of_use a colon (tree.word e' n' ps'), of_use a colon (tree.word e n ps)) k.lines;
    }

    pub kept_removal : (q : Removal) (e e' n n' : ℕ) {ps ps' : List Part} → Kept b b' ps ps'
        → KeptPart b b' (tree.param i j p (operator.Remove q (tree.word e n ps))) (tree.param i' j' p' (operator.Remove q (tree.word e' n' ps')))
    unfolding part_text is_quotation is_dollar_quoted singles singles_in
    kept_removal q e e' n n' {ps} {ps'} k = record {
      text = refl;
      quotes = refl;
      dollar_quotes = refl;
      lines = rw (of_remove q (tree.word e' n' ps'), of_remove q (tree.word e n ps)) k.lines;
    }
