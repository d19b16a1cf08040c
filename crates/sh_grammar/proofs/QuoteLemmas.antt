-- Line continuations in the single quotes of parts and expressions.
use Rattle.std.proofs.Common.{◌≡◌, ℕ, suc, ◌+◌, ◌-◌, ◌<◌, ◌≤◌, ◌⊎◌, inl, inr, true, false, not, ◌&&◌, List, [], ◌∷◌, ◌++◌, length, drop, get_or, Option, Some, None, refl, sym, ap, subst, ◌∙◌, arith, length-drop, length-take}
use Rattle.std.proofs.Math.Seq.{drop-cons}
use Rattle.std.proofs.lemmas.List.{drop_all}
use Rattle.sh_tree.specs.standard.Tree.{text_of}
use Rattle.sh_tree.specs.declared.tree.Binary.{Binary}
use Rattle.sh_tree.specs.declared.tree.Expr.{Expr}
use Rattle.sh_tree.specs.declared.tree.Expr.TheVariants as expression
use Rattle.sh_tree.specs.declared.tree.ParameterOperator.{ParameterOperator}
use Rattle.sh_tree.specs.declared.tree.ParameterOperator.TheVariants as operator
use Rattle.sh_tree.specs.declared.tree.Part.{Part}
use Rattle.sh_tree.specs.declared.tree.Span.{Span}
use Rattle.sh_tree.specs.standard.language.HereDocuments.{is_split_text}
use Rattle.sh_tree.specs.standard.language.Parts.{keeps_lines, singles, singles_in, operator_singles, expression_singles}
use Rattle.sh_bodies.specs.Singles.{chained}
use Rattle.sh_bodies.proofs.SingleLemmas.{of_constant, of_variable, of_value, of_length}
use Rattle.sh_grammar.specs.Quotes.{Splits, SplitsIn}
use Rattle.sh_grammar.proofs.KeptLemmas.{Left, behind_kept, before_split}

-- expressions and operators without parts
pub of_plain_expression : (e : Expr) → ((s : Span) × (e ≡ expression.Constant s)) ⊎ ((s : Span) × (e ≡ expression.Variable s)) → expression_singles e ≡ []
of_plain_expression e (inl p) = ap expression_singles p.1 ∙ of_constant p.0
of_plain_expression e (inr p) = ap expression_singles p.1 ∙ of_variable p.0

pub of_plain_operator : (o : ParameterOperator) → (o ≡ operator.Value) ⊎ (o ≡ operator.Length) → operator_singles o ≡ []
of_plain_operator o (inl p) = ap operator_singles p ∙ of_value
of_plain_operator o (inr p) = ap operator_singles p ∙ of_length

-- what is said of spans is said of equal ones
pub same_spans : (b : List ℕ) (ss ts : List Span) (o : Option ℕ) → ts ≡ ss → SplitsIn b ss o → SplitsIn b ts o
same_spans b ss ts o is h = subst (λ rs. SplitsIn b rs o) (sym is) h

pub no_spans : (b : List ℕ) (ts : List Span) → ts ≡ [] → SplitsIn b ts None
no_spans b ts is = subst (λ rs. SplitsIn b rs None) (sym is) refl

-- Steps over a list

module _ (b : List ℕ) (ps : List Part) (i : ℕ) (p : Part) (h : Left b (singles (drop i ps)) (singles ps)) (below : i < length ps) (is : p ≡ get_or ps i p) where
  part_step : singles (drop i ps) ≡ singles_in p ++ singles (drop (i + 1) ps)
  unfolding singles
  part_step =
      let at : suc i ≡ i + 1 = omega arith in
      ap singles (drop-cons ps i p below) ∙ ap (λ x. singles_in x ++ singles (drop (suc i) ps)) (sym is) ∙ ap (λ k. singles_in p ++ singles (drop k ps)) at

  pub part_split : (at : ℕ) → SplitsIn b (singles_in p) (Some at) → SplitsIn b (singles ps) (Some at)
  part_split at s = h.whole (Some at) (same_spans b _ _ (Some at) part_step (before_split b (singles_in p) (singles (drop (i + 1) ps)) at s))

  pub part_kept : SplitsIn b (singles_in p) None → Left b (singles (drop (i + 1) ps)) (singles ps)
  part_kept s = record { whole = λ o k. h.whole o (same_spans b _ _ o part_step (behind_kept b (singles_in p) (singles (drop (i + 1) ps)) o s k)) }

pub parts_end : (b : List ℕ) (ps : List Part) (i : ℕ) → Left b (singles (drop i ps)) (singles ps) → length ps ≤ i → SplitsIn b (singles ps) None
unfolding singles
parts_end b ps i h over = h.whole None (no_spans b (singles (drop i ps)) (ap singles (drop_all i ps over)))

module _ (b : List ℕ) (es : List (Binary × Expr)) (i : ℕ) (x : Binary × Expr) (h : Left b (chained (drop i es)) (chained es)) (below : i < length es) (is : x ≡ get_or es i x) where
  chain_step : chained (drop i es) ≡ expression_singles x.1 ++ chained (drop (i + 1) es)
  unfolding chained
  chain_step =
      let at : suc i ≡ i + 1 = omega arith in
      ap chained (drop-cons es i x below) ∙ ap (λ y. expression_singles y.1 ++ chained (drop (suc i) es)) (sym is) ∙ ap (λ k. expression_singles x.1 ++ chained (drop k es)) at

  pub chain_split : (at : ℕ) → SplitsIn b (expression_singles x.1) (Some at) → SplitsIn b (chained es) (Some at)
  chain_split at s = h.whole (Some at) (same_spans b _ _ (Some at) chain_step (before_split b (expression_singles x.1) (chained (drop (i + 1) es)) at s))

  pub chain_kept : SplitsIn b (expression_singles x.1) None → Left b (chained (drop (i + 1) es)) (chained es)
  chain_kept s = record { whole = λ o k. h.whole o (same_spans b _ _ o chain_step (behind_kept b (expression_singles x.1) (chained (drop (i + 1) es)) o s k)) }

pub chain_end : (b : List ℕ) (es : List (Binary × Expr)) (i : ℕ) → Left b (chained (drop i es)) (chained es) → length es ≤ i → SplitsIn b (chained es) None
unfolding chained
chain_end b es i h over = h.whole None (no_spans b (chained (drop i es)) (ap chained (drop_all i es over)))

-- One span

pub span_split : (b : List ℕ) (s : Span) (at : ℕ) → true ≡ is_split_text (text_of b s) → at < length b → SplitsIn b (s ∷ []) (Some at)
span_split b s at is below = (ap (λ v. not v && true) (sym is), below)

pub span_kept : (b : List ℕ) (s : Span) → false ≡ is_split_text (text_of b s) → SplitsIn b (s ∷ []) None
span_kept b s is = ap (λ v. not v && true) (sym is)

-- a place in a span's text is one of the text
pub span_inside : (b : List ℕ) (s : Span) (i : ℕ) → i < length (text_of b s) → s.start + i < length b
span_inside b s i below = omega (arith, length-take (s.end - s.start) (drop s.start b), length-drop s.start b)

-- All parts

pub kept_joined : (b : List ℕ) (ps : List Part) (o : Option ℕ) → SplitsIn b (singles ps) o → Splits b true ps o
unfolding keeps_lines
kept_joined b ps None h = h
kept_joined b ps (Some at) h = h

pub kept_apart : (b : List ℕ) (ps : List Part) → Splits b false ps None
unfolding keeps_lines
kept_apart b ps = refl
