-- How long the operators are that join pipelines or end clauses.
use Rattle.std.proofs.Common.{◌≡◌, ℕ, ◌+◌, ◌≤◌, Bool, true, false, List, [], ◌∷◌, ◌++◌, length, drop, nat_eq, Option, Some, None, refl, sym, ap, subst, ◌∙◌, ⊎_elim, arith}
use Rattle.std.proofs.lemmas.Bool.{cases_Bool, cond-true, cond-false, true≢false}
use Rattle.std.proofs.lemmas.Bool.Decides.{nat_tests}
use Rattle.std.specs.List.{starts_with}
use Rattle.std.proofs.lemmas.List.{length-drop}
use Rattle.sh_tree.specs.declared.token.command.Stage.TheVariants.{First}
use Rattle.sh_tree.specs.declared.token.command.Lead.{Lead}
use Rattle.sh_tree.specs.declared.token.command.Lead.TheVariants as lead
use Rattle.sh_tree.specs.declared.token.command.Operator.{Operator}
use Rattle.sh_tree.specs.declared.token.command.Operator.TheVariants as op
use Rattle.sh_tree.specs.declared.token.command.Reserved.{Reserved}
use Rattle.sh_tree.specs.declared.token.command.Reserved.TheVariants as word
use Rattle.sh_tree.specs.declared.refusal.Form.{Form}
use Rattle.sh_tree.specs.declared.tree.ClauseEnd.{ClauseEnd}
use Rattle.sh_tree.specs.declared.tree.Link.{Link}
use Rattle.sh_tree.specs.standard.language.Bytes.{longest, is_digit, run}
use Rattle.sh_tree.specs.standard.language.Commands.{long_operators, short_operators, operator_of, operator_lead, whole_operator, opening, other_lead, lead_of, lead_at, link_of, clause_end_of, number_lead, word_lead, first_lead, reserved_lead, name_lead, entry_of, reserved_words, left_out_names, bare_word}
use Rattle.sh_scan.proofs.ArithmeticLemmas.{begun_within}

-- the texts of a table are as long as `width` says
abbrev Wide : (Operator → ℕ) → List (List ℕ × Operator) → Type 0
Wide width [] = Unit {0}
Wide width (x ∷ xs) = (length x.0 ≡ width x.1) × Wide width xs

-- what a table finds is as long, and is in the text
longest_wide : (width : Operator → ℕ) (table : List (List ℕ × Operator)) (cs : List ℕ) (o : Operator) (n : ℕ) → Wide width table → longest table cs ≡ Some (o, n)
    → (n ≡ width o) × (n ≤ length cs)
unfolding longest
longest_wide width [] cs o n wide h = cc
longest_wide width (x ∷ xs) cs o n wide h = ⊎_elim
    (λ found.
    let is : Some (x.1, length x.0) ≡ Some (o, n) = sym (cond-true _ _ _ found) ∙ h in
    let same : (x.1, length x.0) ≡ (o, n) = some_pair is in
    let operator : x.1 ≡ o = ap (λ p. p.0) same in
    let count : length x.0 ≡ n = ap (λ p. p.1) same in
    let within = begun_within cs x.0 found in
    (sym count ∙ wide.0 ∙ ap width operator, subst (λ k. k ≤ length cs) count within))
    (λ other. longest_wide width xs cs o n wide.1 (sym (cond-false _ _ _ other) ∙ h))
    (cases_Bool (starts_with nat_eq cs x.0))
  where
    some_pair : {p q : Operator × ℕ} → Some p ≡ Some q → p ≡ q
    some_pair e = cc

abbrev width_of : Operator → ℕ
width_of op.HereDocTabs = 3
width_of op.And = 1
width_of op.Semicolon = 1
width_of op.Bar = 1
width_of op.LeftParenthesis = 1
width_of op.RightParenthesis = 1
width_of op.Less = 1
width_of op.Greater = 1
width_of _ = 2

operators_wide : Wide width_of (long_operators ++ short_operators)
operators_wide = (refl, (refl, (refl, (refl, (refl, (refl, (refl, (refl, (refl, (refl, (refl, (refl, (refl, (refl, (refl, (refl, (refl, (refl, tt))))))))))))))))))

pub operator_width : (cs : List ℕ) (o : Operator) (n : ℕ) → operator_of cs ≡ Some (o, n) → (n ≡ width_of o) × (n ≤ length cs)
unfolding operator_of
operator_width cs o n h = longest_wide width_of (long_operators ++ short_operators) cs o n operators_wide h

-- only an operator joins pipelines or ends a clause
abbrev joins : Lead → Bool
joins (lead.Operator op.AndIf) = true
joins (lead.Operator op.OrIf) = true
joins (lead.Operator op.DoubleSemicolon) = true
joins (lead.Operator op.SemicolonAnd) = true
joins _ = false

joins_link : (l : Lead) (k : Link) → link_of l ≡ Some k → joins l ≡ true
unfolding link_of
joins_link (lead.Operator op.AndIf) k h = refl
joins_link (lead.Operator op.OrIf) k h = refl
joins_link _ k h = cc

ends_clause : (l : Lead) (e : ClauseEnd) → clause_end_of l ≡ Some e → joins l ≡ true
unfolding clause_end_of
ends_clause (lead.Operator op.DoubleSemicolon) e h = refl
ends_clause (lead.Operator op.SemicolonAnd) e h = refl
ends_clause _ e h = cc

whole_joins : (rest : List ℕ) (o : Operator) → joins (whole_operator First rest o) ≡ true → width_of o ≡ 2
unfolding whole_operator opening
whole_joins rest op.AndIf h = refl
whole_joins rest op.OrIf h = refl
whole_joins rest op.DoubleSemicolon h = refl
whole_joins rest op.SemicolonAnd h = refl
whole_joins rest op.LeftParenthesis h = absurd (true≢false (sym h ∙ grind (arith, nat_tests)))
whole_joins rest _ h = absurd (true≢false (sym h))

reserved_joins : (cs : List ℕ) (r : Reserved) → joins (reserved_lead cs r) ≡ false
unfolding reserved_lead
reserved_joins cs word.Bang = grind (arith, nat_tests)
reserved_joins cs r = refl

name_joins : (f : Option Form) → joins (name_lead f) ≡ false
unfolding name_lead
name_joins (Some f) = refl
name_joins None = refl

first_joins : (b : List ℕ) (i : ℕ) (w : List ℕ) (r : Option Reserved) → joins (first_lead b i w r) ≡ false
unfolding first_lead
first_joins b i w (Some r) = reserved_joins (drop i b) r
first_joins b i w None = grind (arith, nat_tests, name_joins (entry_of left_out_names w))

word_joins : (b : List ℕ) (i : ℕ) (w : List ℕ) → joins (word_lead b First i w) ≡ false
unfolding word_lead
word_joins b i w = first_joins b i w (entry_of reserved_words w)

number_joins : (rest : List ℕ) (o : Option (Operator × ℕ)) → joins (number_lead rest o) ≡ false
unfolding number_lead
number_joins rest (Some found) = grind (arith, nat_tests)
number_joins rest None = refl

other_joins : (b : List ℕ) (i : ℕ) → joins (other_lead b First i) ≡ false
unfolding other_lead
other_joins b i =
    let digits = run is_digit (drop i b) in
    let rest = drop digits (drop i b) in
    grind (arith, nat_tests, number_joins rest (operator_of rest), word_joins b i (bare_word b i))

lead_joins : (b : List ℕ) (i : ℕ) (o : Option (Operator × ℕ)) → operator_of (drop i b) ≡ o → joins (lead_of b First i o) ≡ true → 2 ≤ length (drop i b)
unfolding lead_of operator_lead
lead_joins b i (Some found) is h =
    let w = operator_width (drop i b) found.0 found.1 is in
    let two : width_of found.0 ≡ 2 = whole_joins (drop found.1 (drop i b)) found.0 (grind (arith, nat_tests)) in
    let n = w.0 in
    let within = w.1 in
    omega arith
lead_joins b i None is h = absurd (true≢false (sym h ∙ grind (arith, nat_tests, other_joins b i)))

-- what joins two pipelines has two bytes
pub link_inside : (b : List ℕ) (i : ℕ) (k : Link) → link_of (lead_at b First i) ≡ Some k → i ≤ length b → i + 2 ≤ length b
unfolding lead_at
link_inside b i k h inside =
    let two = lead_joins b i (operator_of (drop i b)) refl (joins_link (lead_at b First i) k h) in
    omega (arith, length-drop i b)

-- what ends a clause has two bytes
pub clause_end_inside : (b : List ℕ) (i : ℕ) (e : ClauseEnd) → clause_end_of (lead_at b First i) ≡ Some e → i ≤ length b → i + 2 ≤ length b
unfolding lead_at
clause_end_inside b i e h inside =
    let two = lead_joins b i (operator_of (drop i b)) refl (ends_clause (lead_at b First i) e h) in
    omega (arith, length-drop i b)
