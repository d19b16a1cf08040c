-- Tokens of commands and the lines of here-documents go on in the text.
use Rattle.std.proofs.Common.{◌≡◌, ℕ, zero, suc, ◌+◌, ◌<◌, ◌≤◌, ◌==◌, Bool, true, false, not, cond, Option, Some, None, List, [], ◌∷◌, ◌++◌, length, drop, nat_eq, nat_le, nat_lt, refl, sym, ap, subst, ◌∙◌, ⊎_elim, arith}
use Rattle.std.specs.List.{list_all, starts_with}
use Rattle.std.specs.Str.{bytes_eq}
use Rattle.std.proofs.lemmas.Bool.{true≢false, and_parts, cases_lt, le-leb}
use Rattle.std.proofs.lemmas.List.{drop_all}
use Rattle.std.proofs.lemmas.Option.{same_Some}
use Rattle.sh_tree.specs.declared.tree.Kind.{Kind}
use Rattle.sh_tree.specs.declared.tree.Span.{Span}
use Rattle.sh_tree.specs.declared.token.command.Lead.{Lead}
use Rattle.sh_tree.specs.declared.token.command.Lead.TheVariants as lead
use Rattle.sh_tree.specs.declared.token.command.Operator.{Operator}
use Rattle.sh_tree.specs.declared.token.command.Redirection.{Redirection}
use Rattle.sh_tree.specs.declared.token.command.Stage.{Stage}
use Rattle.sh_tree.specs.standard.language.Bytes.{longest}
use Rattle.sh_tree.specs.standard.language.Commands.{blanks, name_end, lead_of, lead_at, operator_of, operator, redirection, redirection_by, redirects, digits_end, further, long_operators, short_operators, begins_simple, is_redirection}
use Rattle.sh_tree.specs.standard.language.HereDocuments.{Mark, end_line, end_line_within, behind_line, line_end, end_candidate}
use Rattle.sh_tree.specs.standard.language.Reading as r
use Rattle.sh_tree.specs.standard.language.Reading.{ReadsCompound}
use Rattle.sh_tree.specs.standard.language.States.{State, Document}
use Rattle.sh_tree.specs.standard.language.Trees.{span}

pub blanks_move : (joins : Bool) (b : List ℕ) (i : ℕ) → i ≤ blanks joins b i
unfolding blanks
blanks_move joins b i = omega arith

pub name_moves : (b : List ℕ) (i : ℕ) → i ≤ name_end b i
unfolding name_end
name_moves b i = omega arith

-- no text of the table is empty
abbrev has_length : List ℕ × Operator → Bool
has_length x = not (length x.0 == 0)

longest_some : (table : List (List ℕ × Operator)) (cs : List ℕ) (o : Operator × ℕ) → list_all has_length table ≡ true → longest table cs ≡ Some o → 0 < o.1
unfolding longest
longest_some [] cs o h e = cc
longest_some (x ∷ xs) cs o h e =
    let both = and_parts (has_length x) (list_all has_length xs) h in
    go (starts_with nat_eq cs x.0) e (length x.0) refl both.0 (longest_some xs cs o both.1)
  where
    go : (t : Bool) → cond t (Some (x.1, length x.0)) (longest xs cs) ≡ Some o → (n : ℕ) → n ≡ length x.0 → not (n == 0) ≡ true → (longest xs cs ≡ Some o → 0 < o.1) → 0 < o.1
    go true k zero is some rest = absurd (true≢false (sym some))
    go true k (suc n) is some rest = let same : length x.0 ≡ o.1 = ap (λ y. y.1) (same_Some (x.1, length x.0) o k) in omega arith
    go false k n is some rest = rest k

-- a redirection's operator takes a byte
pub redirection_moves : (b : List ℕ) (i : ℕ) (o : Redirection) → redirection b i ≡ Some o → i < o.end
unfolding redirection operator operator_of
redirection_moves b i o h = go (longest (long_operators ++ short_operators) (drop (digits_end b i) b)) refl h
  where
    inner : (t : Bool) (x : Operator × ℕ) (o' : Redirection) → 0 < x.1 → o'.end ≡ digits_end b i + x.1 → cond t (Some o') None ≡ Some o → i < o.end
    inner true x o' some at k = let same : o'.end ≡ o.end = ap (λ y. y.end) (same_Some o' o k) in omega arith
    inner false x o' some at k = cc

    go : (found : Option (Operator × ℕ)) → longest (long_operators ++ short_operators) (drop (digits_end b i) b) ≡ found
        → redirection_by i (digits_end b i) (further (digits_end b i) found) ≡ Some o → i < o.end
    go None is k = cc
    go (Some x) is k = inner (redirects x.0) x _ (longest_some (long_operators ++ short_operators) (drop (digits_end b i) b) x refl is) refl k

abbrev pub is_end : Lead → Bool
is_end lead.End = true
is_end _ = false

-- a token other than the end is one of the text
pub lead_inside : (b : List ℕ) (g : Stage) (i : ℕ) → is_end (lead_at b g i) ≡ false → i < length b
unfolding lead_at lead_of operator_of longest
lead_inside b g i h = ⊎_elim (λ l. l) (λ l. absurd (true≢false (sym (past l) ∙ h))) (cases_lt i (length b))
  where
    past : length b ≤ i → is_end (lead_at b g i) ≡ true
    past l =
        let none : drop i b ≡ [] = drop_all i b l in
        let most : nat_le (length b) i ≡ true = le-leb (length b) i l in
        rw (none, most) refl

pub simple_inside : (l : Lead) → begins_simple l ≡ true → is_end l ≡ false
unfolding begins_simple is_redirection
simple_inside lead.End h = absurd (true≢false (sym h))
simple_inside l h = refl

pub compound_inside : {limit : ℕ} {b : List ℕ} {body : ℕ → Document} {l : Lead} {s u : State} {k : Kind} → ReadsCompound limit b body l s u k → is_end l ≡ false
compound_inside (r.group d t h) = refl
compound_inside (r.subshell d t h) = refl
compound_inside (r.cond d bs) = refl
compound_inside (r.while_loop d c t) = refl
compound_inside (r.until_loop d c t) = refl
compound_inside (r.for_loop d n ws t) = refl
compound_inside (r.case_of d h w k i j cs) = refl

-- Here-documents

pub line_behind : (b : List ℕ) (e : ℕ) → e ≤ behind_line b e
line_behind b e = go (nat_lt e (length b))
  where
    go : (t : Bool) → e ≤ cond t (e + 1) e
    go true = omega arith
    go false = omega arith

end_within : (n : ℕ) (m : Mark) (b : List ℕ) (i : ℕ) (l : Span) → end_line_within n m b i ≡ Some l → (i ≤ l.start) × (l.start ≤ l.end)
unfolding end_line_within line_end
end_within zero m b i l h = cc
end_within (suc n) m b i l h =
    let e = line_end (not m.quoted) b i in
    go (not (nat_lt i (length b))) (bytes_eq (end_candidate m b i) m.delimiter) h (λ k. let on = end_within n m b (behind_line b e) l k in let more = line_behind b e in let first = on.0 in (omega arith, on.1))
  where
    go : (s t : Bool) → cond s None (cond t (Some (span i (line_end (not m.quoted) b i))) (end_line_within n m b (behind_line b (line_end (not m.quoted) b i)))) ≡ Some l
        → (end_line_within n m b (behind_line b (line_end (not m.quoted) b i)) ≡ Some l → (i ≤ l.start) × (l.start ≤ l.end)) → (i ≤ l.start) × (l.start ≤ l.end)
    go true t k rest = cc
    go false true k rest = subst (λ (z : Span). (i ≤ z.start) × (z.start ≤ z.end)) (same_Some (span i (line_end (not m.quoted) b i)) l k) (omega arith, omega arith)
    go false false k rest = rest k

pub end_line_moves : (m : Mark) (b : List ℕ) (i : ℕ) (l : Span) → end_line m b i ≡ Some l → (i ≤ l.start) × (l.start ≤ l.end)
unfolding end_line
end_line_moves m b i l h = end_within (length b) m b i l h
