-- Sets of numbers of names, as facts.
use Rattle.std.proofs.Common.{◌≡◌, ℕ, zero, suc, ◌+◌, ◌<◌, ◌↔◌, min, Bool, true, false, not, ◌&&◌, ◌||◌, Option, Some, None, List, [], ◌∷◌, length, map, fold, refl, sym, ◌∙◌, ap, ap₂, subst, arith, inl, inr, eqb, is_some, slice_get, get_or, true≢false}
use Rattle.std.specs.List.{list_any, list_all, filter, position_from}
use Rattle.std.specs.Str.{bytes_eq}
use Rattle.std.proofs.lemmas.Bool.{and_parts, and_from, or_cases, or_left, or_right, cases_Bool, eq-eqb, eqb-true, false_from_ne_true}
use Rattle.std.specs.Prelude.{codes}
use Rattle.std.proofs.lemmas.Option.{slice_get_within, slice_get-get_or}
use Rattle.std.proofs.lemmas.Slice.Eq.{bytes_eq-Decides}
use Rattle.sh_tree.specs.standard.program.Syntax.{Text}
use Rattle.sh_tree.proofs.ListLemmas.{text_same}
use Rattle.sh_runs.specs.standard.runs.Environment.{is_one_of}
use Rattle.sh_runs.proofs.PositionLemmas.{bytes_eq_swap, is_placed}
use Rattle.sh_domain.specs.declared.knowledge.Assured.{Assured}
use Rattle.sh_domain.specs.declared.number_set.NumberSet.{NumberSet}
use Rattle.sh_domain.specs.declared.rows.RowId.{RowId}
use Rattle.sh_domain.specs.Certificates.{in_byte_order, names_at, numbered, placed}
use Rattle.sh_domain.specs.Facts.{meet}
use Rattle.sh_domain.specs.Gains.{named, with_gains}
use Rattle.sh_domain.specs.KeptRows.{KeptRows, holds_at}
use Rattle.sh_domain.specs.Knowledge.{AreNumbered, among, assured_facts, at_number, contains}
use Rattle.sh_domain.specs.Names.{number_of}
use Rattle.sh_domain.specs.NumberSets.{numbers_of}
use Rattle.sh_domain.specs.Sheets.{precedes}
use Rattle.sh_domain.specs.Views.{Certificate, Define, Lose, left, passes, step, where_known}
use Rattle.sh_domain.proofs.MeetLemmas.{known_same}
use Rattle.sh_domain.proofs.OrderLemmas.{all_among, among_all}

-- two tests that hold together are one
pub same_tests : (a b : Bool) → (a ≡ true → b ≡ true) → (b ≡ true → a ≡ true) → a ≡ b
same_tests true b h k = sym (h refl)
same_tests false true h k = k refl
same_tests false false h k = refl

-- Numbers of names

-- a name that has a number is there
pub place_of : (names : List Text) (i k : ℕ) (t : Text) → position_from (λ n. bytes_eq n t) i names ≡ Some k → (j : ℕ) × (k ≡ i + j) × (slice_get names j ≡ Some t)
place_of [] i k t e = cc
place_of (n ∷ names) i k t e = elim (cases_Bool (bytes_eq n t)) [
  | inl s ↦
      let here : Some i ≡ Some k = rw s at e in
      let same : i ≡ k = cc in
      let text : n ≡ t = (bytes_eq-Decides n t).0 s in
      (0, omega arith, ap Some text)
  | inr s ↦
      let there : position_from (λ m. bytes_eq m t) (i + 1) names ≡ Some k = rw s at e in
      let rest = place_of names (i + 1) k t there in
      (suc rest.0, (let far = rest.1 in omega arith), rest.2)
]

pub stands_there : (names : List Text) (k : ℕ) (t : Text) → number_of names t ≡ Some k → slice_get names k ≡ Some t
stands_there names k t e =
    let place = place_of names 0 k t e in
    let same : place.0 ≡ k = (let far = place.1 in omega arith) in
    subst (λ j. slice_get names j ≡ Some t) same place.2

-- two names with one number are one
pub one_number : (names : List Text) (k : ℕ) (t u : Text) → number_of names t ≡ Some k → number_of names u ≡ Some k → t ≡ u
one_number names k t u e f = let a = stands_there names k t e in let b = stands_there names k u f in cc

-- a name has a number if it is one of them
pub has_number : (names : List Text) (t : Text) → is_one_of names t ≡ is_some (number_of names t)
has_number names t = sym (is_placed names t 0)

-- the number is the name's where the names are the same
pub number_is_name : (names : List Text) (n k : ℕ) (name t : Text) → number_of names name ≡ Some n → number_of names t ≡ Some k → eqb k n ≡ bytes_eq name t
number_is_name names n k name t e f = same_tests (eqb k n) (bytes_eq name t)
    (λ h.
    let same : k ≡ n = eqb-true k n h in
    let text : name ≡ t = one_number names n name t e (f ∙ ap Some same) in
    (bytes_eq-Decides name t).1 text)
    (λ h.
    let text : name ≡ t = (bytes_eq-Decides name t).0 h in
    let both : Some n ≡ Some k = sym e ∙ ap (number_of names) text ∙ f in
    eq-eqb k n cc)

-- a set of no numbers
pub none_in : (names : List Text) (p : ℕ → Bool) → ((k : ℕ) → p k ≡ false) → (t : Text) → at_number p (number_of names t) ≡ false
unfolding at_number
none_in names p h t = by_number (number_of names t)
  where
    by_number : (o : Option ℕ) → at_number p o ≡ false
    by_number None = refl
    by_number (Some k) = h k

-- One name more, and one less

module _ (names : List Text) (name : Text) (n : ℕ) (old new : ℕ → Bool) (is : number_of names name ≡ Some n) where
  added_at : (t : Text) (o : Option ℕ) → number_of names t ≡ o → ((k : ℕ) → new k ≡ (eqb k n || old k))
      → at_number new o ≡ (is_some o && (bytes_eq name t || at_number old o))
  unfolding at_number
  added_at t None e h = refl
  added_at t (Some k) e h = h k ∙ ap (λ b. b || old k) (number_is_name names n k name t is e)

  removed_at : (t : Text) (o : Option ℕ) → number_of names t ≡ o → ((k : ℕ) → new k ≡ (not (eqb k n) && old k))
      → at_number new o ≡ (at_number old o && not (bytes_eq name t))
  unfolding at_number
  removed_at t None e h = refl
  removed_at t (Some k) e h = h k ∙ ap (λ b. not b && old k) (number_is_name names n k name t is e) ∙ turned (bytes_eq name t) (old k)
    where
      turned : (a b : Bool) → (not a && b) ≡ (b && not a)
      turned true true = refl
      turned true false = refl
      turned false true = refl
      turned false false = refl

pub added : (names : List Text) (name : Text) (n : ℕ) (old new : ℕ → Bool) → Some n ≡ number_of names name → ((k : ℕ) → new k ≡ (eqb k n || old k))
    → (t : Text) → at_number new (number_of names t) ≡ (is_one_of names t && (bytes_eq name t || at_number old (number_of names t)))
added names name n old new is h t =
    added_at names name n old new (sym is) t (number_of names t) refl h
    ∙ ap (λ b. b && (bytes_eq name t || at_number old (number_of names t))) (sym (has_number names t))

pub removed : (names : List Text) (name : Text) (n : ℕ) (old new : ℕ → Bool) → Some n ≡ number_of names name → ((k : ℕ) → new k ≡ (not (eqb k n) && old k))
    → (t : Text) → at_number new (number_of names t) ≡ (at_number old (number_of names t) && not (bytes_eq name t))
removed names name n old new is h t = removed_at names name n old new (sym is) t (number_of names t) refl h

-- what has no number is not added, and need not be removed
unnumbered : (names : List Text) (name t : Text) → number_of names name ≡ None → bytes_eq name t ≡ true → number_of names t ≡ None
unnumbered names name t e s = let text : name ≡ t = (bytes_eq-Decides name t).0 s in subst (λ u. number_of names u ≡ None) text e

pub not_added : (names : List Text) (name : Text) (old : ℕ → Bool) → None ≡ number_of names name
    → (t : Text) → at_number old (number_of names t) ≡ (is_one_of names t && (bytes_eq name t || at_number old (number_of names t)))
unfolding at_number
not_added names name old e t = by_number (number_of names t) refl ∙ ap (λ b. b && (bytes_eq name t || at_number old (number_of names t))) (sym (has_number names t))
  where
    by_number : (o : Option ℕ) → number_of names t ≡ o → at_number old (number_of names t) ≡ (is_some (number_of names t) && (bytes_eq name t || at_number old (number_of names t)))
    by_number None f = rw f refl
    by_number (Some k) f =
        let other : bytes_eq name t ≡ false = false_from_ne_true (bytes_eq name t) (λ s. let none = unnumbered names name t (sym e) s in cc) in
        rw (f, other) refl

pub not_removed : (names : List Text) (name : Text) (old : ℕ → Bool) → None ≡ number_of names name
    → (t : Text) → at_number old (number_of names t) ≡ (at_number old (number_of names t) && not (bytes_eq name t))
unfolding at_number
not_removed names name old e t = by_number (number_of names t) refl
  where
    stays : (b : Bool) → b ≡ (b && true)
    stays true = refl
    stays false = refl

    by_number : (o : Option ℕ) → number_of names t ≡ o → at_number old (number_of names t) ≡ (at_number old (number_of names t) && not (bytes_eq name t))
    by_number None f = rw f refl
    by_number (Some k) f =
        let other : bytes_eq name t ≡ false = false_from_ne_true (bytes_eq name t) (λ s. let none = unnumbered names name t (sym e) s in cc) in
        rw (f, other) (stays (old k))

-- a name of a set has a number
pub numbered_only : (names : List Text) (p : ℕ → Bool) (t : Text) → at_number p (number_of names t) ≡ (is_one_of names t && at_number p (number_of names t))
unfolding at_number
numbered_only names p t = by_number (number_of names t) ∙ ap (λ b. b && at_number p (number_of names t)) (sym (has_number names t))
  where
    by_number : (o : Option ℕ) → at_number p o ≡ (is_some o && at_number p o)
    by_number None = refl
    by_number (Some k) = refl

-- the numbers of names are below the count
pub few_numbers : (names : List Text) → AreNumbered names → (k : ℕ) (t : Text) → number_of names t ≡ Some k → k < 4096
few_numbers names h k t e = let lt = slice_get_within names k t (stands_there names k t e) in let few = h.few in omega arith

-- Rows, by the names of their numbers

filter_any : (p : ℕ → Bool) (t : Text) (order : List (ℕ × Text)) → is_one_of (map (λ (x : ℕ × Text). x.1) (filter (λ (x : ℕ × Text). p x.0) order)) t ≡ list_any (λ (x : ℕ × Text). p x.0 && bytes_eq x.1 t) order
filter_any p t [] = refl
filter_any p t (x ∷ order) = elim (cases_Bool (p x.0)) [
  | inl s ↦ rw (s, filter_any p t order) refl
  | inr s ↦ rw (s, filter_any p t order) refl
]

placed_any : (q : ℕ × Text → Bool) (ys : List (ℕ × Text)) (x : ℕ × Text) → list_any q (placed ys x) ≡ (q x || list_any q ys)
unfolding placed
placed_any q [] x = refl
placed_any q (y ∷ ys) x = elim (cases_Bool (precedes x.1 y.1)) [
  | inl s ↦ rw s refl
  | inr s ↦ rw (s, placed_any q ys x) (turned (q y) (q x) (list_any q ys))
]
  where
    turned : (a b c : Bool) → (a || (b || c)) ≡ (b || (a || c))
    turned true true c = refl
    turned true false c = refl
    turned false true c = refl
    turned false false c = refl

all_placed_any : (q : ℕ × Text → Bool) (ys xs : List (ℕ × Text)) → list_any q (fold placed ys xs) ≡ (list_any q xs || list_any q ys)
all_placed_any q ys [] = refl
all_placed_any q ys (x ∷ xs) = all_placed_any q (placed ys x) xs ∙ ap (λ b. list_any q xs || b) (placed_any q ys x) ∙ turned (list_any q xs) (q x) (list_any q ys)
  where
    turned : (a b c : Bool) → (a || (b || c)) ≡ ((b || a) || c)
    turned true true c = refl
    turned true false c = refl
    turned false true c = refl
    turned false false c = refl

pub or_none : (b : Bool) → (b || false) ≡ b
or_none true = refl
or_none false = refl

in_order_any : (q : ℕ × Text → Bool) (names : List Text) → list_any q (in_byte_order names) ≡ list_any q (numbered 0 names)
in_order_any q names = all_placed_any q [] (numbered 0 names) ∙ or_none (list_any q (numbered 0 names))

-- some name with its number
any_numbered : (q : ℕ × Text → Bool) (i : ℕ) (names : List Text) → list_any q (numbered i names) ≡ true → (j : ℕ) × (t : Text) × (slice_get names j ≡ Some t) × (q (i + j, t) ≡ true)
unfolding numbered
any_numbered q i [] e = absurd (true≢false (sym e))
any_numbered q i (n ∷ names) e = elim (or_cases (q (i, n)) (list_any q (numbered (i + 1) names)) e) [
  | inl s ↦ (0, n, refl, (let same : i + 0 ≡ i = omega arith in rw same s))
  | inr s ↦ let r = any_numbered q (i + 1) names s in (suc r.0, r.1, r.2, (let same : i + suc r.0 ≡ (i + 1) + r.0 = omega arith in rw same r.3))
]

numbered_any : (q : ℕ × Text → Bool) (i : ℕ) (names : List Text) (j : ℕ) (t : Text) → slice_get names j ≡ Some t → q (i + j, t) ≡ true → list_any q (numbered i names) ≡ true
unfolding numbered
numbered_any q i [] j t e h = cc
numbered_any q i (n ∷ names) zero t e h =
    let text : n ≡ t = cc in
    let same : i + 0 ≡ i = omega arith in
    let here : q (i, n) ≡ true = rw (text, ← same) h in
    or_left (q (i, n)) (list_any q (numbered (i + 1) names)) here
numbered_any q i (n ∷ names) (suc j) t e h =
    let same : i + suc j ≡ (i + 1) + j = omega arith in
    or_right (q (i, n)) (list_any q (numbered (i + 1) names)) (numbered_any q (i + 1) names j t e (rw same at h))

-- a name is among those of a row where its number is in the row
pub row_names : (names : List Text) → AreNumbered names → (p : ℕ → Bool) (t : Text)
    → is_one_of (map (λ (x : ℕ × Text). x.1) (filter (λ (x : ℕ × Text). p x.0) (in_byte_order names))) t ≡ at_number p (number_of names t)
unfolding at_number
row_names names h p t = filter_any p t (in_byte_order names) ∙ in_order_any (λ (x : ℕ × Text). p x.0 && bytes_eq x.1 t) names ∙ by_number (number_of names t) refl
  where
    from : (o : Option ℕ) → number_of names t ≡ o → at_number p o ≡ true → list_any (λ (x : ℕ × Text). p x.0 && bytes_eq x.1 t) (numbered 0 names) ≡ true
    from None e a = absurd (true≢false (sym a))
    from (Some k) e a =
        let same : 0 + k ≡ k = omega arith in
        numbered_any (λ (x : ℕ × Text). p x.0 && bytes_eq x.1 t) 0 names k t (stands_there names k t e) (rw same (and_from (p k) (bytes_eq t t) a (text_same t)))

    by_number : (o : Option ℕ) → number_of names t ≡ o → list_any (λ (x : ℕ × Text). p x.0 && bytes_eq x.1 t) (numbered 0 names) ≡ at_number p o
    by_number o e = same_tests _ _
        (λ a.
        let some = any_numbered (λ (x : ℕ × Text). p x.0 && bytes_eq x.1 t) 0 names a in
        let both = and_parts (p (0 + some.0)) (bytes_eq some.1 t) some.3 in
        let place : 0 + some.0 ≡ some.0 = omega arith in
        let text : some.1 ≡ t = (bytes_eq-Decides some.1 t).0 both.1 in
        let own : number_of names some.1 ≡ Some some.0 = h.own some.0 some.1 some.2 in
        let is : o ≡ Some some.0 = sym e ∙ sym (ap (number_of names) text) ∙ own in
        let there : p some.0 ≡ true = rw place at both.0 in
        subst (λ n. at_number p n ≡ true) (sym is) there)
        (λ a. from o e a)

-- Steps

and_true : (b : Bool) → b ≡ (b && true)
and_true true = refl
and_true false = refl

pub gained : (names : List Text) (name : Text) (s : Assured) (v : NumberSet) → ((t : Text) → contains names v t ≡ (is_one_of names t && (bytes_eq name t || contains names s.vars t)))
    → assured_facts names (record s { vars = v }) ≡ among names (with_gains (named (name ∷ [])) (assured_facts names s))
unfolding among with_gains
gained names name s v h = known_same _ _ _ _ _ _
    (λ t. h t ∙ ap (λ b. is_one_of names t && (b || contains names s.vars t)) (sym (or_none (bytes_eq name t))))
    (λ t. numbered_only names (numbers_of s.functions) t)
    (omega arith)

pub defined : (names : List Text) (c : Certificate) (name : Text) (s : Assured) (f : NumberSet) → ((t : Text) → contains names f t ≡ (is_one_of names t && (bytes_eq name t || contains names s.functions t)))
    → assured_facts names (record s { functions = f }) ≡ among names (step c (Define name) (assured_facts names s))
unfolding among step where_known
defined names c name s f h = known_same _ _ _ _ _ _ (λ t. numbered_only names (numbers_of s.vars) t) h refl

pub variable_lost : (names : List Text) (c : Certificate) (name : Text) (s : Assured) (v : NumberSet) → ((t : Text) → contains names v t ≡ (contains names s.vars t && not (bytes_eq name t)))
    → assured_facts names (record s { vars = v }) ≡ step c (Lose (record { vars = name ∷ []; functions = [] })) (assured_facts names s)
unfolding step where_known
variable_lost names c name s v h = known_same _ _ _ _ _ _
    (λ t. h t ∙ ap (λ b. contains names s.vars t && not b) (sym (or_none (bytes_eq name t))))
    (λ t. and_true (contains names s.functions t))
    refl

pub function_lost : (names : List Text) (c : Certificate) (name : Text) (s : Assured) (f : NumberSet) → ((t : Text) → contains names f t ≡ (contains names s.functions t && not (bytes_eq name t)))
    → assured_facts names (record s { functions = f }) ≡ step c (Lose (record { vars = []; functions = name ∷ [] })) (assured_facts names s)
unfolding step where_known
function_lost names c name s f h = known_same _ _ _ _ _ _
    (λ t. and_true (contains names s.vars t))
    (λ t. h t ∙ ap (λ b. contains names s.functions t && not b) (sym (or_none (bytes_eq name t))))
    refl

-- Meets

both_at : (a b new : ℕ → Bool) → ((k : ℕ) → new k ≡ (b k && a k)) → (o : Option ℕ) → at_number new o ≡ (at_number a o && at_number b o)
unfolding at_number
both_at a b new h None = refl
both_at a b new h (Some k) = h k ∙ turned (b k) (a k)
  where
    turned : (x y : Bool) → (x && y) ≡ (y && x)
    turned true true = refl
    turned true false = refl
    turned false true = refl
    turned false false = refl

pub met : (names : List Text) (s u w : Assured) → ((k : ℕ) → numbers_of w.vars k ≡ (numbers_of u.vars k && numbers_of s.vars k))
    → ((k : ℕ) → numbers_of w.functions k ≡ (numbers_of u.functions k && numbers_of s.functions k)) → w.args ≡ min s.args u.args
    → assured_facts names w ≡ meet (assured_facts names s) (assured_facts names u)
unfolding meet
met names s u w v f a = known_same _ _ _ _ _ _
    (λ t. both_at (numbers_of s.vars) (numbers_of u.vars) (numbers_of w.vars) v (number_of names t))
    (λ t. both_at (numbers_of s.functions) (numbers_of u.functions) (numbers_of w.functions) f (number_of names t))
    a

-- Calls

module _ (names : List Text) (h : AreNumbered names) where
  -- what a row holds, of a name
  pub in_row : (rows : KeptRows) (id : RowId) (t : Text) → is_one_of (names_at (in_byte_order names) rows id) t ≡ at_number (λ k. holds_at rows.rows id.index k) (number_of names t)
  in_row rows id t = row_names names h (λ k. holds_at rows.rows id.index k) t

  -- a set with the numbers of a row
  pub row_set : (rows : KeptRows) (id : RowId) (new : ℕ → Bool) → ((k : ℕ) → k < 4096 → new k ≡ holds_at rows.rows id.index k)
      → (t : Text) → at_number new (number_of names t) ≡ is_one_of (names_at (in_byte_order names) rows id) t
  unfolding at_number
  row_set rows id new e t = by_number (number_of names t) refl ∙ sym (in_row rows id t)
    where
      by_number : (o : Option ℕ) → number_of names t ≡ o → at_number new o ≡ at_number (λ k. holds_at rows.rows id.index k) o
      by_number None is = refl
      by_number (Some k) is = e k (few_numbers names h k t is)

  -- what is left without a row
  pub row_left : (rows : KeptRows) (id : RowId) (old new : ℕ → Bool) → ((k : ℕ) → new k ≡ (not (holds_at rows.rows id.index k) && old k))
      → (t : Text) → at_number new (number_of names t) ≡ (at_number old (number_of names t) && not (is_one_of (names_at (in_byte_order names) rows id) t))
  unfolding at_number
  row_left rows id old new e t = by_number (number_of names t) ∙ ap (λ b. at_number old (number_of names t) && not b) (sym (in_row rows id t))
    where
      turned : (a b : Bool) → (not a && b) ≡ (b && not a)
      turned true true = refl
      turned true false = refl
      turned false true = refl
      turned false false = refl

      by_number : (o : Option ℕ) → at_number new o ≡ (at_number old o && not (at_number (λ k. holds_at rows.rows id.index k) o))
      by_number None = refl
      by_number (Some k) = e k ∙ turned (holds_at rows.rows id.index k) (old k)

  -- and with another one
  pub row_back : (rows : KeptRows) (id back : RowId) (old mid new : ℕ → Bool) → ((k : ℕ) → mid k ≡ (not (holds_at rows.rows id.index k) && old k))
      → ((k : ℕ) → k < 4096 → new k ≡ (holds_at rows.rows back.index k || mid k))
      → (t : Text) → at_number new (number_of names t)
      ≡ ((at_number old (number_of names t) && not (is_one_of (names_at (in_byte_order names) rows id) t)) || is_one_of (names_at (in_byte_order names) rows back) t)
  unfolding at_number
  row_back rows id back old mid new e f t =
      by_number (number_of names t) refl
      ∙ ap₂ (λ a b. a || b) (row_left rows id old mid e t) (sym (in_row rows back t))
    where
      turned : (a b : Bool) → (a || b) ≡ (b || a)
      turned true true = refl
      turned true false = refl
      turned false true = refl
      turned false false = refl

      by_number : (o : Option ℕ) → number_of names t ≡ o → at_number new o ≡ (at_number mid o || at_number (λ k. holds_at rows.rows back.index k) o)
      by_number None is = refl
      by_number (Some k) is = f k (few_numbers names h k t is) ∙ turned (holds_at rows.rows back.index k) (mid k)

  -- and without the names of prefixes that were not there
  pub row_prefixes : (old left new prefixes lost : ℕ → Bool) (before : List Text) → ((k : ℕ) → lost k ≡ (not (old k) && prefixes k)) → ((k : ℕ) → new k ≡ (not (lost k) && left k))
      → ((t : Text) → is_one_of names t ≡ true → at_number prefixes (number_of names t) ≡ is_one_of before t)
      → (t : Text) → at_number new (number_of names t) ≡ (at_number left (number_of names t) && (at_number old (number_of names t) || not (is_one_of before t)))
  unfolding at_number
  row_prefixes old left new prefixes lost before e f p t = by_number (number_of names t) refl
    where
      turned : (a b l : Bool) → (not (not a && b) && l) ≡ (l && (a || not b))
      turned true b true = refl
      turned true b false = refl
      turned false true true = refl
      turned false true false = refl
      turned false false true = refl
      turned false false false = refl

      by_number : (o : Option ℕ) → number_of names t ≡ o → at_number new o ≡ (at_number left o && (at_number old o || not (is_one_of before t)))
      by_number None is = refl
      by_number (Some k) is =
          let one : is_one_of names t ≡ true = has_number names t ∙ ap is_some is in
          let same : prefixes k ≡ is_one_of before t = ap (at_number prefixes) (sym is) ∙ p t one in
          f k ∙ ap (λ b. not b && left k) (e k) ∙ turned (old k) (prefixes k) (left k) ∙ ap (λ b. left k && (old k || not b)) same

-- if the utility was `getopts`, OPTARG is gone too, and if it was another one, nothing more
pub either_with : (function t : Text) (mid new kept : Bool) → bytes_eq function (codes "getopts") ≡ true → new ≡ (mid && not (bytes_eq (codes "OPTARG") t)) → mid ≡ kept
    → new ≡ (kept && passes function t)
unfolding passes
either_with function t mid new kept g e m = rw g (e ∙ ap₂ (λ a b. a && not b) m (bytes_eq_swap (codes "OPTARG") t))

pub either_without : (function t : Text) (mid new kept : Bool) → bytes_eq function (codes "getopts") ≡ false → new ≡ mid → mid ≡ kept → new ≡ (kept && passes function t)
unfolding passes
either_without function t mid new kept g e m = rw g (e ∙ m ∙ and_true kept)

-- Inclusion

-- a row is within a set where its names are in it
pub names_within : (names : List Text) → AreNumbered names → (rows : KeptRows) (id : RowId) (s : ℕ → Bool) (b : Bool) → (b ≡ true) ↔ ((k : ℕ) → holds_at rows.rows id.index k ≡ true → s k ≡ true)
    → ((k : ℕ) → holds_at rows.rows id.index k ≡ true → k < length names)
    → b ≡ list_all (λ t. at_number s (number_of names t)) (names_at (in_byte_order names) rows id)
unfolding at_number
names_within names h rows id s b test below = same_tests b _
    (λ e. all_among _ _ (λ t there. here e t (number_of names t) refl (sym (in_row names h rows id t) ∙ there)))
    (λ all. test.1 (λ k there.
    let lt = below k there in
    let t = get_or names k [] in
    let at : slice_get names k ≡ Some t = slice_get-get_or names k [] lt in
    let own : number_of names t ≡ Some k = h.own k t at in
    let one : is_one_of (names_at (in_byte_order names) rows id) t ≡ true = in_row names h rows id t ∙ ap (at_number (λ n. holds_at rows.rows id.index n)) own ∙ there in
    sym (ap (at_number s) own) ∙ among_all (λ u. at_number s (number_of names u)) _ all t one))
  where
    here : b ≡ true → (t : Text) (o : Option ℕ) → number_of names t ≡ o → at_number (λ k. holds_at rows.rows id.index k) o ≡ true → at_number s o ≡ true
    here e t None is there = absurd (true≢false (sym there))
    here e t (Some k) is there = test.0 e k there

-- The start

pub and_none : (b : Bool) → (b && false) ≡ false
and_none true = refl
and_none false = refl

same_names : (a b c d : Bool) → (d || (c || (b || (a || false)))) ≡ ((a || (b || (c || false))) || d)
same_names true true true true = refl
same_names true true true false = refl
same_names true true false true = refl
same_names true true false false = refl
same_names true false true true = refl
same_names true false true false = refl
same_names true false false true = refl
same_names true false false false = refl
same_names false true true true = refl
same_names false true true false = refl
same_names false true false true = refl
same_names false true false false = refl
same_names false false true true = refl
same_names false false true false = refl
same_names false false false true = refl
same_names false false false false = refl

-- names that are added one after the other
pub started : (i none a b c d one two three all : Bool) → none ≡ false → one ≡ (i && (a || none)) → two ≡ (i && (b || one)) → three ≡ (i && (c || two)) → all ≡ (i && (d || three))
    → all ≡ (i && ((a || (b || (c || false))) || d))
started false none a b c d one two three all n f s t u = u
started true none a b c d one two three all n f s t u =
    u ∙ ap (λ x. d || x) (t ∙ ap (λ x. c || x) (s ∙ ap (λ x. b || x) (f ∙ ap (λ x. a || x) n))) ∙ same_names a b c d

-- a row is within itself
pub same_row : (order : List (ℕ × Text)) (rows : KeptRows) (part whole : RowId) → part.index ≡ whole.index
    → list_all (is_one_of (names_at order rows whole)) (names_at order rows part) ≡ true
same_row order rows part whole e =
    all_among _ (names_at order rows part)
    (λ t h. subst (λ (i : ℕ). is_one_of (map (λ (x : ℕ × Text). x.1) (filter (λ (x : ℕ × Text). holds_at rows.rows i x.0) order)) t ≡ true) e h)
