-- Rising lists of numbers, as sets.
use Rattle.std.proofs.Common.{◌≡◌, ℕ, zero, suc, ◌<◌, ◌≤◌, Bool, true, false, ◌||◌, ◌&&◌, List, [], ◌∷◌, length, get_or, refl, sym, ap, ◌∙◌, arith, ⊎_elim, add-one, take, drop, eqb, eq-eqb, le_refl}
use Rattle.std.proofs.Math.Nat.{eq-or-lt_of_le}
use Rattle.std.specs.List.{list_any, list_all, insert}
use Rattle.std.specs.List.Sorted.{IsStrictlyIncreasing}
use Rattle.std.proofs.lemmas.List.Folds.{list_any-append}
use Rattle.std.proofs.lemmas.Map.Views.{any-filter_same}
use Rattle.std.proofs.lemmas.List.{take-append-drop}
use Rattle.std.specs.List.{filter}
use Rattle.std.proofs.lemmas.Bool.{ne_eqb, eqb-true, cases_Bool, and_parts, or_cases, cases_lt}
use Rattle.sh_rows.specs.Numbers.{has_number}

pub rising_le : (xs : List ℕ) → IsStrictlyIncreasing xs → (i j : ℕ) → i ≤ j → j < length xs → get_or xs i 0 ≤ get_or xs j 0
rising_le xs r i zero le lt = let e : i ≡ 0 = omega arith in rw e (le_refl (get_or xs 0 0))
rising_le xs r i (suc j) le lt =
    ⊎_elim
    (λ (e : i ≡ suc j). rw e (le_refl (get_or xs (suc j) 0)))
    (λ (h : i < suc j).
    let before = rising_le xs r i j (omega arith) (omega arith) in
    let step : get_or xs j 0 < get_or xs (suc j) 0 = rw (← add-one j) (r j (omega arith)) in
    omega (arith, before, step))
    (eq-or-lt_of_le le)

pub has_number-none : (n : ℕ) (xs : List ℕ) → ((k : ℕ) → k < length xs → get_or xs k 0 ≡ n → ⊥) → has_number n xs ≡ false
has_number-none n [] h = refl
has_number-none n (x ∷ xs) h =
    let here : eqb n x ≡ false = ne_eqb n x (λ e. h 0 (omega arith) (sym e)) in
    let there = has_number-none n xs (λ k lt. h (suc k) (omega arith)) in
    rw (here, there) refl

or_swap : (a b c : Bool) → (a || (b || c)) ≡ (b || (a || c))
or_swap true true c = refl
or_swap true false c = refl
or_swap false b c = refl

pub has_number-insert : (k : ℕ) (xs : List ℕ) (i n : ℕ) → has_number k (insert xs i n) ≡ (eqb k n || has_number k xs)
has_number-insert k xs i n =
    let p = λ (x : ℕ). eqb k x in
    list_any-append p (take i xs) (n ∷ drop i xs)
    ∙ or_swap (list_any p (take i xs)) (eqb k n) (list_any p (drop i xs))
    ∙ ap (λ b. eqb k n || b) (sym (list_any-append p (take i xs) (drop i xs)) ∙ ap (list_any p) (take-append-drop i xs))

-- what a filter by membership keeps
pub has_number-filter : (k : ℕ) (p : ℕ → Bool) (xs : List ℕ) → has_number k (filter p xs) ≡ (p k && has_number k xs)
has_number-filter k p xs = any-filter_same (λ x. eqb k x) p (p k) (λ x e. ap p (sym (eqb-true k x e))) xs

pub within-from_all : (xs ys : List ℕ) → list_all (λ n. has_number n ys) xs ≡ true → (k : ℕ) → has_number k xs ≡ true → has_number k ys ≡ true
within-from_all [] ys all k h = cc
within-from_all (x ∷ xs) ys all k h =
    ⊎_elim
    (λ (e : eqb k x ≡ true). rw (eqb-true k x e) (and_parts (has_number x ys) (list_all (λ n. has_number n ys) xs) all).0)
    (λ (e : eqb k x ≡ false).
    let there : has_number k xs ≡ true = rw e at h in
    within-from_all xs ys (and_parts (has_number x ys) (list_all (λ n. has_number n ys) xs) all).1 k there)
    (cases_Bool (eqb k x))

pub all-from_within : (xs ys : List ℕ) → ((k : ℕ) → has_number k xs ≡ true → has_number k ys ≡ true) → list_all (λ n. has_number n ys) xs ≡ true
all-from_within [] ys h = refl
all-from_within (x ∷ xs) ys h =
    let here : has_number x ys ≡ true = h x (ap (λ b. b || has_number x xs) (eq-eqb x x refl)) in
    let there = all-from_within xs ys (λ k e. h k (ap (λ b. eqb k x || b) e ∙ or_true (eqb k x))) in
    rw (here, there) refl
  where
    or_true : (b : Bool) → (b || true) ≡ true
    or_true true = refl
    or_true false = refl

-- what is kept of numbers below a count is below it
pub below-filter : (count : ℕ) (p : ℕ → Bool) (xs : List ℕ) → ((k : ℕ) → has_number k xs ≡ true → k < count)
    → (k : ℕ) → has_number k (filter p xs) ≡ true → k < count
below-filter count p xs below k there = below k (and_parts (p k) (has_number k xs) (sym (has_number-filter k p xs) ∙ there)).1

-- and one more number below it
pub below-insert : (count n i : ℕ) (xs : List ℕ) → n < count → ((k : ℕ) → has_number k xs ≡ true → k < count)
    → (k : ℕ) → has_number k (insert xs i n) ≡ true → k < count
below-insert count n i xs lt below k there =
    ⊎_elim
    (λ (e : eqb k n ≡ true). let same : k ≡ n = eqb-true k n e in omega arith)
    (λ (e : has_number k xs ≡ true). below k e)
    (or_cases (eqb k n) (has_number k xs) (sym (has_number-insert k xs i n) ∙ there))

-- a number that is in the list is not one that would have to be put in

-- where a number would be, it is not
pub has_number-would : (n : ℕ) (xs : List ℕ) (i : ℕ) → ((k : ℕ) → k < i → get_or xs k 0 < n) → ((k : ℕ) → i ≤ k → k < length xs → n < get_or xs k 0) → has_number n xs ≡ false
has_number-would n xs i low high =
    has_number-none n xs (λ k lt e. ⊎_elim
    (λ (h : k < i). let below = low k h in absurd (omega (arith, below)))
    (λ (h : i ≤ k). let above = high k h lt in absurd (omega (arith, above)))
    (cases_lt k i))
