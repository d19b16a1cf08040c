-- Of rows with the same elements only one is in order, if the order separates all elements.
use Rattle.std.proofs.Common.{◌≡◌, ℕ, zero, suc, ◌≤◌, ◌<◌, ◌+◌, Bool, true, false, cond, List, [], ◌∷◌, length, map, get_or, inl, inr, refl, sym, ◌∙◌, ap, arith}
use Rattle.std.specs.List.{Contains, sum_by}
use Rattle.std.specs.List.Sorted.{IsPermutation, IsSortedByKey}
use Rattle.std.specs.Cmp.{IsTotalOrder}
use Rattle.std.proofs.lemmas.List.Sorted.{ranks_by, sorted_far, sum_by-IsPermutation}
use Rattle.std.specs.Ordering.{is_lt, is_eq, ordering_reverse}
use Rattle.std.specs.declared.cmp.Ordering.{Ordering}
use Rattle.std.specs.declared.cmp.Ordering.TheVariants.{Less, Equal, Greater}
use Rattle.std.proofs.lemmas.Bool.{cases_Bool, true≢false}
use Rattle.std.proofs.lemmas.List.Sums.{sum_by-cons}
use Rattle.std.proofs.lemmas.Map.Lookups.{CmpEqualImpliesEq}
use Rattle.sh_reads.specs.Spots.{EachOnce}

module _ {K : Type 0} (cmp : K → K → Ordering) (order : IsTotalOrder cmp) (exact : CmpEqualImpliesEq cmp) where
  -- an element is no greater than each of a row
  unfoldable pub Least : K → List K → Type 0
  Least x [] = Unit {0}
  Least x (y ∷ ys) = (is_lt (cmp y x) ≡ false) × Least x ys

  -- each is no greater than those after it
  unfoldable pub Rises : List K → Type 0
  Rises [] = Unit {0}
  Rises (x ∷ xs) = Least x xs × Rises xs

  -- how often an element occurs in a row
  abbrev pub times : K → List K → ℕ
  times x xs = sum_by (λ y. cond (is_eq (cmp x y)) 1 0) xs

  not_less : (x : K) → is_lt (cmp x x) ≡ false
  not_less x = go (cmp x x) (order.antisymm x x)
    where
      go : (o : Ordering) → o ≡ ordering_reverse o → is_lt o ≡ false
      go Less e = absurd (true≢false (ap is_lt e))
      go Equal e = refl
      go Greater e = refl

  same_itself : (x : K) → is_eq (cmp x x) ≡ true
  same_itself x = go (cmp x x) (order.antisymm x x)
    where
      go : (o : Ordering) → o ≡ ordering_reverse o → is_eq o ≡ true
      go Less e = absurd (true≢false (ap is_lt e))
      go Equal e = refl
      go Greater e = absurd (true≢false (ap is_lt (sym e)))

  -- a lesser element is none of them
  absent : (x y : K) (zs : List K) → cmp x y ≡ Less → Least y zs → times x zs ≡ 0
  unfolding Least
  absent x y [] e h = refl
  absent x y (z ∷ zs) e h = sum_by-cons (λ w. cond (is_eq (cmp x w)) 1 0) z zs ∙ go (cmp x z) refl (absent x y zs e h.1)
    where
      none : (n : ℕ) → n ≡ 0 → 0 + n ≡ 0
      none n e = omega arith

      go : (o : Ordering) → cmp x z ≡ o → times x zs ≡ 0 → cond (is_eq (cmp x z)) 1 0 + times x zs ≡ 0
      go Less k rest = ap (λ o. cond (is_eq o) 1 0 + times x zs) k ∙ none (times x zs) rest
      go Equal k rest = absurd (true≢false (sym (ap is_lt (sym (order.congr x z y k) ∙ e)) ∙ h.0))
      go Greater k rest = ap (λ o. cond (is_eq o) 1 0 + times x zs) k ∙ none (times x zs) rest

  present : (x : K) (xs : List K) → times x (x ∷ xs) ≡ 1 + times x xs
  present x xs = sum_by-cons (λ w. cond (is_eq (cmp x w)) 1 0) x xs ∙ ap (λ b. cond b 1 0 + times x xs) (same_itself x)

  pub one_order : (xs ys : List K) → Rises xs → Rises ys → ((x : K) → times x xs ≡ times x ys) → xs ≡ ys
  unfolding Rises Least
  one_order [] [] r s h = refl
  one_order [] (y ∷ ys) r s h = let e = h y in let p = present y ys in let none : times y [] ≡ 0 = refl in absurd (none_one (times y ys) (sym none ∙ e ∙ p))
    where
      none_one : (n : ℕ) → 0 ≡ 1 + n → ⊥
      none_one n e = omega arith
  one_order (x ∷ xs) [] r s h = let e = h x in let p = present x xs in let none : times x [] ≡ 0 = refl in absurd (none_one (times x xs) (sym none ∙ sym e ∙ p))
    where
      none_one : (n : ℕ) → 0 ≡ 1 + n → ⊥
      none_one n e = omega arith
  one_order (x ∷ xs) (y ∷ ys) r s h = go (cmp x y) refl (λ e. one_order xs ys r.1 s.1 (rest e))
    where
      none_one : (n : ℕ) → 0 ≡ 1 + n → ⊥
      none_one n e = omega arith

      less : cmp x y ≡ Less → ⊥
      less e = none_one (times x xs) (sym (h x ∙ absent x y (y ∷ ys) e (not_less y, s.0)) ∙ present x xs)

      more : cmp y x ≡ Less → ⊥
      more e = none_one (times y ys) (sym (sym (h y) ∙ absent y x (x ∷ xs) e (not_less x, r.0)) ∙ present y ys)

      rest : x ≡ y → (z : K) → times z xs ≡ times z ys
      rest e z = fewer (cond (is_eq (cmp z x)) 1 0) (times z xs) (times z ys)
          (sym (sum_by-cons (λ w. cond (is_eq (cmp z w)) 1 0) x xs) ∙ h z ∙ sum_by-cons (λ w. cond (is_eq (cmp z w)) 1 0) y ys ∙ ap (λ w. cond (is_eq (cmp z w)) 1 0 + times z ys) (sym e))
        where
          fewer : (n a b : ℕ) → n + a ≡ n + b → a ≡ b
          fewer n a b e = omega arith

      go : (o : Ordering) → cmp x y ≡ o → (x ≡ y → xs ≡ ys) → x ∷ xs ≡ y ∷ ys
      go Less e others = absurd (less e)
      go Equal e others = let first : x ≡ y = exact x y e in ap (λ z. z ∷ xs) first ∙ ap (λ zs. y ∷ zs) (others first)
      go Greater e others = absurd (more (order.antisymm y x ∙ ap ordering_reverse e))

  -- Rows in which each occurs once

  abbrev one_if : Bool → ℕ
  one_if b = cond b 1 0

  equal : (o : Ordering) → is_eq o ≡ true → o ≡ Equal
  equal Less e = absurd (true≢false (sym e))
  equal Equal e = refl
  equal Greater e = absurd (true≢false (sym e))

  more_times : (z x : K) (xs : List K) → times z (x ∷ xs) ≡ one_if (is_eq (cmp z x)) + times z xs
  more_times z x xs = sum_by-cons (λ w. one_if (is_eq (cmp z w))) x xs

  none_there : (x : K) (xs : List K) → (Contains xs x → ⊥) → times x xs ≡ 0
  none_there x [] h = refl
  none_there x (y ∷ ys) h = elim (cases_Bool (is_eq (cmp x y))) [
    | inl t ↦ absurd (h (0, omega arith, sym (exact x y (equal (cmp x y) t))))
    | inr t ↦
        let first : one_if (is_eq (cmp x y)) ≡ 0 = ap one_if t in
        let rest = none_there x ys (λ k. h (suc k.0, (let l = k.1 in omega arith), k.2)) in
        let both = more_times x y ys in
        omega arith
  ]

  some_there : (x : K) (xs : List K) → Contains xs x → 0 < times x xs
  some_there x xs h = go xs h.0 h.1 h.2
    where
      go : (ys : List K) (k : ℕ) → k < length ys → get_or ys k x ≡ x → 0 < times x ys
      go [] k l e = absurd (omega arith)
      go (y ∷ ys) zero l e =
          let here : one_if (is_eq (cmp x y)) ≡ 1 = ap (λ z. one_if (is_eq (cmp x z))) e ∙ ap one_if (same_itself x) in
          let both = more_times x y ys in
          omega arith
      go (y ∷ ys) (suc k) l e = let rest = go ys k (omega arith) e in let both = more_times x y ys in omega arith

  counted_once : (xs : List K) → EachOnce xs → (z : K) → times z xs ≤ 1
  unfolding EachOnce
  counted_once [] h z = omega arith
  counted_once (x ∷ xs) h z = elim (cases_Bool (is_eq (cmp z x))) [
    | inl t ↦
        let is : z ≡ x = exact z x (equal (cmp z x) t) in
        let first : one_if (is_eq (cmp z x)) ≡ 1 = ap one_if t in
        let rest : times z xs ≡ 0 = ap (λ w. times w xs) is ∙ none_there x xs h.0 in
        let both = more_times z x xs in
        omega arith
    | inr t ↦
        let first : one_if (is_eq (cmp z x)) ≡ 0 = ap one_if t in
        let rest = counted_once xs h.1 z in
        let both = more_times z x xs in
        omega arith
  ]

  once_counted : (xs : List K) → ((z : K) → times z xs ≤ 1) → EachOnce xs
  unfolding EachOnce
  once_counted [] h = tt
  once_counted (x ∷ xs) h = (
    (λ k. let some = some_there x xs k in let both = present x xs in let most = h x in absurd (omega arith)),
    once_counted xs (λ z. let both = more_times z x xs in let most = h z in omega arith),
  )

  -- in whatever order
  pub once_reordered : (xs ys : List K) → IsPermutation xs ys → EachOnce xs → EachOnce ys
  once_reordered xs ys same h =
      once_counted ys (λ z. let most = counted_once xs h z in let as_often = sum_by-IsPermutation (λ w. one_if (is_eq (cmp z w))) xs ys same in omega arith)

  -- Rows by their keys

  module _ {F : Type 0} (key : F → K) where
    least_by : (d f : F) (fs : List F) → ((j : ℕ) → j < length fs → is_lt (cmp (key (get_or fs j d)) (key f)) ≡ false) → Least (key f) (map key fs)
    unfolding Least
    least_by d f [] h = tt
    least_by d f (g ∷ fs) h = (h 0 (omega arith), least_by d f fs (λ j l. h (suc j) (omega arith)))

    rises_by : (fs : List F) → ((i j : ℕ) (d : F) → i ≤ j → j < length fs → is_lt (cmp (key (get_or fs j d)) (key (get_or fs i d))) ≡ false) → Rises (map key fs)
    unfolding Rises
    rises_by [] h = tt
    rises_by (f ∷ fs) h = (least_by f f fs (λ j l. h 0 (suc j) f (omega arith) (omega arith)), rises_by fs (λ i j d a l. h (suc i) (suc j) d (omega arith) (omega arith)))

    pub rises_sorted : (fs : List F) → IsSortedByKey key cmp fs → Rises (map key fs)
    rises_sorted fs h = rises_by fs (sorted_far (λ x y. is_lt (cmp (key x) (key y))) (ranks_by order key) fs h)
