-- The commands of a script that is read have one order by their numbers, so which of them are loops
-- is known in one way.
use Rattle.std.proofs.Common.{◌≡◌, ℕ, suc, ◌+◌, ◌<◌, ◌≤◌, ◌==◌, Bool, true, false, ◌&&◌, cond, nat_le, List, [], ◌∷◌, map, length, get_or, refl, sym, ap, ap₂, ◌∙◌, arith, inl, inr, eq-eqb}
use Rattle.std.specs.Borrow.{Bor}
use Rattle.std.specs.List.{sum, sum_by}
use Rattle.std.specs.List.Sorted.{IsPermutation, IsNonDecreasingBy}
use Rattle.std.proofs.lemmas.Bool.{cases_lt}
use Rattle.std.proofs.lemmas.Bool.Decides.{nat_tests}
use Rattle.std.proofs.lemmas.List.Sorted.{sum_by-IsPermutation}
use Rattle.std.proofs.lemmas.List.Sums.{sum-map, sum_by-cons}
use mathlib.Core.List.{map-map}
use Rattle.sh_tree.specs.declared.tree.Command.{Command, out-Command}
use Rattle.sh_tree.specs.declared.tree.Script.{Script}
use Rattle.sh_tree.specs.standard.language.Reading.{ReadsTo}
use Rattle.sh_tree.specs.Commands.{commands_of}
use Rattle.sh_domain.specs.Reading.{AreLoops, is_loop}
use Rattle.sh_domain.proofs.CountedLemmas.{tree_given}

abbrev one_if : Bool → ℕ
one_if t = cond t 1 0

same_bit : (s t : Bool) → one_if s ≡ one_if t → s ≡ t
same_bit true true e = refl
same_bit true false e = absurd (omega arith)
same_bit false true e = absurd (omega arith)
same_bit false false e = refl

fewer_bits : (s t : Bool) → one_if (s && t) ≤ one_if t
fewer_bits true t = omega arith
fewer_bits false true = omega arith
fewer_bits false false = omega arith

own_bit : (s t : Bool) → t ≡ true → one_if (s && t) ≡ one_if s
own_bit true t e = ap one_if e
own_bit false t e = refl

other_bit : (s t : Bool) → t ≡ false → one_if (s && t) ≡ 0
other_bit true t e = ap one_if e
other_bit false t e = refl

-- Lists with the same elements, whose numbers do not fall and occur once each

module _ {X : Type 0} (number : X → ℕ) where
  abbrev any : X → Bool
  any x = true

  -- how many have the number and pass the test
  abbrev times : (X → Bool) → ℕ → List X → ℕ
  times q n xs = sum_by (λ x. one_if (q x && (number x == n))) xs

  more_times : (q : X → Bool) (n : ℕ) (x : X) (xs : List X) → times q n (x ∷ xs) ≡ one_if (q x && (number x == n)) + times q n xs
  more_times q n x xs = sum_by-cons (λ y. one_if (q y && (number y == n))) x xs

  own_times : (q : X → Bool) (x : X) (xs : List X) → times q (number x) (x ∷ xs) ≡ one_if (q x) + times q (number x) xs
  own_times q x xs =
      more_times q (number x) x xs ∙ ap (λ k. k + times q (number x) xs) (own_bit (q x) (number x == number x) (eq-eqb (number x) (number x) refl))

  no_more : (q : X → Bool) (n : ℕ) (xs : List X) → times q n xs ≤ times any n xs
  no_more q n [] = omega arith
  no_more q n (x ∷ xs) =
      let rest = no_more q n xs in
      let some = more_times q n x xs in
      let all = more_times any n x xs in
      let less = fewer_bits (q x) (number x == n) in
      omega arith

  other : (q : X → Bool) (n : ℕ) (x : X) → n < number x → one_if (q x && (number x == n)) ≡ 0
  other q n x l = other_bit (q x) (number x == n) (grind (arith, nat_tests, l))

  none_below : (q : X → Bool) (n : ℕ) (xs : List X) → ((i : ℕ) (d : X) → i < length xs → n < number (get_or xs i d)) → times q n xs ≡ 0
  none_below q n [] h = refl
  none_below q n (x ∷ xs) h =
      let first = other q n x (h 0 x (omega arith)) in
      let rest = none_below q n xs (λ i d l. h (suc i) d (omega arith)) in
      let both = more_times q n x xs in
      omega arith

  none_before : (n : ℕ) (x : X) (xs : List X) → IsNonDecreasingBy number (x ∷ xs) → n < number x → times any n (x ∷ xs) ≡ 0
  none_before n x xs rises l = none_below any n (x ∷ xs) (λ i d m. let low : number x ≤ number (get_or (x ∷ xs) i d) = rises 0 i d (omega arith) m in omega arith)

  rises_behind : (x : X) (xs : List X) → IsNonDecreasingBy number (x ∷ xs) → IsNonDecreasingBy number xs
  rises_behind x xs rises = λ i j d k l. rises (suc i) (suc j) d (omega arith) (omega arith)

  told_alike : (q : X → Bool) (xs ys : List X) → IsNonDecreasingBy number xs → IsNonDecreasingBy number ys → ((n : ℕ) → times any n xs ≤ 1)
      → ((n : ℕ) → times any n xs ≡ times any n ys) → ((n : ℕ) → times q n xs ≡ times q n ys) → map q xs ≡ map q ys
  told_alike q [] [] r s once all some = refl
  told_alike q [] (y ∷ ys) r s once all some = let own = own_times any y ys in let same = all (number y) in let none : times any (number y) [] ≡ 0 = refl in absurd (omega arith)
  told_alike q (x ∷ xs) [] r s once all some = let own = own_times any x xs in let same = all (number x) in let none : times any (number x) [] ≡ 0 = refl in absurd (omega arith)
  told_alike q (x ∷ xs) (y ∷ ys) r s once all some =
      ap₂ (λ t ts. t ∷ ts) first (told_alike q xs ys (rises_behind x xs r) (rises_behind y ys s) fewer (rest any refl all) (rest q first some))
    where
      level : number x ≡ number y
      level = elim (cases_lt (number x) (number y)) [
        | inl l ↦ let own = own_times any x xs in let none = none_before (number x) y ys s l in let same = all (number x) in absurd (omega arith)
        | inr l ↦ elim (cases_lt (number y) (number x)) [
          | inl k ↦ let own = own_times any y ys in let none = none_before (number y) x xs r k in let same = all (number y) in absurd (omega arith)
          | inr k ↦ omega arith
        ]
      ]

      first : q x ≡ q y
      first =
          let left = own_times q x xs in
          let right = own_times q y ys in
          let same = some (number x) in
          let moved : times q (number x) (y ∷ ys) ≡ times q (number y) (y ∷ ys) = ap (λ n. times q n (y ∷ ys)) level in
          let own = own_times any x xs in
          let own_too = own_times any y ys in
          let one = once (number x) in
          let one_too = once (number y) in
          let counted = all (number y) in
          let few = no_more q (number x) xs in
          let few_too = no_more q (number y) ys in
          same_bit (q x) (q y) (omega arith)

      fewer : (n : ℕ) → times any n xs ≤ 1
      fewer n = let both = more_times any n x xs in let one = once n in omega arith

      rest : (p : X → Bool) → p x ≡ p y → ((n : ℕ) → times p n (x ∷ xs) ≡ times p n (y ∷ ys)) → (n : ℕ) → times p n xs ≡ times p n ys
      rest p e h n =
          let left = more_times p n x xs in
          let right = more_times p n y ys in
          let same = h n in
          let here : one_if (p x && (number x == n)) ≡ one_if (p y && (number y == n)) = ap₂ (λ m t. one_if (t && (m == n))) level e in
          omega arith

-- Commands of a script that is read

abbrev number_of : Bor Command → ℕ
number_of c = (out-Command c.now).number

-- by the commands of the tree, in whatever order they are
times_in : (q : Command → Bool) (n : ℕ) (t : Script) (cs : List (Bor Command)) → IsPermutation (commands_of t) (map (λ (c : Bor Command). c.now) cs)
    → times number_of (λ c. q c.now) n cs ≡ sum_by (λ c. one_if (q c && ((out-Command c).number == n))) (commands_of t)
times_in q n t cs same =
    let count : Command → ℕ = λ c. one_if (q c && ((out-Command c).number == n)) in
    sym (sum-map (λ (c : Bor Command). count c.now) cs)
    ∙ ap sum (sym (map-map count (λ (c : Bor Command). c.now) cs))
    ∙ sum-map count (map (λ (c : Bor Command). c.now) cs)
    ∙ sum_by-IsPermutation count (commands_of t) (map (λ (c : Bor Command). c.now) cs) same

given_once : (m : ℕ) (s t : Bool) → m + cond s 1 0 ≡ cond t 1 0 → m ≤ 1
given_once m true true e = omega arith
given_once m true false e = omega arith
given_once m false true e = omega arith
given_once m false false e = omega arith

pub one_order : (b : List ℕ) (t : Script) (limit count : ℕ) → ReadsTo b limit count t → (loops others : List Bool) → AreLoops t loops → AreLoops t others → others ≡ loops
one_order b t limit count read loops others are them =
    them.each
    ∙ told_alike number_of (λ (c : Bor Command). is_loop c.now) them.commands are.commands them.ordered are.ordered once
    (λ n. times_in (λ c. true) n t them.commands them.all ∙ sym (times_in (λ c. true) n t are.commands are.all))
    (λ n. times_in (λ c. is_loop c) n t them.commands them.all ∙ sym (times_in (λ c. is_loop c) n t are.commands are.all))
    ∙ sym are.each
  where
    once : (n : ℕ) → times number_of (λ (c : Bor Command). true) n them.commands ≤ 1
    once n =
        let all = times_in (λ c. true) n t them.commands them.all in
        let given = given_once _ (nat_le n 0) (nat_le n count) (tree_given b t limit count read n) in
        omega arith
