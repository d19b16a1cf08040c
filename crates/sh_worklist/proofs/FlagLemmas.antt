-- Bits of words as numbers of a set.
use Rattle.std.proofs.Common.{◌≡◌, ℕ, suc, ◌+◌, ◌-◌, ◌*◌, ◌/◌, ◌%◌, ◌^◌, ◌<◌, ◌≤◌, Bool, true, false, ◌&&◌, not, List, length, get_or, refl, sym, ap, ap₂, ◌∙◌, arith, ⊎_elim, eqb, eq-eqb, subst, min}
use Rattle.std.specs.Int.{bit_at, w64}
use Rattle.std.specs.Prelude.{bit_and, nat_lt}
use Rattle.std.specs.Slice.Scan.{HoldsNowhere}
use Rattle.std.proofs.lemmas.Bool.{cases_lt, ne_eqb, lt-ltb, le-ltb, cases_eq}
use Rattle.std.proofs.lemmas.List.{get_or_past}
use Rattle.std.proofs.lemmas.Nat.{and_le_l, leading_top}
use Rattle.std.proofs.lemmas.Nat.Bits.{bit_at-zero, bit_at-lt, bit_at_and, bit_at_ones, bit_at_ones_above, bit_at_above, bit_at-trailing_zeros, ones_shl, ones_shr, bit_at_mask_inside, bit_at_mask_below, bit_at_cat_high}
use Rattle.std.proofs.lemmas.Grind.{get_or_default_zero}
use lib.Count.{count_trailing_zeros, count_leading_zeros}
use Rattle.sh_rows.specs.Numbers.{has_bit}
use Rattle.sh_worklist.specs.Bits.{IsLast, IsNext, is_bit}

-- ---- a word
-- its bits from a place on, and no others
kept_from : (w from i : ℕ) → from < 64 → from ≤ i → i < 64 → bit_at (bit_and w (18446744073709551615 * 2 ^ from % 18446744073709551616)) i ≡ bit_at w i
kept_from w from i h le lt =
    let mask : bit_at (18446744073709551615 * 2 ^ from % 18446744073709551616) i ≡ 1 = ap (λ m. bit_at m i) (ones_shl 64 from (omega arith)) ∙ bit_at_mask_inside from 64 i le lt in
    let small = bit_at-lt w i in
    bit_at_and w (18446744073709551615 * 2 ^ from % 18446744073709551616) i ∙ ap (min (bit_at w i)) mask ∙ omega arith

gone_below : (w from i : ℕ) → from < 64 → i < from → bit_at (bit_and w (18446744073709551615 * 2 ^ from % 18446744073709551616)) i ≡ 0
gone_below w from i h lt =
    let mask : bit_at (18446744073709551615 * 2 ^ from % 18446744073709551616) i ≡ 0 = ap (λ m. bit_at m i) (ones_shl 64 from (omega arith)) ∙ bit_at_mask_below from 64 i lt in
    bit_at_and w (18446744073709551615 * 2 ^ from % 18446744073709551616) i ∙ ap (min (bit_at w i)) mask ∙ omega arith

-- its bits below a place, and no others
ones_below : (below : ℕ) → below ≤ 64 → 18446744073709551615 / 2 ^ (64 - below) ≡ 2 ^ below - 1
ones_below below le =
    let back : 64 - (64 - below) ≡ below = omega arith in
    ones_shr 64 (64 - below) (omega arith) ∙ ap (λ e. 2 ^ e - 1) back

kept_below : (w below i : ℕ) → below ≤ 64 → i < below → bit_at (bit_and w (18446744073709551615 / 2 ^ (64 - below))) i ≡ bit_at w i
kept_below w below i le lt =
    let mask : bit_at (18446744073709551615 / 2 ^ (64 - below)) i ≡ 1 = ap (λ m. bit_at m i) (ones_below below le) ∙ bit_at_ones below i lt in
    let small = bit_at-lt w i in
    bit_at_and w (18446744073709551615 / 2 ^ (64 - below)) i ∙ ap (min (bit_at w i)) mask ∙ omega arith

gone_from : (w below i : ℕ) → below ≤ 64 → below ≤ i → bit_at (bit_and w (18446744073709551615 / 2 ^ (64 - below))) i ≡ 0
gone_from w below i le after =
    let mask : bit_at (18446744073709551615 / 2 ^ (64 - below)) i ≡ 0 = ap (λ m. bit_at m i) (ones_below below le) ∙ bit_at_ones_above below i after in
    bit_at_and w (18446744073709551615 / 2 ^ (64 - below)) i ∙ ap (min (bit_at w i)) mask ∙ omega arith

-- a place with the same bit, or with none
same_bit : (v w i : ℕ) → bit_at v i ≡ bit_at w i → bit_at v i ≡ 0 → is_bit w i ≡ false
same_bit v w i same none = ap (λ b. eqb b 1) (sym same ∙ none)

pub none_from : (w from : ℕ) → from < 64 → bit_and w (18446744073709551615 * 2 ^ from % 18446744073709551616) ≡ 0 → HoldsNowhere (is_bit w) from 64
none_from w from h none i le lt = same_bit _ w i (kept_from w from i h le lt) (ap (λ v. bit_at v i) none ∙ bit_at-zero i)

pub none_below : (w below : ℕ) → below ≤ 64 → bit_and w (18446744073709551615 / 2 ^ (64 - below)) ≡ 0 → HoldsNowhere (is_bit w) 0 below
none_below w below h none i le lt = same_bit _ w i (kept_below w below i h lt) (ap (λ v. bit_at v i) none ∙ bit_at-zero i)

pub lowest_is : (w from : ℕ) → w < 2 ^ 64 → from < 64 → 0 < bit_and w (18446744073709551615 * 2 ^ from % 18446744073709551616)
    → IsNext (is_bit w) from 63 (count_trailing_zeros 64 (bit_and w (18446744073709551615 * 2 ^ from % 18446744073709551616)))
lowest_is w from small h some =
    let v = bit_and w (18446744073709551615 * 2 ^ from % 18446744073709551616) in
    let within = and_le_l w (18446744073709551615 * 2 ^ from % 18446744073709551616) in
    let place = bit_at-trailing_zeros w64 v some (omega arith) in
    let n = count_trailing_zeros 64 v in
    let lt : n < 64 = place.0 in
    let le : from ≤ n = ⊎_elim (λ (less : n < from). let gone = gone_below w from n h less in absurd (omega (arith, place.1, gone))) (λ (le : from ≤ n). le) (cases_lt n from) in
    record {
      low = le;
      high = omega arith;
      there = ap (λ b. eqb b 1) (sym (kept_from w from n h le lt) ∙ place.1);
      before = λ k after less. same_bit v w k (kept_from w from k h after (omega arith)) (place.2 k less);
    }

pub highest_is : (w below : ℕ) → w < 2 ^ 64 → below ≤ 64 → 0 < bit_and w (18446744073709551615 / 2 ^ (64 - below))
    → IsLast (is_bit w) below (63 - count_leading_zeros 64 (bit_and w (18446744073709551615 / 2 ^ (64 - below))))
highest_is w below small h some =
    let v = bit_and w (18446744073709551615 / 2 ^ (64 - below)) in
    let within = and_le_l w (18446744073709551615 / 2 ^ (64 - below)) in
    let top = leading_top 64 v some (omega arith) in
    let j = top.0 in
    let is : 63 - count_leading_zeros 64 v ≡ j = omega (arith, top.1) in
    subst (IsLast (is_bit w) below) (sym is) (last j top.2 top.3)
  where
    top_bit : (v j : ℕ) → 2 ^ j ≤ v → v < 2 ^ suc j → bit_at v j ≡ 1
    top_bit v j le lt =
        let e : v ≡ 1 * 2 ^ j + (v - 2 ^ j) = omega arith in
        let none : j - j ≡ 0 = omega arith in
        ap (λ x. bit_at x j) e ∙ bit_at_cat_high 1 j (v - 2 ^ j) j (omega arith) (omega arith) ∙ ap (bit_at 1) none ∙ refl

    last : (j : ℕ) → 2 ^ j ≤ bit_and w (18446744073709551615 / 2 ^ (64 - below)) → bit_and w (18446744073709551615 / 2 ^ (64 - below)) < 2 ^ suc j → IsLast (is_bit w) below j
    last j le lt =
        let v = bit_and w (18446744073709551615 / 2 ^ (64 - below)) in
        let one : bit_at v j ≡ 1 = top_bit v j le lt in
        let high : j < below = ⊎_elim (λ (less : j < below). less) (λ (past : below ≤ j). let gone = gone_from w below j h past in absurd (omega arith)) (cases_lt j below) in
        record {
          high = high;
          there = ap (λ b. eqb b 1) (sym (kept_below w below j h high) ∙ one);
          behind = λ k after less. same_bit v w k (kept_below w below k h less) (bit_at_above v (suc j) k lt (omega arith));
        }

-- ---- words
-- a number by its word
in_word : (words : List ℕ) (index k : ℕ) → 64 * index ≤ k → k < 64 * (index + 1) → has_bit k words ≡ is_bit (get_or words index 0) (k - 64 * index)
unfolding has_bit
in_word words index k le lt =
    let word : k / 64 ≡ index = omega arith in
    let place : k % 64 ≡ k - 64 * index = omega arith in
    ap₂ (λ (m i : ℕ). eqb (bit_at (get_or words m 0) i) 1) word place

-- no number is past the words
pub past_words : (words : List ℕ) (k : ℕ) → 64 * length words ≤ k → has_bit k words ≡ false
unfolding has_bit
past_words words k le =
    ap (λ w. eqb (bit_at w (k % 64)) 1) (get_or_past words (k / 64) 0 (omega arith)) ∙ ap (λ b. eqb b 1) (bit_at-zero (k % 64))

-- a word that was read, with another default
word_at : (words : List ℕ) (index word : ℕ) → index < length words → word ≡ get_or words index word → is_bit (get_or words index 0) ≡ is_bit word
word_at words index word lt e = ap is_bit (sym (e ∙ get_or_default_zero words index word lt))

none_at : (words : List ℕ) (index word low high : ℕ) → index < length words → word ≡ get_or words index word → HoldsNowhere (is_bit word) low high → HoldsNowhere (is_bit (get_or words index 0)) low high
none_at words index word low high lt e = subst (λ (p : ℕ → Bool). HoldsNowhere p low high) (sym (word_at words index word lt e))

-- none so far, and none in the next word
pub nowhere_more : (words : List ℕ) (from index word first : ℕ) → HoldsNowhere (λ k. has_bit k words) from (64 * index)
    → index < length words → word ≡ get_or words index word → first ≡ from - index * 64 → HoldsNowhere (is_bit word) first 64
    → HoldsNowhere (λ k. has_bit k words) from (64 * (index + 1))
nowhere_more words from index word first before within read e here k le lt =
    ⊎_elim
    (λ (h : k < 64 * index). before k le h)
    (λ (h : 64 * index ≤ k). in_word words index k h lt ∙ none_at words index word first 64 within read here (k - 64 * index) (omega arith) (omega arith))
    (cases_lt k (64 * index))

-- none so far, and the least of the next word
record IsFound (words : List ℕ) (from n : ℕ) : Type 0 where
  low : from ≤ n
  there : has_bit n words ≡ true
  before : HoldsNowhere (λ k. has_bit k words) from n

found : (words : List ℕ) (from index word first n : ℕ) → from < 64 * (index + 1) → HoldsNowhere (λ k. has_bit k words) from (64 * index)
    → index < length words → word ≡ get_or words index word → first ≡ from - index * 64 → IsNext (is_bit word) first 63 n → IsFound words from (index * 64 + n)
found words from index word first n started before within read e here =
    let low = here.low in
    let high = here.high in
    let back : index * 64 + n - 64 * index ≡ n = omega arith in
    record {
      low = omega arith;
      there = in_word words index (index * 64 + n) (omega arith) (omega arith) ∙ ap (is_bit (get_or words index 0)) back ∙ ap (λ (p : ℕ → Bool). p n) (word_at words index word within read) ∙ here.there;
      before = λ k after less. ⊎_elim
          (λ (h : k < 64 * index). before k after h)
          (λ (h : 64 * index ≤ k). in_word words index k h (omega arith) ∙ none_at words index word first n within read here.before (k - 64 * index) (omega arith) (omega arith))
          (cases_lt k (64 * index));
    }

pub next_more : (words : List ℕ) (from to index word first n : ℕ) → from < 64 * (index + 1) → HoldsNowhere (λ k. has_bit k words) from (64 * index)
    → index < length words → word ≡ get_or words index word → first ≡ from - index * 64 → IsNext (is_bit word) first 63 n → index * 64 + n ≤ to
    → IsNext (λ k. has_bit k words) from to (index * 64 + n)
next_more words from to index word first n started before within read e here le =
    let is = found words from index word first n started before within read e here in
    record { low = is.low; high = le; there = is.there; before = is.before }

-- the least of the next word is too great
pub next_past : (words : List ℕ) (from to index word first n : ℕ) → from < 64 * (index + 1) → HoldsNowhere (λ k. has_bit k words) from (64 * index)
    → index < length words → word ≡ get_or words index word → first ≡ from - index * 64 → IsNext (is_bit word) first 63 n → to < index * 64 + n
    → HoldsNowhere (λ k. has_bit k words) from (to + 1)
next_past words from to index word first n started before within read e here past k le lt =
    (found words from index word first n started before within read e here).before k le (omega arith)

-- none in the words up to the last one
pub nowhere_all : (words : List ℕ) (from to index : ℕ) → min (length words) (to / 64 + 1) ≤ index → HoldsNowhere (λ k. has_bit k words) from (64 * index)
    → HoldsNowhere (λ k. has_bit k words) from (to + 1)
nowhere_all words from to index end before k le lt =
    ⊎_elim
    (λ (h : k < 64 * index). before k le h)
    (λ (h : 64 * index ≤ k). past_words words k (omega arith))
    (cases_lt k (64 * index))

-- no number from the first one of a word up to a number is in the words
pub record IsAbove (words : List ℕ) (below left : ℕ) : Type 0 where
  pub within : left ≤ length words
  pub started : 64 * left < below + 64
  pub none : HoldsNowhere (λ k. has_bit k words) (64 * left) below

-- a number that is not below the limit is not in the set
pub beyond : (words : List ℕ) (n : ℕ) → nat_lt n (64 * length words) ≡ false → has_bit n words ≡ false
beyond words n past =
    ⊎_elim
    (λ (h : n < 64 * length words). let yes = lt-ltb n (64 * length words) h in cc)
    (λ (h : 64 * length words ≤ n). past_words words n h)
    (cases_lt n (64 * length words))

-- to take out a number that is not there changes nothing
pub taken_none : (n k : ℕ) (p : ℕ → Bool) → p n ≡ false → p k ≡ (not (eqb k n) && p k)
taken_none n k p gone =
    ⊎_elim
    (λ (e : k ≡ n). let same : p k ≡ false = ap p e ∙ gone in let test = eq-eqb k n e in rw (test, same) refl)
    (λ (ne : k ≡ n → ⊥). let test = ne_eqb k n ne in rw test refl)
    (cases_eq k n)

-- words of ones alone have all numbers below the limit
pub all_ones : (words : List ℕ) → ((i : ℕ) → i < length words → get_or words i 0 ≡ 18446744073709551615) → (k : ℕ) → has_bit k words ≡ nat_lt k (64 * length words)
unfolding has_bit
all_ones words ones k =
    ⊎_elim
    (λ (h : k < 64 * length words).
    let test = lt-ltb k (64 * length words) h in
    ap (λ w. eqb (bit_at w (k % 64)) 1) (ones (k / 64) (omega arith)) ∙ ap (λ b. eqb b 1) (bit_at_ones 64 (k % 64) (omega arith)) ∙ sym test)
    (λ (h : 64 * length words ≤ k). let test = le-ltb k (64 * length words) h in past_words words k h ∙ sym test)
    (cases_lt k (64 * length words))

-- none from the limit on
pub above_first : (words : List ℕ) (below left : ℕ) → left ≡ min (length words) ((below + 63) / 64) → IsAbove words below left
above_first words below left e = record {
  within = omega arith;
  started = omega arith;
  none = λ k le lt. past_words words k (omega arith);
}

-- none in the next word
pub above_more : (words : List ℕ) (below left word most : ℕ) → IsAbove words below left → 0 < left
    → word ≡ get_or words (left - 1) word → most ≡ min (below - (left - 1) * 64) 64 → HoldsNowhere (is_bit word) 0 most → IsAbove words below (left - 1)
above_more words below left word most above some read e here =
    let within = above.within in
    let started = above.started in
    record {
      within = omega arith;
      started = omega arith;
      none = λ k le lt. ⊎_elim
          (λ (h : k < 64 * left). in_word words (left - 1) k le (omega arith) ∙ none_at words (left - 1) word 0 most (omega arith) read here (k - 64 * (left - 1)) (omega arith) (omega arith))
          (λ (h : 64 * left ≤ k). above.none k h lt)
          (cases_lt k (64 * left));
    }

-- the greatest of the next word
pub last_here : (words : List ℕ) (below left word most n : ℕ) → IsAbove words below left → 0 < left
    → word ≡ get_or words (left - 1) word → most ≡ min (below - (left - 1) * 64) 64 → IsLast (is_bit word) most n → IsLast (λ k. has_bit k words) below ((left - 1) * 64 + n)
last_here words below left word most n above some read e here =
    let within = above.within in
    let started = above.started in
    let high = here.high in
    let back : (left - 1) * 64 + n - 64 * (left - 1) ≡ n = omega arith in
    record {
      high = omega arith;
      there = in_word words (left - 1) ((left - 1) * 64 + n) (omega arith) (omega arith) ∙ ap (is_bit (get_or words (left - 1) 0)) back ∙ ap (λ (p : ℕ → Bool). p n) (word_at words (left - 1) word (omega arith) read) ∙ here.there;
      behind = λ k le lt. ⊎_elim
          (λ (h : k < 64 * left). in_word words (left - 1) k (omega arith) (omega arith) ∙ none_at words (left - 1) word (n + 1) most (omega arith) read here.behind (k - 64 * (left - 1)) (omega arith) (omega arith))
          (λ (h : 64 * left ≤ k). above.none k h lt)
          (cases_lt k (64 * left));
    }
