-- A set and the row of a place.
use Rattle.std.proofs.Common.{◌≡◌, ◌≢◌, ◌⊎◌, ℕ, ◌+◌, ◌-◌, ◌^◌, ◌*◌, ◌/◌, ◌%◌, ◌<◌, ◌≤◌, Bool, true, false, not, ◌&&◌, ◌||◌, List, Some, None, length, refl, sym, ◌∙◌, ap, subst, arith, eqb, true≢false, IsTrue, ◌↔◌, inl, inr, slice_get, slice_set, get_or, nat_lt}
use Rattle.std.specs.Int.{bit_at}
use Rattle.std.proofs.lemmas.Bool.{cases_lt, cases_Bool, lt-ltb, le-ltb}
use Rattle.std.proofs.lemmas.Bool.Decides.{eqb_tells}
use Rattle.std.proofs.lemmas.List.{get_or_past, get_or-set_same, get_or-set_other}
use Rattle.std.proofs.lemmas.Nat.Bits.{bit_at-zero, bit_at_ones, bit_at_ones_above}
use Rattle.sh_tree.specs.declared.limits.TheConstants.{MAX_NAMES}
use Rattle.sh_rows.specs.Numbers.{has_bit}
use Rattle.sh_rows.specs.declared.bits.BitRow.{BitRow}
use Rattle.sh_domain.specs.KeptRows.{bits_of, holds_at}
use Rattle.sh_domain.proofs.RowLemmas.{bits_at, no_bits}

-- past the words is no bit
past_words : (words : List ℕ) (k : ℕ) → length words ≤ k / 64 → has_bit k words ≡ false
unfolding has_bit
past_words words k le = ap (λ w. eqb (bit_at w (k % 64)) 1) (get_or_past words (k / 64) 0 le) ∙ ap (λ b. eqb b 1) (bit_at-zero (k % 64))

module _ (rows : List BitRow) (i : ℕ) (r : BitRow) (there : Some r ≡ slice_get rows i) where
  at : (k : ℕ) → bits_of r k ≡ holds_at rows i k
  at k = sym (bits_at rows i r (sym there) k)

  -- what is left
  pub left_row : (old : ℕ → Bool) (new ws : List ℕ) → ws ≡ r.words.items → ((k : ℕ) → has_bit k new ≡ (not (has_bit k ws) && old k)) → (k : ℕ) → has_bit k new ≡ (not (holds_at rows i k) && old k)
  left_row old new ws e left k = left k ∙ ap (λ b. not b && old k) (ap (has_bit k) e ∙ at k)

  -- what is there besides
  pub below_joined : (old new ws : List ℕ) → ws ≡ r.words.items → ((k : ℕ) → k / 64 < length old → has_bit k new ≡ (has_bit k ws || has_bit k old))
      → (k : ℕ) → k / 64 < length old → has_bit k new ≡ (holds_at rows i k || has_bit k old)
  below_joined old new ws e joined k l = joined k l ∙ ap (λ b. b || has_bit k old) (ap (has_bit k) e ∙ at k)

  pub joined_row : (most : ℕ) (old new ws : List ℕ) → ws ≡ r.words.items → r.count ≤ 64 * most → length old ≡ most → length new ≡ most
      → ((k : ℕ) → k / 64 < length old → has_bit k new ≡ (has_bit k ws || has_bit k old)) → (k : ℕ) → has_bit k new ≡ (holds_at rows i k || has_bit k old)
  joined_row most old new ws e few long wide joined k = elim (cases_lt (k / 64) most) [
    | inl l ↦ below_joined old new ws e joined k (omega (arith, l, long))
    | inr l ↦
        let none : holds_at rows i k ≡ false = elim (cases_Bool (holds_at rows i k)) [
          | inl h ↦ let below = r.below k (at k ∙ h) in absurd (omega (arith, below, few, l))
          | inr h ↦ h
        ] in
        let before : has_bit k old ≡ false = past_words old k (omega (arith, l, long)) in
        past_words new k (omega (arith, l, wide)) ∙ sym (rw (none, before) refl)
  ]

  -- the numbers of the row are below its count
  pub row_below : (count : ℕ) → r.count ≡ count → (k : ℕ) → holds_at rows i k ≡ true → k < count
  row_below count e k there = subst (λ n. k < n) e (r.below k (at k ∙ there))

  -- the test of the row
  pub row_within : (t : Bool) (set : ℕ → Bool) (ws : List ℕ) → ws ≡ r.words.items → (IsTrue t ↔ ((k : ℕ) → has_bit k ws ≡ true → set k ≡ true)) → (IsTrue t ↔ ((k : ℕ) → holds_at rows i k ≡ true → set k ≡ true))
  row_within t set ws e test = (λ h k x. test.0 h k (ap (has_bit k) e ∙ at k ∙ x), λ h. test.1 (λ k x. h k (sym (at k) ∙ sym (ap (has_bit k) e) ∙ x)))

module _ (rows : List BitRow) (i : ℕ) (none : None ≡ slice_get rows i) where
  pub none_left : (old : Bool) (k : ℕ) → old ≡ (not (holds_at rows i k) && old)
  none_left old k = sym (ap (λ b. not b && old) (no_bits rows i (sym none) k))

  pub none_joined : (old : Bool) (k : ℕ) → old ≡ (holds_at rows i k || old)
  none_joined old k = sym (ap (λ b. b || old) (no_bits rows i (sym none) k))

  pub none_below : (count k : ℕ) → holds_at rows i k ≡ true → k < count
  none_below count k there = absurd (true≢false (sym there ∙ no_bits rows i (sym none) k))

  pub none_within : (set : ℕ → Bool) → IsTrue true ↔ ((k : ℕ) → holds_at rows i k ≡ true → set k ≡ true)
  none_within set = (λ h k x. absurd (true≢false (sym x ∙ no_bits rows i (sym none) k)), λ h. refl)

-- Words of ones

-- all numbers below a word, and those of its first bits
pub front_word : (words : List ℕ) (at bits : ℕ) → at < length words → bits ≤ 64 → ((k : ℕ) → has_bit k words ≡ nat_lt k (64 * at))
    → (k : ℕ) → has_bit k (slice_set words at (2 ^ bits - 1)) ≡ nat_lt k (64 * at + bits)
unfolding has_bit
front_word words at bits l few before k = elim (eqb_tells (k / 64) at) [
  | inl e ↦
      let here : k / 64 ≡ at = e.1 in
      ap (λ i. eqb (bit_at (get_or (slice_set words at (2 ^ bits - 1)) i 0) (k % 64)) 1) here
      ∙ ap (λ w. eqb (bit_at w (k % 64)) 1) (get_or-set_same words at (2 ^ bits - 1) 0 l)
      ∙ inside here (cases_lt (k % 64) bits)
  | inr e ↦
      ap (λ w. eqb (bit_at w (k % 64)) 1) (get_or-set_other words at (k / 64) (2 ^ bits - 1) 0 e.1) ∙ before k ∙ elsewhere e.1 (cases_lt k (64 * at))
]
  where
    inside : k / 64 ≡ at → (k % 64 < bits) ⊎ (bits ≤ k % 64) → eqb (bit_at (2 ^ bits - 1) (k % 64)) 1 ≡ nat_lt k (64 * at + bits)
    inside here (inl low) = ap (λ b. eqb b 1) (bit_at_ones bits (k % 64) low) ∙ sym (lt-ltb k (64 * at + bits) (omega (arith, here, low)))
    inside here (inr high) = ap (λ b. eqb b 1) (bit_at_ones_above bits (k % 64) high) ∙ sym (le-ltb k (64 * at + bits) (omega (arith, here, high)))

    elsewhere : (k / 64 ≢ at) → (k < 64 * at) ⊎ (64 * at ≤ k) → nat_lt k (64 * at) ≡ nat_lt k (64 * at + bits)
    elsewhere other (inl low) = lt-ltb k (64 * at) low ∙ sym (lt-ltb k (64 * at + bits) (omega (arith, low)))
    elsewhere other (inr high) = le-ltb k (64 * at) high ∙ sym (le-ltb k (64 * at + bits) (past other high))
      where
        past : (k / 64 ≢ at) → 64 * at ≤ k → 64 * at + bits ≤ k
        past other high = elim (cases_lt k (64 * (at + 1))) [
          | inl low ↦ absurd (other (omega (arith, low, high)))
          | inr high ↦ omega (arith, high, few)
        ]

-- all numbers below a word, and those of the word
pub full_word : (words : List ℕ) (at : ℕ) → at < length words → ((k : ℕ) → has_bit k words ≡ nat_lt k (64 * at)) → (k : ℕ) → has_bit k (slice_set words at (2 ^ 64 - 1)) ≡ nat_lt k (64 * (at + 1))
full_word words at l before k = front_word words at 64 l (omega arith) before k ∙ ap (nat_lt k) (omega arith)

-- A row beside a set
-- as far as a set goes, the numbers beside it are those of the row
pub row_met : (rows : List BitRow) (i : ℕ) (beside : ℕ → Bool) (words : List ℕ) → length words ≡ 64 → ((k : ℕ) → k < MAX_NAMES → beside k ≡ holds_at rows i k)
    → (k : ℕ) → (beside k && has_bit k words) ≡ (holds_at rows i k && has_bit k words)
row_met rows i beside words long same k = elim (cases_lt k MAX_NAMES) [
  | inl l ↦ ap (λ b. b && has_bit k words) (same k l)
  | inr l ↦ let none : has_bit k words ≡ false = past_words words k (omega (arith, l, long)) in rw none (both_none (beside k) (holds_at rows i k))
]
  where
    both_none : (a b : Bool) → (a && false) ≡ (b && false)
    both_none true true = refl
    both_none true false = refl
    both_none false true = refl
    both_none false false = refl

pub row_holds : (rows : List BitRow) (i : ℕ) (beside : ℕ → Bool) (words : List ℕ) (t : Bool) → length words ≡ 64 → ((k : ℕ) → k < MAX_NAMES → beside k ≡ holds_at rows i k)
    → (IsTrue t ↔ ((k : ℕ) → has_bit k words ≡ true → beside k ≡ true)) → (IsTrue t ↔ ((k : ℕ) → has_bit k words ≡ true → holds_at rows i k ≡ true))
row_holds rows i beside words t long same test = (
  λ h k x. sym (same k (low k x)) ∙ test.0 h k x,
  λ h. test.1 (λ k x. same k (low k x) ∙ h k x),
)
  where
    low : (k : ℕ) → has_bit k words ≡ true → k < MAX_NAMES
    low k x = elim (cases_lt k MAX_NAMES) [
      | inl l ↦ l
      | inr l ↦ absurd (true≢false (sym x ∙ past_words words k (omega (arith, l, long))))
    ]
