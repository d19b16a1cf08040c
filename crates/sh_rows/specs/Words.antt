-- What two words make, and what a kernel has done to the words of a slice so far.
-- The standard has no such thing: words of bits, four at a time.
use Rattle.std.specs.Prelude.{◌≡◌, ℕ, ◌<◌, ◌≤◌, List, slice_index, bit_and}
use Rattle.std.specs.Int.{bit_not, w64}

-- the bits of the first word that are not in the second
abbrev pub without : ℕ → ℕ → ℕ
without a b = bit_and a (bit_not w64 b)

-- f makes the words from `from` up to `to` of what they were and of the word beside. The others are
-- as they were.
pub record IsMixed (f : ℕ → ℕ → ℕ) (old new : List ℕ) (beside : ℕ → ℕ) (from to : ℕ) : Type 0 where
  pub inside : (k : ℕ) → from ≤ k → k < to → slice_index new k ≡ f (slice_index old k) (beside k)
  pub below : (k : ℕ) → k < from → slice_index new k ≡ slice_index old k
  pub above : (k : ℕ) → to ≤ k → slice_index new k ≡ slice_index old k

-- the words from `from` up to `to` have no bit that the word beside has not
abbrev pub AllWithin : List ℕ → (ℕ → ℕ) → ℕ → ℕ → Type 0
AllWithin words beside from to = (k : ℕ) → from ≤ k → k < to → without (slice_index words k) (beside k) ≡ 0
