-- The set that a row is: of numbers in a rising list, and of bits in words.
-- The standard has no such thing: rows of the numbers of names.
use Rattle.std.specs.Prelude.{ℕ, Bool, List, slice_index, ◌==◌, ◌≡◌, ◌<◌, ◌≤◌, ◌/◌, ◌%◌, length, Result, MatchResult}
use Rattle.std.specs.List.{list_any}
use Rattle.std.specs.Int.{bit_at}

-- the number is in the list
abbrev pub has_number : ℕ → List ℕ → Bool
has_number k xs = list_any (λ x. k == x) xs

-- bit k modulo 64 of word k divided by 64 is one
unfoldable pub has_bit : ℕ → List ℕ → Bool
has_bit k words = bit_at (slice_index words (k / 64)) (k % 64) == 1

-- the number is at that place, or would be there
abbrev pub IsPlace : List ℕ → ℕ → Result ℕ ℕ → Type 0
IsPlace xs n r = MatchResult r (λ i. (i < length xs) × (slice_index xs i ≡ n))
    (λ i. (i ≤ length xs) × ((k : ℕ) → k < i → slice_index xs k < n) × ((k : ℕ) → i ≤ k → k < length xs → n < slice_index xs k))
