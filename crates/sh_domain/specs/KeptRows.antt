-- Rows that are kept once, each named by its place.
-- The standard has no such thing: rows of the numbers of names.
use Rattle.std.specs.Prelude.{◌≡◌, ℕ, ◌<◌, Bool, false, List, length, Option, Some, None, slice_get}
use Rattle.sh_rows.specs.declared.bits.BitRow.{BitRow}
use Rattle.sh_rows.specs.Numbers.{has_bit}

-- rows of numbers below a count
pub record KeptRows : Type 0 where
  pub count : ℕ
  pub rows : List BitRow

-- the number is in the row
abbrev pub bits_of : BitRow → ℕ → Bool
bits_of r k = has_bit k r.words.items

unfoldable pub bits_in : Option BitRow → ℕ → Bool
bits_in None k = false
bits_in (Some r) k = bits_of r k

-- the number is in the row of that place
abbrev pub holds_at : List BitRow → ℕ → ℕ → Bool
holds_at rows i k = bits_in (slice_get rows i) k

-- each row that was there is at its place
abbrev pub Stay : List BitRow → List BitRow → Type 0
Stay old new = (i : ℕ) → i < length old → slice_get new i ≡ slice_get old i
