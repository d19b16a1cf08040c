-- The least and the greatest number of a set, as a test gives it.
-- The standard has no such thing: numbers of commands that wait, as bits of words.
use Rattle.std.specs.Prelude.{◌≡◌, ℕ, ◌+◌, ◌<◌, ◌≤◌, ◌==◌, Bool, true}
use Rattle.std.specs.Int.{bit_at}
use Rattle.std.specs.Slice.Scan.{HoldsNowhere}

-- the bit of a word at this place is one
abbrev pub is_bit : ℕ → ℕ → Bool
is_bit word i = bit_at word i == 1

-- n is the least number from `from` to `to` that passes the test
pub record IsNext (p : ℕ → Bool) (from to n : ℕ) : Type 0 where
  pub low : from ≤ n
  pub high : n ≤ to
  pub there : p n ≡ true
  pub before : HoldsNowhere p from n

-- n is the greatest number below `below` that passes the test
pub record IsLast (p : ℕ → Bool) (below n : ℕ) : Type 0 where
  pub high : n < below
  pub there : p n ≡ true
  pub behind : HoldsNowhere p (n + 1) below
