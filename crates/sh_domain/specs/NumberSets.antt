-- The numbers of a set.
-- The standard has no such thing: names by their numbers.
use Rattle.std.specs.Prelude.{ℕ, Bool}
use Rattle.sh_rows.specs.Numbers.{has_bit}
use Rattle.sh_domain.specs.declared.number_set.NumberSet.{NumberSet}

-- the number is in the set
abbrev pub numbers_of : NumberSet → ℕ → Bool
numbers_of s k = has_bit k s.words
