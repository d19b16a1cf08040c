-- Which numbers a set has whose bits are kept in words.
-- The standard has no such thing: numbers of commands that wait.
use Rattle.std.specs.Prelude.{ℕ, ◌*◌, Bool, length}
use Rattle.sh_rows.specs.Numbers.{has_bit}
use Rattle.sh_worklist.specs.declared.flags.Flags.{Flags}

-- the number is in the set
abbrev pub is_in : Flags → ℕ → Bool
is_in flags k = has_bit k flags.words.items

-- the number that all numbers of the set are below
abbrev pub limit_of : Flags → ℕ
limit_of flags = 64 * length flags.words.items
