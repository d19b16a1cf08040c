-- What a row of changes makes of a count.
-- POSIX.1-2024, XCU 2.5.1 (positional parameters).
use Rattle.std.specs.Prelude.{ℕ, ◌+◌, ◌-◌, ◌*◌, min, max}

-- a multiple of the count, plus a number, less a number, within a least and a greatest count
abbrev pub made_by : ℕ → ℕ → ℕ → ℕ → ℕ → ℕ → ℕ
made_by times plus minus least most count = max least (min most (times * count + plus - minus))
