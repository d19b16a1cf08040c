-- Numbers up to 4,294,967,295, which means each greater one too.
-- POSIX.1-2024, XCU 2.15 (break, continue, return, shift).
use Rattle.std.specs.Prelude.{ℕ, ◌+◌, ◌*◌, ◌-◌, min}

abbrev pub most : ℕ
most = 4294967295

abbrev pub capped : ℕ → ℕ
capped n = min n most

-- the number with one more digit
unfoldable pub with_digit : ℕ → ℕ → ℕ
with_digit n c = capped (capped (n * 10) + (c - 48))
