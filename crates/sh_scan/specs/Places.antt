-- The line and the column of an offset in a text, each from 1.
-- POSIX.1-2024, XBD 3 (line): a line ends with its newline.
use Rattle.std.specs.Prelude.{ℕ, ◌+◌, ◌-◌, ◌^◌, List, length, min, fold, take, if◌then◌else◌, ◌==◌}
use Rattle.memchr.specs.Find.{is_byte, places}

-- a newline begins the next line, and every other byte takes one column
abbrev pub next_place : ℕ × ℕ → ℕ → ℕ × ℕ
next_place p b = if b == 10 then (p.0 + 1, 1) else (p.0, p.1 + 1)

-- the place after the bytes before the offset
unfoldable pub place_of : List ℕ → ℕ → ℕ × ℕ
place_of text at = fold next_place (1, 1) (take at text)

-- where the newlines of a text are, and the last offset that has a place
pub record Breaks : Type 0 where
  pub newlines : List ℕ
  pub end : ℕ

-- a text's own
unfoldable pub lines_of : List ℕ → Breaks
lines_of text = record { newlines = places (is_byte 10) text; end = min (length text) (2 ^ 32 - 2) }
