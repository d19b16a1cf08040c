-- How a front of a text goes on: the pieces of a stretch of line continuations, of blanks, of a
-- line or of a quotation.
-- POSIX.1-2024, XCU 2.2.1 (line continuation), 2.2.4 (dollar-single-quotes), 2.3 (token
-- recognition), 2.7.4 (here-document).
use Rattle.std.specs.Prelude.{ℕ, ◌+◌, Bool, ◌&&◌, ◌==◌, if◌then◌else◌, List, [], ◌∷◌}
use Rattle.sh_tree.specs.standard.language.Bytes.{is_blank, is_newline, is_backslash}
use Rattle.sh_tree.specs.standard.language.Words.{is_dollar_escape}

-- the line continuation
unfoldable pub joined_step : List ℕ → ℕ
joined_step [] = 0
joined_step (c ∷ []) = 0
joined_step (c ∷ d ∷ cs) = if is_backslash c && is_newline d then 2 else 0

-- the blank or the line continuation
unfoldable pub gap_step : List ℕ → ℕ
gap_step [] = 0
gap_step (c ∷ cs) = if is_blank c then 1 else joined_step (c ∷ cs)

-- the byte of a line, and if lines are joined the byte that a backslash keeps
unfoldable pub line_step : Bool → List ℕ → ℕ
line_step joins [] = 0
line_step joins (c ∷ []) = if is_newline c then 0 else 1
line_step joins (c ∷ d ∷ cs) = if is_newline c then 0 else (if joins && is_backslash c then 2 else 1)

-- how long the byte or the escape is with which a quotation after `$'` goes on
unfoldable pub escape_step : List ℕ → ℕ
escape_step [] = 0
escape_step (c ∷ []) = 0
escape_step (c ∷ d ∷ cs) = if c == 39 then 0 else (if is_backslash c then (if is_dollar_escape d then 2 else 0) else 1)

-- how many bytes a quotation goes on by
unfoldable pub quoted_length : List ℕ → ℕ
quoted_length [] = 0
quoted_length (c ∷ []) = 0
quoted_length (c ∷ d ∷ cs) = if c == 39 then 0 else (if is_backslash c then (if is_dollar_escape d then 2 + quoted_length cs else 0) else 1 + quoted_length (d ∷ cs))
