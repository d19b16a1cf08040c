-- What may be between the tokens of arithmetic.
-- POSIX.1-2024, XCU 2.2.1 (line continuation), 2.6.4 (arithmetic expansion).
use Rattle.std.specs.Prelude.{ℕ, ◌||◌, if◌then◌else◌, List, [], ◌∷◌}
use Rattle.sh_tree.specs.standard.language.Bytes.{is_blank, is_newline}
use Rattle.sh_scan.specs.Steps.{joined_step}

-- the blank, the newline or the line continuation at the front
unfoldable pub space_step : List ℕ → ℕ
space_step [] = 0
space_step (c ∷ cs) = if is_blank c || is_newline c then 1 else joined_step (c ∷ cs)
