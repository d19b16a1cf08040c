-- Tables of texts as the code holds them.
-- POSIX.1-2024, XCU 2.6.4 (arithmetic expansion).
use Rattle.std.specs.Prelude.{ℕ, List, map}
use Rattle.std.specs.Borrow.{Bor}
use Rattle.sh_tree.specs.declared.token.arithmetic.Figure.{Figure}

-- the texts of a table, and what each means
abbrev pub texts_of : List (Bor (List ℕ) × Figure) → List (List ℕ × Figure)
texts_of rows = map (λ r. (r.0.now, r.1)) rows
