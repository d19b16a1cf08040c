-- The single quotes in the operands of an expression.
-- POSIX.1-2024, XCU 2.2.2 (single-quotes).
use Rattle.std.specs.Prelude.{List, [], ◌∷◌, ◌++◌}
use Rattle.sh_tree.specs.declared.tree.Binary.{Binary}
use Rattle.sh_tree.specs.declared.tree.Expr.{Expr}
use Rattle.sh_tree.specs.declared.tree.Span.{Span}
use Rattle.sh_tree.specs.standard.language.Parts.{expression_singles}

-- those of a chain's operands, in order
unfoldable pub chained : List (Binary × Expr) → List Span
chained [] = []
chained (x ∷ xs) = expression_singles x.1 ++ chained xs
