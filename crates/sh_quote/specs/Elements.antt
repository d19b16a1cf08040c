-- Clauses of private functions: words, one after another.
-- POSIX.1-2024, XCU 2.9.1 (simple commands).
use Rattle.std.specs.Prelude.{List, [], ◌∷◌, Option, Some, None}
use Rattle.sh_tree.specs.declared.tree.Word.{Word}

-- the first one, and those after it
unfoldable pub split : List Word → Option (Word × List Word)
split [] = None
split (w ∷ ws) = Some (w, ws)
