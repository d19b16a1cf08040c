-- Clauses of private functions: an unquoted `*`, `?` or `[` in a piece of a word.
-- POSIX.1-2024, XCU 2.6.6 (pathname expansion), 2.14 (patterns).
use Rattle.std.specs.Prelude.{ℕ, Bool, false, List}
use Rattle.std.specs.List.{list_any}
use Rattle.sh_tree.specs.declared.tree.ParameterOperator.{ParameterOperator}
use Rattle.sh_tree.specs.declared.tree.Part.{Part}
use Rattle.sh_tree.specs.standard.program.Syntax as p
use Rattle.sh_tree.specs.standard.program.Trees as trees
use Rattle.sh_runs.specs.Quoting.{part_begins_pattern, word_begins_pattern}

-- in the word after `-`, `=`, `?` or `+`
unfoldable pub operator_begins_pattern : p.Operator → Bool
operator_begins_pattern (p.Use action colon w) = word_begins_pattern w
operator_begins_pattern _ = false

unfoldable pub part_begins : List ℕ → Part → Bool
part_begins b x = part_begins_pattern (trees.part_of b x)

abbrev pub parts_begin : List ℕ → List Part → Bool
parts_begin b xs = list_any (part_begins b) xs

unfoldable pub operator_begins : List ℕ → ParameterOperator → Bool
operator_begins b o = operator_begins_pattern (trees.operator_of b o)
