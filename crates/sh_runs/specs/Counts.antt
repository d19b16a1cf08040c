-- How many fields an operand gives at least, by its form.
-- POSIX.1-2024, XCU 2.5.2 (special parameters), 2.6.2 (parameter expansion), 2.6.5 (field
-- splitting).
use Rattle.std.specs.Prelude.{ℕ, ◌==◌, Bool, true, false, not, ◌||◌, if◌then◌else◌, length}
use Rattle.sh_tree.specs.declared.tree.Action.TheVariants as action
use Rattle.sh_tree.specs.declared.tree.Special.TheVariants as special
use Rattle.sh_tree.specs.standard.program.Syntax.{Parameter, Special, Part, Plain, Double, Expansion, Arithmetic, Joined, Word, no_parts, more_parts, Operator, Value, Use, Remove, Expression, Constant, Name, Expanded, Parenthesis, Signed, Chain, Choice, Assigned, Operands, no_operands, more_operands}
use Rattle.sh_runs.specs.standard.runs.Environment.{Frame}

-- `$@`, or `$*` outside quotes
unfoldable pub is_all : Bool → Parameter → Bool
is_all quoted (Special special.At) = true
is_all quoted (Special special.Asterisk) = not quoted
is_all quoted p = false

-- such a parameter in a word, or in a word of a braced expansion or of arithmetic in it; patterns
-- are read as outside quotes
unfoldable mutual
  pub part_has_all : Bool → Part → Bool
  part_has_all quoted (Double w) = word_has_all true w
  part_has_all quoted (Expansion at p operator) = is_all quoted p || operator_has_all quoted operator
  part_has_all quoted (Arithmetic at e) = expression_has_all e
  part_has_all quoted _ = false

  pub word_has_all : Bool → Word → Bool
  word_has_all quoted no_parts = false
  word_has_all quoted (more_parts x w) = part_has_all quoted x || word_has_all quoted w

  pub operator_has_all : Bool → Operator → Bool
  operator_has_all quoted (Use action colon w) = word_has_all quoted w
  operator_has_all quoted (Remove removal w) = word_has_all false w
  operator_has_all quoted _ = false

  -- the expansions of arithmetic are quoted
  pub expression_has_all : Expression → Bool
  expression_has_all (Constant t) = false
  expression_has_all (Name at name) = false
  expression_has_all (Expanded x) = part_has_all true x
  expression_has_all (Parenthesis e) = expression_has_all e
  expression_has_all (Signed operator e) = expression_has_all e
  expression_has_all (Chain e rest) = expression_has_all e || operands_have_all rest
  expression_has_all (Choice e then_one else_one) = expression_has_all e || expression_has_all then_one || expression_has_all else_one
  expression_has_all (Assigned at name operator e) = expression_has_all e

  pub operands_have_all : Operands → Bool
  operands_have_all no_operands = false
  operands_have_all (more_operands operator e rest) = expression_has_all e || operands_have_all rest

-- whether a part gives a field of its own: an expansion with a default or an alternative may give
-- none
unfoldable pub gives_field : Part → Bool
gives_field (Plain t) = not (length t == 0)
gives_field (Expansion at p (Use action.Default colon w)) = false
gives_field (Expansion at p (Use action.Alternative colon w)) = false
gives_field Joined = false
gives_field _ = true

unfoldable pub some_gives_field : Word → Bool
some_gives_field no_parts = false
some_gives_field (more_parts x w) = gives_field x || some_gives_field w

-- `"$@"` alone
unfoldable pub is_parameters : Word → Bool
is_parameters (more_parts (Double (more_parts (Expansion at (Special special.At) Value) no_parts)) no_parts) = true
is_parameters _ = false

-- as many fields as there are parameters, at least one, or perhaps none
pub data Count : Type 0 where
  Parameters : Count
  One : Count
  Nothing : Count

unfoldable pub count_of : Word → Count
count_of w = if is_parameters w then Parameters else (if word_has_all false w || not (some_gives_field w) then Nothing else One)

-- the number, if these are the parameters
unfoldable pub least_fields : Frame → Count → ℕ
least_fields f Parameters = length f
least_fields f One = 1
least_fields f Nothing = 0
