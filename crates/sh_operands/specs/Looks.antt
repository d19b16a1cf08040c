-- Whether something is in a word, and in clauses of private functions in a piece of one.
-- POSIX.1-2024, XCU 2.5.2 (special parameters), 2.6.2 (parameter expansion), 2.6.4 (arithmetic
-- expansion).
use Rattle.std.specs.Prelude.{ℕ, Bool, true, false, not, ◌&&◌, List}
use Rattle.std.specs.List.{list_any}
use Rattle.sh_tree.specs.declared.tree.Action.{Action}
use Rattle.sh_tree.specs.declared.tree.Action.TheVariants as action
use Rattle.sh_tree.specs.declared.tree.Binary.{Binary}
use Rattle.sh_tree.specs.declared.tree.Expr.{Expr}
use Rattle.sh_tree.specs.declared.tree.ParameterOperator.{ParameterOperator}
use Rattle.sh_tree.specs.declared.tree.Part.{Part}
use Rattle.sh_tree.specs.declared.tree.Special.{Special}
use Rattle.sh_tree.specs.declared.tree.Special.TheVariants as special
use Rattle.sh_tree.specs.declared.tree.Subject.{Subject}
use Rattle.sh_tree.specs.declared.tree.Subject.TheVariants as subject
use Rattle.sh_tree.specs.standard.program.Syntax as p
use Rattle.sh_tree.specs.standard.program.Syntax.{Text}
use Rattle.sh_tree.specs.standard.program.Trees as trees
use Rattle.sh_runs.specs.Counts.{part_has_all, word_has_all, expression_has_all, operands_have_all}
use Rattle.sh_runs.specs.Quoting.{word_mentions, part_mentions, expression_mentions, operands_mention, part_assigns, word_assigns, expression_assigns, operands_assign, is_at, is_ifs}
use Rattle.sh_operands.specs.declared.looks.Look.{Look}
use Rattle.sh_operands.specs.declared.looks.Look.TheVariants.{SetsIfs, At, Parameters}

-- what is looked for, in the words of the definitions; whether the piece is quoted

unfoldable pub in_word : Look → Bool → p.Word → Bool
in_word SetsIfs quoted w = word_assigns is_ifs w
in_word At quoted w = word_mentions is_at w
in_word Parameters quoted w = word_has_all quoted w

unfoldable pub in_part : Look → Bool → p.Part → Bool
in_part SetsIfs quoted x = part_assigns is_ifs x
in_part At quoted x = part_mentions is_at x
in_part Parameters quoted x = part_has_all quoted x

-- in the word after an operator; patterns are read as outside quotes
unfoldable pub in_operator : Look → Bool → p.Operator → Bool
in_operator look quoted (p.Use action colon w) = in_word look quoted w
in_operator look quoted (p.Remove removal w) = in_word look false w
in_operator look quoted _ = false

unfoldable pub in_expression : Look → p.Expression → Bool
in_expression SetsIfs e = expression_assigns is_ifs e
in_expression At e = expression_mentions is_at e
in_expression Parameters e = expression_has_all e

unfoldable pub in_operands : Look → p.Operands → Bool
in_operands SetsIfs es = operands_assign is_ifs es
in_operands At es = operands_mention is_at es
in_operands Parameters es = operands_have_all es

-- the expansion, or the assignment in arithmetic, itself

unfoldable pub is_assign : Action → Bool
is_assign action.Assign = true
is_assign _ = false

unfoldable pub operator_assigns : p.Operator → Bool
operator_assigns (p.Use action colon w) = is_assign action
operator_assigns _ = false

unfoldable pub is_variable_ifs : p.Parameter → Bool
is_variable_ifs (p.Variable name) = is_ifs name
is_variable_ifs _ = false

unfoldable pub at_name : Look → Text → Bool
at_name SetsIfs name = is_ifs name
at_name _ name = false

-- the same in a tree

unfoldable pub special_is_all : Bool → Special → Bool
special_is_all quoted special.At = true
special_is_all quoted special.Asterisk = not quoted
special_is_all quoted _ = false

unfoldable pub subject_is_all : Bool → Subject → Bool
subject_is_all quoted (subject.Special c s) = special_is_all quoted c
subject_is_all quoted _ = false

unfoldable pub assigns : List ℕ → ParameterOperator → Bool
assigns b o = operator_assigns (trees.operator_of b o)

unfoldable pub subject_is_ifs : List ℕ → Subject → Bool
subject_is_ifs b s = is_variable_ifs (trees.parameter_of b s)

unfoldable pub at_expansion : Look → Bool → List ℕ → Subject → ParameterOperator → Bool
at_expansion SetsIfs quoted b s o = assigns b o && subject_is_ifs b s
at_expansion At quoted b s o = subject_is_all true s
at_expansion Parameters quoted b s o = subject_is_all quoted s

unfoldable pub has_in_part : Look → Bool → List ℕ → Part → Bool
has_in_part look quoted b x = in_part look quoted (trees.part_of b x)

abbrev pub has_in_parts : Look → Bool → List ℕ → List Part → Bool
has_in_parts look quoted b xs = list_any (has_in_part look quoted b) xs

unfoldable pub has_in_operator : Look → Bool → List ℕ → ParameterOperator → Bool
has_in_operator look quoted b o = in_operator look quoted (trees.operator_of b o)

unfoldable pub has_in_expression : Look → List ℕ → Expr → Bool
has_in_expression look b e = in_expression look (trees.expression_of b e)

abbrev pub has_in_step : Look → List ℕ → Binary × Expr → Bool
has_in_step look b x = has_in_expression look b x.1
