-- Whether each name that a piece of a program may leave set passes a test: of expansions and of
-- arithmetic, wherever in it.
-- POSIX.1-2024, XCU 2.6.2 (parameter expansion), 2.6.4 (arithmetic expansion).
use Rattle.std.specs.Prelude.{Bool, true, ◌&&◌}
use Rattle.std.specs.List.{list_all}
use Rattle.sh_tree.specs.standard.program.Syntax as p
use Rattle.sh_tree.specs.standard.program.Syntax.{Text}
use Rattle.sh_domain.specs.Gains.{sure}

unfoldable mutual
  pub part_within : (Text → Bool) → p.Part → Bool
  part_within q (p.Double w) = word_within q w
  part_within q (p.Expansion at parameter operator) = list_all q (sure parameter).names && operator_within q operator
  part_within q (p.Arithmetic at e) = expression_within q e
  part_within q _ = true

  pub word_within : (Text → Bool) → p.Word → Bool
  word_within q p.no_parts = true
  word_within q (p.more_parts x w) = part_within q x && word_within q w

  pub operator_within : (Text → Bool) → p.Operator → Bool
  operator_within q (p.Use action colon w) = word_within q w
  operator_within q (p.Remove removal w) = word_within q w
  operator_within q _ = true

  pub expression_within : (Text → Bool) → p.Expression → Bool
  expression_within q (p.Expanded x) = part_within q x
  expression_within q (p.Parenthesis e) = expression_within q e
  expression_within q (p.Signed operator e) = expression_within q e
  expression_within q (p.Chain e rest) = expression_within q e && operands_within q rest
  expression_within q (p.Choice e then_one else_one) = expression_within q e && (expression_within q then_one && expression_within q else_one)
  expression_within q (p.Assigned at name operator e) = q name && expression_within q e
  expression_within q _ = true

  pub operands_within : (Text → Bool) → p.Operands → Bool
  operands_within q p.no_operands = true
  operands_within q (p.more_operands operator e rest) = expression_within q e && operands_within q rest

unfoldable pub words_within : (Text → Bool) → p.Words → Bool
words_within q p.no_words = true
words_within q (p.more_words w ws) = word_within q w && words_within q ws

unfoldable pub redirect_within : (Text → Bool) → p.Redirect → Bool
redirect_within q (p.File w) = word_within q w
redirect_within q (p.Here w) = word_within q w

unfoldable pub redirects_within : (Text → Bool) → p.Redirects → Bool
redirects_within q p.no_redirects = true
redirects_within q (p.more_redirects r rs) = redirect_within q r && redirects_within q rs

unfoldable pub elements_within : (Text → Bool) → p.Elements → Bool
elements_within q p.no_elements = true
elements_within q (p.assignment name value es) = word_within q value && elements_within q es
elements_within q (p.operand w es) = word_within q w && elements_within q es
elements_within q (p.redirection r es) = redirect_within q r && elements_within q es

unfoldable pub clauses_within : (Text → Bool) → p.Clauses → Bool
clauses_within q p.no_clauses = true
clauses_within q (p.more_clauses patterns body end rest) = words_within q patterns && clauses_within q rest

unfoldable pub for_words_within : (Text → Bool) → p.ForWords → Bool
for_words_within q p.every_parameter = true
for_words_within q (p.listed ws) = words_within q ws

-- of a command's own words
unfoldable pub kind_within : (Text → Bool) → p.Kind → Bool
kind_within q (p.Simple es) = elements_within q es
kind_within q (p.For name ws body) = for_words_within q ws
kind_within q (p.Case w cs) = word_within q w && clauses_within q cs
kind_within q _ = true

unfoldable pub command_within : (Text → Bool) → p.Command → Bool
command_within q (p.command n at kind rs) = redirects_within q rs && kind_within q kind
