-- The profile as a walk over the program: no command of it breaks a rule.
-- POSIX.1-2024, XCU 2.9 (shell commands).
use Rattle.std.specs.Prelude.{◌≡◌, Bool, true, not, ◌&&◌, is_some}
use Rattle.sh_tree.specs.standard.program.Syntax as p
use Rattle.sh_runs.specs.Surroundings.{Surroundings, outside, in_loop, in_function, in_part, in_item}
use Rattle.sh_runs.specs.Profile.{command_rule, first_refused}

unfoldable mutual
  pub items_admitted : Surroundings → p.Items → Bool
  items_admitted x p.no_items = true
  items_admitted x (p.more_items list background rest) = list_admitted (in_item x background) list && items_admitted x rest

  pub list_admitted : Surroundings → p.AndOr → Bool
  list_admitted x (p.and_or first rest) = pipeline_admitted x first && links_admitted x rest

  pub links_admitted : Surroundings → p.Links → Bool
  links_admitted x p.no_links = true
  links_admitted x (p.more_links link q rest) = pipeline_admitted x q && links_admitted x rest

  pub pipeline_admitted : Surroundings → p.Pipeline → Bool
  pipeline_admitted x (p.pipeline negated cs) = commands_admitted (in_part x cs) cs

  pub commands_admitted : Surroundings → p.Commands → Bool
  commands_admitted x p.no_commands = true
  commands_admitted x (p.more_commands c cs) = command_admitted x c && commands_admitted x cs

  pub command_admitted : Surroundings → p.Command → Bool
  command_admitted x (p.command number at kind rs) =
      not (is_some (command_rule x kind)) && (kind_admitted x kind && redirects_admitted rs)

  pub kind_admitted : Surroundings → p.Kind → Bool
  kind_admitted x (p.Simple es) = elements_admitted es
  kind_admitted x (p.Group list) = items_admitted x list
  kind_admitted x (p.Subshell list) = items_admitted outside list
  kind_admitted x (p.Conditional branches otherwise) = branches_admitted x branches && otherwise_admitted x otherwise
  kind_admitted x (p.Loop kind condition body) = items_admitted (in_loop x) condition && items_admitted (in_loop x) body
  kind_admitted x (p.For name ws body) = for_words_admitted ws && items_admitted (in_loop x) body
  kind_admitted x (p.Case w cs) = word_admitted w && clauses_admitted x cs
  kind_admitted x (p.Define name body) = command_admitted in_function body

  pub elements_admitted : p.Elements → Bool
  elements_admitted p.no_elements = true
  elements_admitted (p.assignment name value es) = word_admitted value && elements_admitted es
  elements_admitted (p.operand w es) = word_admitted w && elements_admitted es
  elements_admitted (p.redirection r es) = redirect_admitted r && elements_admitted es

  pub redirect_admitted : p.Redirect → Bool
  redirect_admitted (p.File w) = word_admitted w
  redirect_admitted (p.Here w) = word_admitted w

  pub redirects_admitted : p.Redirects → Bool
  redirects_admitted p.no_redirects = true
  redirects_admitted (p.more_redirects r rs) = redirect_admitted r && redirects_admitted rs

  pub branches_admitted : Surroundings → p.Branches → Bool
  branches_admitted x p.no_branches = true
  branches_admitted x (p.more_branches condition body rest) = items_admitted x condition && items_admitted x body && branches_admitted x rest

  pub otherwise_admitted : Surroundings → p.Otherwise → Bool
  otherwise_admitted x p.no_else = true
  otherwise_admitted x (p.else_of list) = items_admitted x list

  pub for_words_admitted : p.ForWords → Bool
  for_words_admitted p.every_parameter = true
  for_words_admitted (p.listed ws) = words_admitted ws

  pub words_admitted : p.Words → Bool
  words_admitted p.no_words = true
  words_admitted (p.more_words w ws) = word_admitted w && words_admitted ws

  pub clauses_admitted : Surroundings → p.Clauses → Bool
  clauses_admitted x p.no_clauses = true
  clauses_admitted x (p.more_clauses patterns body end rest) = words_admitted patterns && items_admitted x body && clauses_admitted x rest

  pub word_admitted : p.Word → Bool
  word_admitted p.no_parts = true
  word_admitted (p.more_parts y w) = part_admitted y && word_admitted w

  pub part_admitted : p.Part → Bool
  part_admitted (p.Double w) = word_admitted w
  part_admitted (p.Expansion at parameter operator) = operator_admitted operator
  part_admitted (p.Arithmetic at e) = expression_admitted e
  part_admitted (p.Substitution at list) = items_admitted outside list
  part_admitted _ = true

  pub operator_admitted : p.Operator → Bool
  operator_admitted (p.Use action colon w) = word_admitted w
  operator_admitted (p.Remove removal w) = word_admitted w
  operator_admitted _ = true

  pub expression_admitted : p.Expression → Bool
  expression_admitted (p.Expanded y) = part_admitted y
  expression_admitted (p.Parenthesis e) = expression_admitted e
  expression_admitted (p.Signed operator e) = expression_admitted e
  expression_admitted (p.Chain e rest) = expression_admitted e && operands_admitted rest
  expression_admitted (p.Choice e then_one else_one) = expression_admitted e && expression_admitted then_one && expression_admitted else_one
  expression_admitted (p.Assigned at name operator e) = expression_admitted e
  expression_admitted _ = true

  pub operands_admitted : p.Operands → Bool
  operands_admitted p.no_operands = true
  operands_admitted (p.more_operands operator e rest) = expression_admitted e && operands_admitted rest

-- of a whole program
abbrev pub is_admitted : p.Items → Bool
is_admitted t = items_admitted outside t

-- A program is admitted exactly if no command of it is refused.
abbrev pub AdmittedAsListed : Type 0
AdmittedAsListed = (t : p.Items) → is_admitted t ≡ not (is_some (first_refused t))
