-- What is reported of each command of a program: of a command before those in it, of those in its
-- redirections before those in its words. Each comes with whether it is in a part of a pipeline,
-- which may share the environment of the other parts.
-- POSIX.1-2024, XCU 2.6.3 (command substitution), 2.9 (shell commands), 2.13 (shell execution
-- environment).
use Rattle.std.specs.Prelude.{Bool, false, not, ◌&&◌, ◌||◌, List}
use Rattle.sh_tree.specs.declared.place.Place.{Place}
use Rattle.sh_tree.specs.standard.program.Syntax as p
use Rattle.sh_domain.specs.Entries.{is_long}

-- the places with those of one command more
abbrev pub Teller : Type 0
Teller = Bool → List Place → p.Command → List Place

-- an asynchronous item is a process alone; the parts of a pipeline of two or more share
abbrev pub item_shares : Bool → Bool → Bool
item_shares background shares = not background && shares

abbrev pub part_shares : Bool → Bool → Bool
part_shares long shares = long || shares

unfoldable mutual
  pub items_told : Teller → Bool → List Place → p.Items → List Place
  items_told f s ps p.no_items = ps
  items_told f s ps (p.more_items list background rest) = items_told f s (list_told f (item_shares background s) ps list) rest

  pub list_told : Teller → Bool → List Place → p.AndOr → List Place
  list_told f s ps (p.and_or first rest) = links_told f s (pipeline_told f s ps first) rest

  pub links_told : Teller → Bool → List Place → p.Links → List Place
  links_told f s ps p.no_links = ps
  links_told f s ps (p.more_links l q rest) = links_told f s (pipeline_told f s ps q) rest

  pub pipeline_told : Teller → Bool → List Place → p.Pipeline → List Place
  pipeline_told f s ps (p.pipeline negated cs) = commands_told f (part_shares (is_long cs) s) ps cs

  pub commands_told : Teller → Bool → List Place → p.Commands → List Place
  commands_told f s ps p.no_commands = ps
  commands_told f s ps (p.more_commands c cs) = commands_told f s (command_told f s ps c) cs

  pub command_told : Teller → Bool → List Place → p.Command → List Place
  command_told f s ps (p.command n at kind rs) = kind_told f s (redirects_told f (f s ps (p.command n at kind rs)) rs) kind

  pub kind_told : Teller → Bool → List Place → p.Kind → List Place
  kind_told f s ps (p.Simple es) = elements_told f ps es
  kind_told f s ps (p.Group list) = items_told f s ps list
  kind_told f s ps (p.Subshell list) = items_told f false ps list
  kind_told f s ps (p.Conditional branches otherwise) = otherwise_told f s (branches_told f s ps branches) otherwise
  kind_told f s ps (p.Loop kind condition body) = items_told f s (items_told f s ps condition) body
  kind_told f s ps (p.For name ws body) = items_told f s (for_words_told f ps ws) body
  kind_told f s ps (p.Case w cs) = clauses_told f s (word_told f ps w) cs
  kind_told f s ps (p.Define name body) = command_told f false ps body

  pub elements_told : Teller → List Place → p.Elements → List Place
  elements_told f ps p.no_elements = ps
  elements_told f ps (p.assignment name value es) = elements_told f (word_told f ps value) es
  elements_told f ps (p.operand w es) = elements_told f (word_told f ps w) es
  elements_told f ps (p.redirection r es) = elements_told f (redirect_told f ps r) es

  pub redirect_told : Teller → List Place → p.Redirect → List Place
  redirect_told f ps (p.File w) = word_told f ps w
  redirect_told f ps (p.Here w) = word_told f ps w

  pub redirects_told : Teller → List Place → p.Redirects → List Place
  redirects_told f ps p.no_redirects = ps
  redirects_told f ps (p.more_redirects r rs) = redirects_told f (redirect_told f ps r) rs

  pub branches_told : Teller → Bool → List Place → p.Branches → List Place
  branches_told f s ps p.no_branches = ps
  branches_told f s ps (p.more_branches condition body rest) = branches_told f s (items_told f s (items_told f s ps condition) body) rest

  pub otherwise_told : Teller → Bool → List Place → p.Otherwise → List Place
  otherwise_told f s ps p.no_else = ps
  otherwise_told f s ps (p.else_of list) = items_told f s ps list

  pub for_words_told : Teller → List Place → p.ForWords → List Place
  for_words_told f ps p.every_parameter = ps
  for_words_told f ps (p.listed ws) = words_told f ps ws

  pub words_told : Teller → List Place → p.Words → List Place
  words_told f ps p.no_words = ps
  words_told f ps (p.more_words w ws) = words_told f (word_told f ps w) ws

  pub clauses_told : Teller → Bool → List Place → p.Clauses → List Place
  clauses_told f s ps p.no_clauses = ps
  clauses_told f s ps (p.more_clauses patterns body end rest) = clauses_told f s (items_told f s (words_told f ps patterns) body) rest

  pub word_told : Teller → List Place → p.Word → List Place
  word_told f ps p.no_parts = ps
  word_told f ps (p.more_parts x w) = word_told f (part_told f ps x) w

  pub part_told : Teller → List Place → p.Part → List Place
  part_told f ps (p.Double w) = word_told f ps w
  part_told f ps (p.Expansion at parameter operator) = operator_told f ps operator
  part_told f ps (p.Arithmetic at e) = expression_told f ps e
  part_told f ps (p.Substitution at list) = items_told f false ps list
  part_told f ps _ = ps

  pub operator_told : Teller → List Place → p.Operator → List Place
  operator_told f ps (p.Use action colon w) = word_told f ps w
  operator_told f ps (p.Remove removal w) = word_told f ps w
  operator_told f ps _ = ps

  pub expression_told : Teller → List Place → p.Expression → List Place
  expression_told f ps (p.Expanded x) = part_told f ps x
  expression_told f ps (p.Parenthesis e) = expression_told f ps e
  expression_told f ps (p.Signed operator e) = expression_told f ps e
  expression_told f ps (p.Chain e rest) = operands_told f (expression_told f ps e) rest
  expression_told f ps (p.Choice e then_one else_one) = expression_told f (expression_told f (expression_told f ps e) then_one) else_one
  expression_told f ps (p.Assigned at name operator e) = expression_told f ps e
  expression_told f ps _ = ps

  pub operands_told : Teller → List Place → p.Operands → List Place
  operands_told f ps p.no_operands = ps
  operands_told f ps (p.more_operands operator e rest) = operands_told f (expression_told f ps e) rest
