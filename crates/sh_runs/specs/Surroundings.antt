-- The commands of a program, each with what is round it.
-- POSIX.1-2024, XCU 2.9 (shell commands), 2.15 (break, continue, return).
use Rattle.std.specs.Prelude.{ℕ, ◌+◌, nat_lt, Bool, true, false, ◌||◌, List, [], ◌∷◌, ◌++◌, min}
use Rattle.sh_tree.specs.standard.program.Syntax as p

-- How many loops, and whether a function, are round a place, with no started process, part of a
-- pipeline or other definition between: loops up to 255, and no script that is read has more.
-- `beyond`: a loop is round the pipeline that the place is in a part of. If the part runs in the
-- shell (2.13), a jump past the loops of the part leaves or turns that loop.
pub record Surroundings : Type 0 where
  pub loops : ℕ
  pub function : Bool
  pub beyond : Bool

abbrev pub has_loop : Surroundings → Bool
has_loop x = nat_lt 0 x.loops

pub record Located : Type 0 where
  pub command : p.Command
  pub surroundings : Surroundings

-- a started process, a part of a pipeline, and the script
abbrev pub outside : Surroundings
outside = record { loops = 0; function = false; beyond = false }

abbrev pub in_loop : Surroundings → Surroundings
in_loop x = record x { loops = min (x.loops + 1) 255 }

abbrev pub in_function : Surroundings
in_function = record { loops = 0; function = true; beyond = false }

-- a pipeline of two or more has parts
unfoldable pub in_part : Surroundings → p.Commands → Surroundings
in_part x (p.more_commands c (p.more_commands d cs)) = record { loops = 0; function = false; beyond = has_loop x || x.beyond }
in_part x _ = x

unfoldable pub in_item : Surroundings → Bool → Surroundings
in_item x true = outside
in_item x false = x

unfoldable mutual
  pub items_located : Surroundings → p.Items → List Located
  items_located x p.no_items = []
  items_located x (p.more_items list background rest) = list_located (in_item x background) list ++ items_located x rest

  pub list_located : Surroundings → p.AndOr → List Located
  list_located x (p.and_or first rest) = pipeline_located x first ++ links_located x rest

  pub links_located : Surroundings → p.Links → List Located
  links_located x p.no_links = []
  links_located x (p.more_links link q rest) = pipeline_located x q ++ links_located x rest

  pub pipeline_located : Surroundings → p.Pipeline → List Located
  pipeline_located x (p.pipeline negated cs) = commands_located (in_part x cs) cs

  pub commands_located : Surroundings → p.Commands → List Located
  commands_located x p.no_commands = []
  commands_located x (p.more_commands c cs) = command_located x c ++ commands_located x cs

  pub command_located : Surroundings → p.Command → List Located
  command_located x (p.command number at kind rs) =
      record { command = p.command number at kind rs; surroundings = x } ∷ (kind_located x kind ++ redirects_located rs)

  pub kind_located : Surroundings → p.Kind → List Located
  kind_located x (p.Simple es) = elements_located es
  kind_located x (p.Group list) = items_located x list
  kind_located x (p.Subshell list) = items_located outside list
  kind_located x (p.Conditional branches otherwise) = branches_located x branches ++ otherwise_located x otherwise
  kind_located x (p.Loop kind condition body) = items_located (in_loop x) condition ++ items_located (in_loop x) body
  kind_located x (p.For name ws body) = for_words_located ws ++ items_located (in_loop x) body
  kind_located x (p.Case w cs) = word_located w ++ clauses_located x cs
  kind_located x (p.Define name body) = command_located in_function body

  pub elements_located : p.Elements → List Located
  elements_located p.no_elements = []
  elements_located (p.assignment name value es) = word_located value ++ elements_located es
  elements_located (p.operand w es) = word_located w ++ elements_located es
  elements_located (p.redirection r es) = redirect_located r ++ elements_located es

  pub redirect_located : p.Redirect → List Located
  redirect_located (p.File w) = word_located w
  redirect_located (p.Here w) = word_located w

  pub redirects_located : p.Redirects → List Located
  redirects_located p.no_redirects = []
  redirects_located (p.more_redirects r rs) = redirect_located r ++ redirects_located rs

  pub branches_located : Surroundings → p.Branches → List Located
  branches_located x p.no_branches = []
  branches_located x (p.more_branches condition body rest) = items_located x condition ++ items_located x body ++ branches_located x rest

  pub otherwise_located : Surroundings → p.Otherwise → List Located
  otherwise_located x p.no_else = []
  otherwise_located x (p.else_of list) = items_located x list

  pub for_words_located : p.ForWords → List Located
  for_words_located p.every_parameter = []
  for_words_located (p.listed ws) = words_located ws

  pub words_located : p.Words → List Located
  words_located p.no_words = []
  words_located (p.more_words w ws) = word_located w ++ words_located ws

  pub clauses_located : Surroundings → p.Clauses → List Located
  clauses_located x p.no_clauses = []
  clauses_located x (p.more_clauses patterns body end rest) = words_located patterns ++ items_located x body ++ clauses_located x rest

  pub word_located : p.Word → List Located
  word_located p.no_parts = []
  word_located (p.more_parts y w) = part_located y ++ word_located w

  pub part_located : p.Part → List Located
  part_located (p.Double w) = word_located w
  part_located (p.Expansion at parameter operator) = operator_located operator
  part_located (p.Arithmetic at e) = expression_located e
  part_located (p.Substitution at list) = items_located outside list
  part_located _ = []

  pub operator_located : p.Operator → List Located
  operator_located (p.Use action colon w) = word_located w
  operator_located (p.Remove removal w) = word_located w
  operator_located _ = []

  pub expression_located : p.Expression → List Located
  expression_located (p.Expanded y) = part_located y
  expression_located (p.Parenthesis e) = expression_located e
  expression_located (p.Signed operator e) = expression_located e
  expression_located (p.Chain e rest) = expression_located e ++ operands_located rest
  expression_located (p.Choice e then_one else_one) = expression_located e ++ expression_located then_one ++ expression_located else_one
  expression_located (p.Assigned at name operator e) = expression_located e
  expression_located _ = []

  pub operands_located : p.Operands → List Located
  operands_located p.no_operands = []
  operands_located (p.more_operands operator e rest) = expression_located e ++ operands_located rest
