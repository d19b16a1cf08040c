-- How each command of a program is entered: by which rule, from what is seen there, and what is
-- round it.
-- POSIX.1-2024, XCU 2.6.3 (command substitution), 2.9 (shell commands), 2.13 (shell execution
-- environment).
use Rattle.std.specs.Prelude.{ℕ, Bool, true, false, List, [], ◌∷◌, ◌++◌, Option, Some, None}
use Rattle.sh_tree.specs.declared.tree.Action.{Action}
use Rattle.sh_tree.specs.declared.tree.Action.TheVariants as action
use Rattle.sh_tree.specs.declared.tree.ClauseEnd.{ClauseEnd}
use Rattle.sh_tree.specs.declared.tree.ClauseEnd.TheVariants as clause
use Rattle.sh_tree.specs.declared.tree.Link.{Link}
use Rattle.sh_tree.specs.declared.tree.Link.TheVariants as link
use Rattle.sh_tree.specs.declared.tree.LoopKind.{LoopKind}
use Rattle.sh_tree.specs.declared.tree.LoopKind.TheVariants as loop
use Rattle.sh_tree.specs.standard.program.Syntax as p
use Rattle.sh_tree.specs.standard.program.Syntax.{Text}
use Rattle.sh_domain.specs.declared.rule.FlowRule.{FlowRule}
use Rattle.sh_domain.specs.declared.rule.FlowRule.TheVariants.{F1, F2, F3, F6, F7, F8, F9, F10, F11, F12, F13}
use Rattle.sh_domain.specs.Gains.{job, sure, part_gains, expanded_gains, word_gains, words_gains, redirect_gains, redirects_gains}
use Rattle.sh_domain.specs.Table.{behind_words}
use Rattle.sh_domain.specs.Views.{Seen, After, Both, Each, if_zero, if_nonzero, in_any_case, swapped, after_command, anything, at, at_start, Before, Head, Entry, gaining, gaining_names, without_job}

-- What is round a command: the loops, the innermost first; the function that it may leave; the
-- function whose drops it counts for; whether it is in a part of a pipeline, which may share the
-- environment of the other parts.
pub record Around : Type 0 where
  pub loops : List ℕ
  pub function : Option Text
  pub drops : Option Text
  pub shares : Bool

-- the script, and a process that is started
abbrev pub alone : Around
alone = record { loops = []; function = None; drops = None; shares = false }

abbrev pub in_loop : ℕ → Around → Around
in_loop n x = record x { loops = n ∷ x.loops }

abbrev pub in_function : Text → Around
in_function f = record { loops = []; function = Some f; drops = Some f; shares = false }

-- a part of a pipeline leaves no loop and no function; what it drops the function may have dropped
abbrev pub in_part : Around → Around
in_part x = record { loops = []; function = None; drops = x.drops; shares = true }

-- A command of the program, the rule that enters it, and what is seen there.
pub record Entered : Type 0 where
  pub command : p.Command
  pub rule : FlowRule
  pub around : Around
  pub seen : Seen

-- What is known after lists (F2, F3, F11, F12)

-- a command alone has its own facts; a pipeline of two or more leaves what was known before it
unfoldable pub parts_after : Seen → p.Commands → After
parts_after s (p.more_commands (p.command n offset kind rs) p.no_commands) = after_command n
parts_after s _ = Both s

unfoldable pub pipeline_after : Seen → p.Pipeline → After
pipeline_after s (p.pipeline negated cs) = swapped negated (parts_after s cs)

-- what the pipeline after `&&` or `||` is entered with
unfoldable pub link_seen : Link → After → Seen
link_seen link.AndThen o = if_zero o
link_seen link.OrElse o = if_nonzero o

-- `a && b` is zero if b is, `a || b` is not zero if b is not
unfoldable pub linked : Link → After → After → After
linked link.AndThen o q = Each (if_zero q) (if_nonzero o ++ if_nonzero q)
linked link.OrElse o q = Each (if_zero o ++ if_zero q) (if_nonzero q)

unfoldable pub links_after : After → p.Links → After
links_after o p.no_links = o
links_after o (p.more_links l q rest) = links_after (linked l o (pipeline_after (link_seen l o) q)) rest

unfoldable pub list_after : Seen → p.AndOr → After
list_after s (p.and_or first rest) = links_after (pipeline_after s first) rest

-- after an asynchronous item `!` is set, and its status is zero
unfoldable pub item_after : Seen → Bool → p.AndOr → After
item_after s false list = list_after s list
item_after s true list = Each (gaining_names (job ∷ []) s) anything

-- the last item's; an empty list passes on what was known
unfoldable pub items_after : After → p.Items → After
items_after o p.no_items = o
items_after o (p.more_items list background rest) = items_after (item_after (in_any_case o) background list) rest

-- Compound commands

-- what is known in them: after their redirections
abbrev pub behind_redirects : ℕ → p.Redirects → Seen
behind_redirects n rs = gaining (redirects_gains rs) (at (Before n))

-- what `else` is entered with: what is known after the last condition, if no condition was zero
-- (F6)
unfoldable pub otherwise_seen : Seen → p.Branches → Seen
otherwise_seen s p.no_branches = s
otherwise_seen s (p.more_branches condition body rest) = otherwise_seen (if_nonzero (items_after (Both s) condition)) rest

-- a loop goes on while its condition is zero, or until it is (F7)
unfoldable pub turns : LoopKind → After → Seen
turns loop.While o = if_zero o
turns loop.Until o = if_nonzero o

unfoldable pub ends : LoopKind → After → Seen
ends loop.While o = if_nonzero o
ends loop.Until o = if_zero o

-- what is known after the words of `for` (F8)
unfoldable pub behind_list : p.ForWords → Seen → Seen
behind_list p.every_parameter s = s
behind_list (p.listed ws) s = gaining (words_gains ws) s

-- `;&` goes on with the next list (F9)
unfoldable pub falls : ClauseEnd → After → Seen
falls clause.Break o = []
falls clause.FallThrough o = in_any_case o

-- what is known in the word after an operator: that of `+` is expanded only if the parameter is set
unfoldable pub operand_seen : Action → p.Parameter → Seen → Seen
operand_seen action.Alternative parameter s = gaining (sure parameter) s
operand_seen _ parameter s = s

-- a pipeline of two or more has parts (F12)
unfoldable pub is_long : p.Commands → Bool
is_long (p.more_commands c (p.more_commands d cs)) = true
is_long _ = false

-- the rule that enters an item and what is round it: an asynchronous one is a process without `!`
-- (F11)
unfoldable pub item_rule : Bool → FlowRule → FlowRule
item_rule true by = F11
item_rule false by = by

unfoldable pub item_around : Bool → Around → Around
item_around true x = alone
item_around false x = x

unfoldable pub item_seen : Bool → Seen → Seen
item_seen true s = without_job s
item_seen false s = s

-- the part of a longer pipeline is a process too
unfoldable pub part_rule : Bool → FlowRule → FlowRule
part_rule true by = F12
part_rule false by = by

unfoldable pub part_around : Bool → Around → Around
part_around true x = in_part x
part_around false x = x

-- The commands, in the order of the text; `by` is the rule that enters the first command of a list

unfoldable mutual
  pub items_entered : FlowRule → Around → After → p.Items → List Entered
  items_entered by x o p.no_items = []
  items_entered by x o (p.more_items list background rest) =
      list_entered (item_rule background by) (item_around background x) (item_seen background (in_any_case o)) list
      ++ items_entered F2 x (item_after (in_any_case o) background list) rest

  pub list_entered : FlowRule → Around → Seen → p.AndOr → List Entered
  list_entered by x s (p.and_or first rest) = pipeline_entered by x s first ++ links_entered x (pipeline_after s first) rest

  pub links_entered : Around → After → p.Links → List Entered
  links_entered x o p.no_links = []
  links_entered x o (p.more_links l q rest) =
      pipeline_entered F3 x (link_seen l o) q ++ links_entered x (linked l o (pipeline_after (link_seen l o) q)) rest

  pub pipeline_entered : FlowRule → Around → Seen → p.Pipeline → List Entered
  pipeline_entered by x s (p.pipeline negated cs) =
      commands_entered (part_rule (is_long cs) by) (part_around (is_long cs) x) (item_seen (is_long cs) s) cs

  pub commands_entered : FlowRule → Around → Seen → p.Commands → List Entered
  commands_entered by x s p.no_commands = []
  commands_entered by x s (p.more_commands c cs) = command_entered by x s c ++ commands_entered by x s cs

  pub command_entered : FlowRule → Around → Seen → p.Command → List Entered
  command_entered by x s (p.command n offset kind rs) =
      record { command = p.command n offset kind rs; rule = by; around = x; seen = s }
      ∷ (redirects_entered (at (Before n)) rs ++ kind_entered x n (behind_redirects n rs) kind)

  -- what is in the command n, after whose redirections this is seen
  pub kind_entered : Around → ℕ → Seen → p.Kind → List Entered
  kind_entered x n s (p.Simple es) = elements_entered s (behind_words es s) es
  kind_entered x n s (p.Group list) = items_entered F10 x (Both s) list
  kind_entered x n s (p.Subshell list) = items_entered F11 alone (Both (without_job (at (Before n)))) list
  kind_entered x n s (p.Conditional branches otherwise) =
      branches_entered x s branches ++ otherwise_entered x (otherwise_seen s branches) otherwise
  kind_entered x n s (p.Loop kind condition body) =
      items_entered F7 (in_loop n x) (Both (at (Head n))) condition
      ++ items_entered F7 (in_loop n x) (Both (turns kind (items_after (Both (at (Head n))) condition))) body
  kind_entered x n s (p.For name ws body) =
      for_words_entered s ws ++ items_entered F8 (in_loop n x) (Both (gaining_names (name ∷ []) (at (Head n)))) body
  kind_entered x n s (p.Case w cs) = word_entered s w ++ clauses_entered x (gaining (word_gains w) s) [] cs
  kind_entered x n s (p.Define name body) = command_entered F13 (in_function name) (at (Entry name)) body

  -- the words of a simple command, and after them each redirection and each value by itself
  pub elements_entered : Seen → Seen → p.Elements → List Entered
  elements_entered s behind p.no_elements = []
  elements_entered s behind (p.assignment name value es) = word_entered behind value ++ elements_entered s behind es
  elements_entered s behind (p.operand w es) = word_entered s w ++ elements_entered (gaining (word_gains w) s) behind es
  elements_entered s behind (p.redirection r es) = redirect_entered behind r ++ elements_entered s behind es

  pub redirect_entered : Seen → p.Redirect → List Entered
  redirect_entered s (p.File w) = word_entered s w
  redirect_entered s (p.Here w) = word_entered s w

  pub redirects_entered : Seen → p.Redirects → List Entered
  redirects_entered s p.no_redirects = []
  redirects_entered s (p.more_redirects r rs) = redirect_entered s r ++ redirects_entered (gaining (redirect_gains r) s) rs

  -- each condition is entered with what is known after the last one, and each branch with what is
  -- known where its condition is zero
  pub branches_entered : Around → Seen → p.Branches → List Entered
  branches_entered x s p.no_branches = []
  branches_entered x s (p.more_branches condition body rest) =
      items_entered F6 x (Both s) condition
      ++ items_entered F6 x (Both (if_zero (items_after (Both s) condition))) body
      ++ branches_entered x (if_nonzero (items_after (Both s) condition)) rest

  pub otherwise_entered : Around → Seen → p.Otherwise → List Entered
  otherwise_entered x s p.no_else = []
  otherwise_entered x s (p.else_of list) = items_entered F6 x (Both s) list

  pub for_words_entered : Seen → p.ForWords → List Entered
  for_words_entered s p.every_parameter = []
  for_words_entered s (p.listed ws) = words_entered s ws

  pub words_entered : Seen → p.Words → List Entered
  words_entered s p.no_words = []
  words_entered s (p.more_words w ws) = word_entered s w ++ words_entered (gaining (word_gains w) s) ws

  -- Each pattern is judged after the word by itself. A list is entered after the word, and after
  -- the list before it if that ends with `;&`.
  pub clauses_entered : Around → Seen → Seen → p.Clauses → List Entered
  clauses_entered x s fallen p.no_clauses = []
  clauses_entered x s fallen (p.more_clauses patterns body end rest) =
      patterns_entered s patterns
      ++ items_entered F9 x (Both (s ++ fallen)) body
      ++ clauses_entered x s (falls end (items_after (Both (s ++ fallen)) body)) rest

  pub patterns_entered : Seen → p.Words → List Entered
  patterns_entered s p.no_words = []
  patterns_entered s (p.more_words w ws) = word_entered s w ++ patterns_entered s ws

  pub word_entered : Seen → p.Word → List Entered
  word_entered s p.no_parts = []
  word_entered s (p.more_parts y w) = part_entered s y ++ word_entered (gaining (part_gains y) s) w

  pub part_entered : Seen → p.Part → List Entered
  part_entered s (p.Double w) = word_entered s w
  part_entered s (p.Expansion offset parameter operator) = operator_entered s parameter operator
  part_entered s (p.Arithmetic offset e) = expression_entered s e
  part_entered s (p.Substitution offset list) = items_entered F11 alone (Both (without_job s)) list
  part_entered s _ = []

  pub operator_entered : Seen → p.Parameter → p.Operator → List Entered
  operator_entered s parameter (p.Use action colon w) = word_entered (operand_seen action parameter s) w
  operator_entered s parameter (p.Remove removal w) = word_entered s w
  operator_entered s parameter _ = []

  pub expression_entered : Seen → p.Expression → List Entered
  expression_entered s (p.Expanded y) = part_entered s y
  expression_entered s (p.Parenthesis e) = expression_entered s e
  expression_entered s (p.Signed operator e) = expression_entered s e
  expression_entered s (p.Chain e rest) = expression_entered s e ++ operands_entered (gaining (expanded_gains e) s) rest
  expression_entered s (p.Choice e then_one else_one) =
      expression_entered s e
      ++ expression_entered (gaining (expanded_gains e) s) then_one
      ++ expression_entered (gaining (expanded_gains then_one) (gaining (expanded_gains e) s)) else_one
  expression_entered s (p.Assigned offset name operator e) = expression_entered s e
  expression_entered s _ = []

  pub operands_entered : Seen → p.Operands → List Entered
  operands_entered s p.no_operands = []
  operands_entered s (p.more_operands operator e rest) = expression_entered s e ++ operands_entered (gaining (expanded_gains e) s) rest

-- the commands of a script, whose list is entered with the start
unfoldable pub script_entered : p.Items → List Entered
script_entered t = items_entered F1 alone (Both at_start) t
