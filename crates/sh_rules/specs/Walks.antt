-- Clauses of private functions: what is round a piece of a tree, and what is known after it.
-- POSIX.1-2024, XCU 2.9.2 (pipelines), 2.9.3 (lists).
use Rattle.std.specs.Prelude.{ℕ, Bool, not, ◌&&◌, is_some, ◌-◌, max, nat_eq, slice_get, List, [], ◌∷◌, Option, Some, None, option_map}
use Rattle.sh_tree.specs.declared.tree.AndOr.{AndOr, out-AndOr}
use Rattle.sh_tree.specs.declared.tree.Command.{Command}
use Rattle.sh_tree.specs.declared.tree.Item.{Item, out-Item}
use Rattle.sh_tree.specs.declared.tree.Link.{Link}
use Rattle.sh_tree.specs.declared.tree.Pipe.{Pipe, out-Pipe}
use Rattle.sh_tree.specs.declared.tree.Script.{Script}
use Rattle.sh_tree.specs.standard.Tree.{text_of}
use Rattle.sh_tree.specs.standard.Words.{lone_part}
use Rattle.sh_tree.specs.Lists.{commands_from}
use Rattle.sh_tree.specs.standard.program.Trees as trees
use Rattle.sh_domain.specs.Entries as entries
use Rattle.sh_domain.specs.Facts.{Facts}
use Rattle.sh_domain.specs.declared.certificate.Certificate.{Certificate}
use Rattle.sh_domain.specs.declared.certificate.Entry.{Entry}
use Rattle.indexmap.specs.IndexMap.{get}
use Rattle.sh_domain.specs.declared.certificate.Facts as value
use Rattle.sh_domain.specs.Knowledge.{knowledge_facts}
use Rattle.sh_domain.specs.declared.knowledge.Knowledge.{Knowledge}
use Rattle.sh_rules.specs.declared.around.Around.{Around}
use Rattle.sh_rules.specs.declared.around.Loops.{Loops, Outside, Inside'}
use Rattle.sh_rules.specs.declared.behind.Behind as code
use Rattle.sh_rules.specs.declared.claims.Claims.{Claims}
use Rattle.sh_rules.specs.Settings.{Setting}
use Rattle.sh_rules.specs.Behind.{Behind, parts_behind, pipeline_behind, link_behind, list_behind, behind_known, item_behind, items_behind}

-- what a check uses
unfoldable pub setting : Claims → Setting
setting c = record { script = c.script.now; names = c.names.now; functions = c.calls.now.functions.names; rows = c.calls.now.rows; kept = c.certificate.now }

-- what is round a command

unfoldable pub loops_of : Loops → List ℕ
loops_of Outside = []
loops_of (Inside' n shape outer) = n ∷ loops_of outer

abbrev pub around : List ℕ → Around → entries.Around
around b y = record { loops = loops_of y.loops; function = option_map (text_of b) y.function; drops = option_map (text_of b) y.drops; shares = y.shares }

-- what a certificate has for each turn of a loop, if it has the command
unfoldable pub head_where : Option Entry → Option value.Facts → Option value.Facts
head_where None f = None
head_where (Some e) f = f

abbrev pub head_of : Certificate → ℕ → Option value.Facts
head_of c n = head_where (slice_get c.entries.items (n - 1)) (get nat_eq c.heads (max n 1))

-- what is known after each piece

unfoldable pub facts_in : Setting → Knowledge → Facts
facts_in x k = knowledge_facts x.names k

abbrev pub behind_in : Setting → code.Behind → Behind
behind_in x o = record { zero = facts_in x o.zero; nonzero = facts_in x o.nonzero }

unfoldable pub commands_behind : Setting → Facts → List Command → Behind
commands_behind x k cs = parts_behind x k (commands_from x.script cs)

unfoldable pub pipe_behind : Setting → Facts → Pipe → Behind
pipe_behind x k q = pipeline_behind x k (trees.pipeline_of x.script q)

abbrev pub link_left : Setting → Behind → Link × Pipe → Behind
link_left x o l = link_behind x o l.0 (trees.pipeline_of x.script l.1)

unfoldable pub and_or_behind : Setting → Facts → AndOr → Behind
and_or_behind x k l = list_behind x k (trees.and_or_of x.script l)

unfoldable pub behind_item : Setting → Facts → Item → Behind
behind_item x k i = behind_known x k (out-Item i).background (trees.and_or_of x.script (out-Item i).list)

unfoldable pub item_left : Setting → Behind → Item → Behind
item_left x o i = item_behind x o (out-Item i).background (trees.and_or_of x.script (out-Item i).list)

-- an item that is not asynchronous and begins with a command alone: what is known after it depends
-- on nothing before it
unfoldable pub is_settled : Item → Bool
is_settled i = not (out-Item i).background && is_some (lone_part (out-Pipe (out-AndOr (out-Item i).list).first).parts)

unfoldable pub script_behind : Setting → Behind → Script → Behind
script_behind x o t = items_behind x o (trees.script_of x.script t)
