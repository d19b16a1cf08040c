-- Clauses of private functions: what is reported of a piece of a tree.
-- POSIX.1-2024, XCU 2.6.3 (command substitution), 2.9 (shell commands), 2.13 (shell execution
-- environment).
use Rattle.std.specs.Prelude.{ℕ, nat_lt, Bool, ◌||◌, List, fold, Option, Some, None}
use Rattle.sh_tree.specs.declared.place.Place.{Place}
use Rattle.sh_tree.specs.declared.tree.AndOr.{AndOr}
use Rattle.sh_tree.specs.declared.tree.Binary.{Binary}
use Rattle.sh_tree.specs.declared.tree.Branch.{Branch, out-Branch}
use Rattle.sh_tree.specs.declared.tree.Clause.{Clause, out-Clause}
use Rattle.sh_tree.specs.declared.tree.Command.{Command}
use Rattle.sh_tree.specs.declared.tree.Element.{Element}
use Rattle.sh_tree.specs.declared.tree.Expr.{Expr}
use Rattle.sh_tree.specs.declared.tree.Item.{Item, out-Item}
use Rattle.sh_tree.specs.declared.tree.Kind.{Kind}
use Rattle.sh_tree.specs.declared.tree.Link.{Link}
use Rattle.sh_tree.specs.declared.tree.ParameterOperator.{ParameterOperator}
use Rattle.sh_tree.specs.declared.tree.Part.{Part}
use Rattle.sh_tree.specs.declared.tree.Pipe.{Pipe}
use Rattle.sh_tree.specs.declared.tree.Redirect.{Redirect}
use Rattle.sh_tree.specs.declared.tree.Script.{Script}
use Rattle.sh_tree.specs.declared.tree.Target.{Target}
use Rattle.sh_tree.specs.declared.tree.Word.{Word}
use Rattle.sh_tree.specs.Lists.{element_from}
use Rattle.sh_tree.specs.standard.program.Syntax as p
use Rattle.sh_tree.specs.standard.program.Trees as trees
use Rattle.sh_demands.specs.Told.{Teller, item_shares, items_told, list_told, pipeline_told, command_told, kind_told, elements_told, redirect_told, part_told, operator_told, expression_told}

-- of a pipeline of so many parts
abbrev pub parts_share : ℕ → Bool → Bool
parts_share n shares = nat_lt 1 n || shares

unfoldable pub script_step : Teller → List ℕ → Bool → List Place → Script → List Place
script_step f b s ps t = items_told f s ps (trees.script_of b t)

unfoldable pub list_step : Teller → List ℕ → Bool → List Place → AndOr → List Place
list_step f b s ps l = list_told f s ps (trees.and_or_of b l)

unfoldable pub item_step : Teller → List ℕ → Bool → List Place → Item → List Place
item_step f b s ps i = list_step f b (item_shares (out-Item i).background s) ps (out-Item i).list

unfoldable pub pipe_step : Teller → List ℕ → Bool → List Place → Pipe → List Place
pipe_step f b s ps q = pipeline_told f s ps (trees.pipeline_of b q)

abbrev pub link_step : Teller → List ℕ → Bool → List Place → Link × Pipe → List Place
link_step f b s ps l = pipe_step f b s ps l.1

unfoldable pub command_step : Teller → List ℕ → Bool → List Place → Command → List Place
command_step f b s ps c = command_told f s ps (trees.command_of b c)

unfoldable pub kind_step : Teller → List ℕ → Bool → List Place → Kind → List Place
kind_step f b s ps k = kind_told f s ps (trees.kind_of b k)

unfoldable pub element_step : Teller → List ℕ → List Place → Element → List Place
element_step f b ps e = elements_told f ps (element_from b e p.no_elements)

unfoldable pub target_step : Teller → List ℕ → List Place → Target → List Place
target_step f b ps t = redirect_told f ps (trees.target_of b t)

abbrev pub redirect_step : Teller → List ℕ → List Place → Redirect → List Place
redirect_step f b ps r = target_step f b ps r.target

unfoldable pub part_step : Teller → List ℕ → List Place → Part → List Place
part_step f b ps x = part_told f ps (trees.part_of b x)

abbrev pub word_step : Teller → List ℕ → List Place → Word → List Place
word_step f b ps w = fold (part_step f b) ps w.parts

unfoldable pub operator_step : Teller → List ℕ → List Place → ParameterOperator → List Place
operator_step f b ps o = operator_told f ps (trees.operator_of b o)

unfoldable pub expression_step : Teller → List ℕ → List Place → Expr → List Place
expression_step f b ps e = expression_told f ps (trees.expression_of b e)

abbrev pub operand_step : Teller → List ℕ → List Place → Binary × Expr → List Place
operand_step f b ps x = expression_step f b ps x.1

unfoldable pub branch_step : Teller → List ℕ → Bool → List Place → Branch → List Place
branch_step f b s ps x = script_step f b s (script_step f b s ps (out-Branch x).condition) (out-Branch x).body

unfoldable pub clause_step : Teller → List ℕ → Bool → List Place → Clause → List Place
clause_step f b s ps x = script_step f b s (fold (word_step f b) ps (out-Clause x).patterns) (out-Clause x).body

unfoldable pub otherwise_step : Teller → List ℕ → Bool → List Place → Option Script → List Place
otherwise_step f b s ps None = ps
otherwise_step f b s ps (Some t) = script_step f b s ps t

unfoldable pub listed_step : Teller → List ℕ → List Place → Option (List Word) → List Place
listed_step f b ps None = ps
listed_step f b ps (Some ws) = fold (word_step f b) ps ws
