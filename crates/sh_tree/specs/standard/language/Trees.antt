-- The tree's words as the reading writes them.
-- POSIX.1-2024, XCU 2.10 (shell grammar).
use Rattle.std.specs.Prelude.{ℕ, Bool, false, List, [], ◌∷◌, Option}
use Rattle.sh_tree.specs.declared.tree.Span.{Span}
use Rattle.sh_tree.specs.declared.tree.Script.{Script, roll-Script}
use Rattle.sh_tree.specs.declared.tree.Item.{Item, roll-Item}
use Rattle.sh_tree.specs.declared.tree.Link.{Link}
use Rattle.sh_tree.specs.declared.tree.AndOr.{AndOr, roll-AndOr}
use Rattle.sh_tree.specs.declared.tree.Pipe.{Pipe, roll-Pipe}
use Rattle.sh_tree.specs.declared.tree.Command.{Command, roll-Command}
use Rattle.sh_tree.specs.declared.tree.Kind.{Kind}
use Rattle.sh_tree.specs.declared.tree.Branch.{Branch, roll-Branch}
use Rattle.sh_tree.specs.declared.tree.Clause.{Clause, roll-Clause}
use Rattle.sh_tree.specs.declared.tree.ClauseEnd.{ClauseEnd}
use Rattle.sh_tree.specs.declared.tree.Redirect.{Redirect}
use Rattle.sh_tree.specs.declared.tree.Target.{Target}
use Rattle.sh_tree.specs.declared.tree.HereDoc.{HereDoc}
use Rattle.sh_tree.specs.declared.tree.Word.{Word}
use Rattle.sh_tree.specs.declared.tree.Part.{Part}
use Rattle.sh_tree.specs.declared.tree.Part.TheVariants as part
use Rattle.sh_tree.specs.declared.tree.Subject.{Subject}
use Rattle.sh_tree.specs.declared.tree.ParameterOperator.{ParameterOperator}
use Rattle.sh_tree.specs.declared.tree.Binary.{Binary}
use Rattle.sh_tree.specs.declared.tree.Expr.{Expr}
use Rattle.sh_tree.specs.declared.tree.Expr.TheVariants as expr

abbrev pub span : ℕ → ℕ → Span
span i j = record { start = i; end = j }

abbrev pub word : ℕ → ℕ → List Part → Word
word i j parts = record { span = span i j; parts = parts }

-- the expansion from i to j
abbrev pub param : ℕ → ℕ → Subject → ParameterOperator → Part
param i j subject operator = part.Param (record { span = span i j; subject = subject; operator = operator })

-- an operand, and the operators of one level with theirs
abbrev pub chain_of : Expr → List (Binary × Expr) → Expr
chain_of e [] = e
chain_of e (x ∷ xs) = expr.Chain e (x ∷ xs)

abbrev pub redirect : ℕ → Option Span → Target → Redirect
redirect at number target = record { at = at; number = number; target = target }

abbrev pub here_doc : Bool → Word → Word → Span → HereDoc
here_doc strip delimiter body end = record { strip = strip; delimiter = delimiter; body = body; end = end }

abbrev pub command : ℕ → ℕ → Kind → List Redirect → Command
command number at kind redirects = roll-Command (record { number = number; at = at; kind = kind; redirects = redirects })

abbrev pub pipe : Bool → List Command → Pipe
pipe negated parts = roll-Pipe (record { negated = negated; parts = parts })

abbrev pub and_or : Pipe → List (Link × Pipe) → AndOr
and_or first rest = roll-AndOr (record { first = first; rest = rest })

abbrev pub item : AndOr → Bool → Item
item list background = roll-Item (record { list = list; background = background })

-- the item that is the command alone, in the foreground
abbrev pub item_of : Command → Item
item_of c = item (and_or (pipe false (c ∷ [])) []) false

abbrev pub script : List Item → Script
script items = roll-Script (record { items = items })

abbrev pub branch : Script → Script → Branch
branch condition body = roll-Branch (record { condition = condition; body = body })

abbrev pub clause : List Word → Script → ClauseEnd → Clause
clause patterns body end = roll-Clause (record { patterns = patterns; body = body; end = end })
