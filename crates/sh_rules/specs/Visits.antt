-- What is kept so far, with what a command requires, by the call table: what a visit does.
-- POSIX.1-2024, XCU 2.9.1 (simple commands), 2.9.5 (function definitions).
use Rattle.std.specs.Prelude.{ℕ, Bool, Option, Some, None, is_some}
use Rattle.sh_tree.specs.declared.tree.Command.{Command, out-Command}
use Rattle.sh_tree.specs.Lists.{redirects_from}
use Rattle.sh_tree.specs.standard.program.Syntax as p
use Rattle.sh_tree.specs.standard.program.Syntax.{Text}
use Rattle.sh_tree.specs.standard.program.Trees as trees
use Rattle.sh_runs.specs.Calls.{called, static_at, texts_with}
use Rattle.sh_domain.specs.declared.rule.FlowRule.{FlowRule}
use Rattle.sh_domain.specs.Entries.{Around}
use Rattle.sh_domain.specs.Facts.{Facts}
use Rattle.sh_domain.specs.Table.{is_redirected}
use Rattle.sh_domain.specs.Views.{Before}
use Rattle.sh_rules.specs.Settings.{Setting}
use Rattle.sh_rules.specs.Asking.{Asking}
use Rattle.sh_rules.specs.Walked.{Met}
use Rattle.sh_rules.specs.Bounds.{fault, compound_told, redirects_told}
use Rattle.sh_rules.specs.CommandBounds.{redirected}
use Rattle.sh_rules.specs.TextTells.{simple_by, drops_by}

-- whether the command of a number calls a function
abbrev pub calls_at : Setting → ℕ → Bool
calls_at x n = is_some (called x.functions (static_at (texts_with n x.rows) 0))

-- what a simple command is made of
unfoldable pub simple_in : p.Kind → Option p.Elements
simple_in (p.Simple es) = Some es
simple_in _ = None

module _ {K : Type 0} (a : Asking K) (x : Setting) (n : ℕ) where
  -- what a command claims, after whose redirections this is known
  unfoldable pub claims_as : Around → Facts → p.Kind → Option p.Elements → K → K
  claims_as y k kind None kept = compound_told a x n k kind kept
  claims_as y k kind (Some es) kept = simple_by a x n y es (calls_at x n) (texts_with n x.rows) kept

  abbrev pub claims_by : Around → Facts → p.Kind → K → K
  claims_by y k kind kept = claims_as y k kind (simple_in kind) kept

  -- what it drops of the function that counts its drops
  unfoldable pub drops_as : Option Text → Option p.Elements → K → K
  drops_as None es kept = kept
  drops_as (Some f) None kept = kept
  drops_as (Some f) (Some es) kept = drops_by a x n f es (calls_at x n) (texts_with n x.rows) kept

  abbrev pub counted_by : Option Text → p.Kind → K → K
  counted_by f kind kept = drops_as f (simple_in kind) kept

  -- the whole command, with these redirections
  abbrev pub parts_by : FlowRule → Around → Facts → p.Kind → p.Redirects → K → K
  parts_by by y k kind rs kept =
      counted_by y.drops kind
      (redirects_told a x n (is_redirected rs)
      (claims_by y (redirected x n rs) kind
      (a.bound x (Before n) (fault n by) k kept)))

unfoldable pub command_by : {K : Type 0} → Asking K → Setting → K → Met → K
command_by {K} a x kept m = of_command m.command
  where
    of_command : p.Command → K
    of_command (p.command n offset kind rs) = parts_by a x n m.rule m.around m.known kind rs kept

-- Clauses of private functions

-- a command of a tree
abbrev pub visited : {K : Type 0} → Asking K → Setting → FlowRule → Around → Facts → Command → K → K
visited a x by y k c kept =
    parts_by a x (out-Command c).number by y k (trees.kind_of x.script (out-Command c).kind) (redirects_from x.script (out-Command c).redirects) kept
