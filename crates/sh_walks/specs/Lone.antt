-- Clauses of private functions: whether no command is in a simple command, nor in its redirections,
-- and what a walk keeps of those in a command.
-- POSIX.1-2024, XCU 2.6.3 (command substitution), 2.9.1 (simple commands).
use Rattle.std.specs.Prelude.{Bool, false, not, ◌&&◌, Option, Some, None, fold}
use Rattle.sh_tree.specs.declared.tree.Command.{Command, out-Command}
use Rattle.sh_tree.specs.standard.program.Syntax as p
use Rattle.sh_domain.specs.Entries.{Around}
use Rattle.sh_domain.specs.Views.{Before}
use Rattle.sh_rules.specs.Settings.{Setting, known_at}
use Rattle.sh_rules.specs.Steps.{kind_kept, redirect_step}
use Rattle.sh_rules.specs.Visits.{simple_in}
use Rattle.sh_rules.specs.Walked.{Met, trail}
use Rattle.sh_drafts.specs.Inner.{elements_substitute, redirects_substitute}

abbrev pub hold_none : Option p.Elements → Bool
hold_none (Some es) = not (elements_substitute es)
hold_none None = false

unfoldable pub is_lone : p.Command → Bool
is_lone (p.command n at kind rs) = hold_none (simple_in kind) && not (redirects_substitute rs)

-- what is kept of those in a command: first in its redirections
abbrev pub inside_kept : {K : Type 0} → Setting → (K → Met → K) → Around → K → Command → K
inside_kept x w y s c =
    kind_kept x w y (out-Command c).number
    (fold (redirect_step x w) (trail (known_at x (Before (out-Command c).number)) s) (out-Command c).redirects)
    (out-Command c).kind
