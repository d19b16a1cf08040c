use Rattle.std.proofs.Common.{◌≤◌, length}
use Rattle.sh_rules.proofs.behind.settled_from.Given as goal

-- the place is within the items
abbrev pub invariant-loop-from : goal.invariant-loop-from
invariant-loop-from l = l.from ≤ length l.items

abbrev pub decreases-loop-from : goal.decreases-loop-from
decreases-loop-from l = l.from
