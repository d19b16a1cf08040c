use Rattle.std.proofs.Common.{◌≡◌, length}
use Rattle.sh_table.specs.Admits.{told_from}
use Rattle.sh_table.proofs.profile.first_refusal.Given as goal

-- what is reported of the commands that are left is reported of all
abbrev pub invariant-loop-left : goal.invariant-loop-left
invariant-loop-left l = told_from l.script l.left l.later ≡ told_from l.script l.sites l.rows

abbrev pub decreases-loop-left : goal.decreases-loop-left
decreases-loop-left l = length l.left
