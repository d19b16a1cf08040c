use Rattle.std.proofs.Common.{◌-◌, ◌≤◌}
use Rattle.sh_facts.proofs.finding.steps_to.Given as goal

abbrev pub invariant-loop-steps : goal.invariant-loop-steps
invariant-loop-steps l = 1 ≤ l.steps

abbrev pub decreases-loop-steps : goal.decreases-loop-steps
decreases-loop-steps l = 4096 - l.steps
