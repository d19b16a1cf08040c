use Rattle.std.proofs.Common.{arith}
use Rattle.sh_facts.proofs.finding.steps_to.Goals as goal

pub loop-steps-smaller : goal.loop-steps-smaller
loop-steps-smaller c = omega (arith, c.loop-steps.invariant, c.loop-steps-test.true)
