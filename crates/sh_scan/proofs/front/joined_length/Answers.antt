use Rattle.std.proofs.Common.{arith}
use Rattle.sh_tree.specs.standard.language.Bytes.{joined_length}
use Rattle.sh_scan.specs.Steps.{joined_step}
use Rattle.sh_scan.proofs.StepLemmas.{one_more, no_more, joined_unrolls}
use Rattle.sh_scan.proofs.front.joined_length.Goals as goal

pub returns-then-step-eq0-clause-value : goal.returns-then-step-eq0-clause-value
returns-then-step-eq0-clause-value c = no_more joined_length joined_step _ _ _ c.loop-length.invariant c.joined_step-step.ensures.value (omega arith) (joined_unrolls _)

pub loop-length-preserved : goal.loop-length-preserved
loop-length-preserved c =
    one_more joined_length joined_step _ _ _ c.loop-length.invariant c.joined_step-step.ensures.value c.joined_step-step.ensures.within (omega arith) (joined_unrolls _)
