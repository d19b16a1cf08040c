use Rattle.std.proofs.Common.{arith}
use Rattle.sh_tree.specs.standard.language.Arithmetic.{space_length}
use Rattle.sh_scan.specs.Spaces.{space_step}
use Rattle.sh_scan.proofs.StepLemmas.{one_more, no_more}
use Rattle.sh_scan.proofs.SpaceLemmas.{space_unrolls}
use Rattle.sh_scan.proofs.arithmetic.spaces.space_length.Goals as goal

pub returns-then-step-eq0-clause-value : goal.returns-then-step-eq0-clause-value
returns-then-step-eq0-clause-value c = no_more space_length space_step _ _ _ c.loop-length.invariant c.space_step-step.ensures.value (omega arith) (space_unrolls _)

pub loop-length-preserved : goal.loop-length-preserved
loop-length-preserved c =
    one_more space_length space_step _ _ _ c.loop-length.invariant c.space_step-step.ensures.value c.space_step-step.ensures.within (omega arith) (space_unrolls _)
