use Rattle.std.proofs.Common.{arith}
use Rattle.sh_tree.specs.standard.language.Commands.{gap_length}
use Rattle.sh_scan.specs.Steps.{gap_step}
use Rattle.sh_scan.proofs.StepLemmas.{one_more, no_more, gap_unrolls}
use Rattle.sh_scan.proofs.blanks.gap_length.Goals as goal

pub returns-then-step-eq0-clause-value : goal.returns-then-step-eq0-clause-value
returns-then-step-eq0-clause-value c = no_more gap_length gap_step _ _ _ c.loop-length.invariant c.gap_step-step.ensures.value (omega arith) (gap_unrolls _)

pub loop-length-preserved : goal.loop-length-preserved
loop-length-preserved c =
    one_more gap_length gap_step _ _ _ c.loop-length.invariant c.gap_step-step.ensures.value c.gap_step-step.ensures.within (omega arith) (gap_unrolls _)
