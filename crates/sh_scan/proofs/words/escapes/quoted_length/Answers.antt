use Rattle.std.proofs.Common.{arith}
use Rattle.sh_scan.specs.Steps.{escape_step, quoted_length}
use Rattle.sh_scan.proofs.StepLemmas.{one_more, no_more}
use Rattle.sh_scan.proofs.QuotationLemmas.{quoted_unrolls}
use Rattle.sh_scan.proofs.words.escapes.quoted_length.Goals as goal

pub returns-then-step-eq0-clause-value : goal.returns-then-step-eq0-clause-value
returns-then-step-eq0-clause-value c = no_more quoted_length escape_step _ _ _ c.loop-length.invariant c.escape_step-step.ensures.value (omega arith) (quoted_unrolls _)

pub loop-length-preserved : goal.loop-length-preserved
loop-length-preserved c =
    one_more quoted_length escape_step _ _ _ c.loop-length.invariant c.escape_step-step.ensures.value c.escape_step-step.ensures.within (omega arith) (quoted_unrolls _)
