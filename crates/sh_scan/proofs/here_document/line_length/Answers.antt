use Rattle.std.proofs.Common.{arith}
use Rattle.sh_tree.specs.standard.language.HereDocuments.{line_length}
use Rattle.sh_scan.specs.Steps.{line_step}
use Rattle.sh_scan.proofs.StepLemmas.{one_more, no_more, line_unrolls}
use Rattle.sh_scan.proofs.here_document.line_length.Goals as goal

pub returns-then-step-eq0-clause-value : goal.returns-then-step-eq0-clause-value
returns-then-step-eq0-clause-value c = no_more (line_length c.args.joins) (line_step c.args.joins) _ _ _ c.loop-joins.invariant c.line_step-step.ensures.value (omega arith) (line_unrolls c.args.joins _)

pub loop-joins-preserved : goal.loop-joins-preserved
loop-joins-preserved c =
    one_more (line_length c.args.joins) (line_step c.args.joins) _ _ _ c.loop-joins.invariant c.line_step-step.ensures.value c.line_step-step.ensures.within (omega arith) (line_unrolls c.args.joins _)
