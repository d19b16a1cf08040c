use Rattle.std.proofs.lemmas.Result.{on_ok_weaker}
use Rattle.sh_answers.proofs.TextLemmas.{report_done}
use Rattle.sh_answers.proofs.texts.push_report.Goals as goal

pub returns : goal.returns
returns c = on_ok_weaker c.push_last.result (report_done _ _ _ c.args.findings.now c.loop-finding.finding-index c.loop-finding-test.false c.loop-finding.invariant) c.push_last.ensures
