use Rattle.sh_demands.proofs.ReportLemmas.{lost_more}
use Rattle.sh_demands.proofs.reports.Reports.report_lost.Goals as goal

pub returns : goal.returns
returns c = λ x ps h. lost_more _ ps x
