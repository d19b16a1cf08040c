use Rattle.sh_demands.specs.Reported.{AreKept}
use Rattle.sh_demands.proofs.reports.Reports.new.Goals as goal

pub returns : goal.returns
unfolding AreKept
returns c = c.new.ensures
