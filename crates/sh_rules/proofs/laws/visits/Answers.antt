use Rattle.sh_rules.proofs.RuleLemmas.{visits_do_asked}
use Rattle.sh_rules.proofs.laws.visits.Goals as goal

pub returns : goal.returns
returns g c = visits_do_asked g.A.Asked.asked
