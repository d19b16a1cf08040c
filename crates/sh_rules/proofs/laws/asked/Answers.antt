use Rattle.sh_rules.proofs.AskedLemmas.{asked_of_facts}
use Rattle.sh_rules.proofs.laws.asked.Goals as goal

pub returns : goal.returns
returns g c = asked_of_facts g.A.Asked.asked
