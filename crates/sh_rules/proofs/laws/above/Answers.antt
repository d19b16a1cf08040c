use Rattle.sh_rules.proofs.AboveLemmas.{stays_above}
use Rattle.sh_rules.proofs.laws.above.Goals as goal

pub returns : goal.returns
returns g c = stays_above g.A.Asked.asked
