use Rattle.sh_rules.proofs.ToldLemmas.{least_of_constraints}
use Rattle.sh_rules.proofs.laws.least_by.Goals as goal

pub returns : goal.returns
returns c = least_of_constraints
