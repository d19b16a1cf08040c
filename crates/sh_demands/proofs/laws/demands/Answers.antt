use Rattle.sh_demands.proofs.EnteredLemmas.{each_is_told}
use Rattle.sh_demands.proofs.WholeLemmas.{demands_are_told}
use Rattle.sh_demands.proofs.laws.demands.Goals as goal

pub returns-clause-order : goal.returns-clause-order
returns-clause-order c = each_is_told

pub returns-clause-whole : goal.returns-clause-whole
returns-clause-whole c = demands_are_told
