use Rattle.sh_demands.proofs.ReachLemmas.{names_reach}
use Rattle.sh_demands.proofs.laws.names.Goals as goal

pub returns : goal.returns
returns c = names_reach
