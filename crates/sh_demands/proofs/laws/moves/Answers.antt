use Rattle.sh_demands.proofs.MoveLemmas.{moves_tell}
use Rattle.sh_demands.proofs.laws.moves.Goals as goal

pub returns : goal.returns
returns c = moves_tell
