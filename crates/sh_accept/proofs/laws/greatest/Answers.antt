use Rattle.sh_accept.proofs.GreatestLemmas.{greatest_is_best}
use Rattle.sh_accept.proofs.laws.greatest.Goals as goal

pub returns : goal.returns
returns c = greatest_is_best
