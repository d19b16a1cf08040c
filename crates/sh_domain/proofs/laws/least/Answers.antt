use Rattle.sh_domain.proofs.LeastLemmas.{least_is_told}
use Rattle.sh_domain.proofs.laws.least.Goals as goal

pub returns : goal.returns
returns c = least_is_told
