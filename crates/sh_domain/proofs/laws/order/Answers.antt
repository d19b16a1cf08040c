use Rattle.sh_domain.proofs.OrderLemmas.{ordered}
use Rattle.sh_domain.proofs.laws.order.Goals as goal

pub returns : goal.returns
returns c = ordered
