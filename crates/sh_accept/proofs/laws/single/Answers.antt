use Rattle.sh_accept.proofs.SingleLemmas.{has_one_greatest}
use Rattle.sh_accept.proofs.laws.single.Goals as goal

pub returns : goal.returns
returns c = has_one_greatest
