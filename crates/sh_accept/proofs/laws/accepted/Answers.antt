use Rattle.sh_accept.proofs.AcceptedExampleLemmas.{known_is_accepted}
use Rattle.sh_accept.proofs.laws.accepted.Goals as goal

pub returns : goal.returns
returns c = known_is_accepted
