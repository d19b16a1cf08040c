use Rattle.sh_accept.proofs.OnceLemmas.{places_stand_once}
use Rattle.sh_accept.proofs.laws.once.Goals as goal

pub returns : goal.returns
returns c = places_stand_once
