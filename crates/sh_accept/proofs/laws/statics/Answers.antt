use Rattle.sh_accept.proofs.StaticLemmas.{statics_are_texts}
use Rattle.sh_accept.proofs.laws.statics.Goals as goal

pub returns : goal.returns
returns c = statics_are_texts
