use Rattle.sh_accept.proofs.PassedLemmas.{shown_is_greatest}
use Rattle.sh_accept.proofs.laws.shown.Goals as goal

pub returns : goal.returns
returns c = shown_is_greatest
