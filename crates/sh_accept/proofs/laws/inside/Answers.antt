use Rattle.sh_accept.proofs.InsideLemmas.{refusals_stand_inside}
use Rattle.sh_accept.proofs.laws.inside.Goals as goal

pub returns : goal.returns
returns c = refusals_stand_inside
