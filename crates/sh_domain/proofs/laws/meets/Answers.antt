use Rattle.sh_domain.proofs.MeetLemmas.{seen_is_meet}
use Rattle.sh_domain.proofs.laws.meets.Goals as goal

pub returns : goal.returns
returns c = seen_is_meet
