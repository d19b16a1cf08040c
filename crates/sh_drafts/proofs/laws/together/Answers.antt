use Rattle.sh_drafts.proofs.TogetherLemmas.{gathered_together}
use Rattle.sh_drafts.proofs.laws.together.Goals as goal

pub returns : goal.returns
returns c = gathered_together
