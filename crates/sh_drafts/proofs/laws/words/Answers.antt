use Rattle.sh_drafts.proofs.InnerLemmas.{enters_nothing}
use Rattle.sh_drafts.proofs.laws.words.Goals as goal

pub returns : goal.returns
returns c = enters_nothing
