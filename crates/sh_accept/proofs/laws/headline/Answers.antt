use Rattle.sh_accept.proofs.HeadlineLemmas.{headline}
use Rattle.sh_accept.proofs.laws.headline.Goals as goal

pub returns : goal.returns
returns c = headline
