use Rattle.sh_domain.proofs.MonotoneLemmas.{monotone}
use Rattle.sh_domain.proofs.laws.monotone.Goals as goal

pub returns : goal.returns
returns c = monotone
