use Rattle.sh_domain.proofs.FilledLemmas.{filled_keeps}
use Rattle.sh_domain.proofs.laws.filled.Goals as goal

pub returns : goal.returns
returns c = filled_keeps
