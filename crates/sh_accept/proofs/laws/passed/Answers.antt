use Rattle.sh_accept.proofs.PassedLemmas.{linted_is_checked}
use Rattle.sh_accept.proofs.laws.passed.Goals as goal

pub returns : goal.returns
returns c = linted_is_checked
