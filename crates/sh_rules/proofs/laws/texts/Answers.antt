use Rattle.sh_rules.proofs.WordLemmas.{texts_tell}
use Rattle.sh_rules.proofs.laws.texts.Goals as goal

pub returns : goal.returns
returns g c = texts_tell g.A.Asked.asked
