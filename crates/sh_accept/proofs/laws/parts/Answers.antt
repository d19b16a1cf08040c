use Rattle.sh_accept.proofs.PartLemmas.{parts_always_answer}
use Rattle.sh_accept.proofs.laws.parts.Goals as goal

pub returns : goal.returns
returns c = parts_always_answer
