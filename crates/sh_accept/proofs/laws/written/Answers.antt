use Rattle.sh_accept.proofs.WrittenLemmas.{tells_one_answer}
use Rattle.sh_accept.proofs.laws.written.Goals as goal

pub returns : goal.returns
returns c = tells_one_answer
