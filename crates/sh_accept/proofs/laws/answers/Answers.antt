use Rattle.sh_accept.proofs.AnswerLemmas.{has_one_answer}
use Rattle.sh_accept.proofs.laws.answers.Goals as goal

pub returns : goal.returns
returns c = has_one_answer
