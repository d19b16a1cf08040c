use Rattle.sh_domain.proofs.AnswerLemmas.{answers_as_expected}
use Rattle.sh_domain.proofs.laws.examples.Goals as goal

pub returns : goal.returns
returns c = answers_as_expected
