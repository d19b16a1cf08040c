use Rattle.sh_accept.proofs.ExampleLemmas.{answers_as_expected}
use Rattle.sh_accept.proofs.laws.examples.Goals as goal

pub returns : goal.returns
returns c = answers_as_expected
