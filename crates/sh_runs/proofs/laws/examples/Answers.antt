use Rattle.sh_runs.proofs.ExampleLemmas.{runs_as_expected}
use Rattle.sh_runs.proofs.laws.examples.Goals as goal

pub returns : goal.returns
returns c = runs_as_expected
