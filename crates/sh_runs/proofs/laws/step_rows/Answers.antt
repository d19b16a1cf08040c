use Rattle.sh_runs.proofs.StepRowLemmas.{steps_as_expected}
use Rattle.sh_runs.proofs.laws.step_rows.Goals as goal

pub returns : goal.returns
returns c = steps_as_expected
