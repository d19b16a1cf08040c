use Rattle.sh_runs.proofs.AdmittedLemmas.{admitted_as_listed}
use Rattle.sh_runs.proofs.laws.admitted.Goals as goal

pub returns : goal.returns
returns c = admitted_as_listed
