use Rattle.sh_runs.proofs.FieldLemmas.{stand_whole}
use Rattle.sh_runs.proofs.SteadyLemmas.{fields_stand_steady}
use Rattle.sh_runs.proofs.laws.fields.Goals as goal

pub returns-clause-whole : goal.returns-clause-whole
returns-clause-whole c = stand_whole

pub returns-clause-steady : goal.returns-clause-steady
returns-clause-steady c = fields_stand_steady
