use Rattle.sh_runs.proofs.FieldRowLemmas.{fields_as_expected}
use Rattle.sh_runs.proofs.laws.field_rows.Goals as goal

pub returns : goal.returns
returns c = fields_as_expected
