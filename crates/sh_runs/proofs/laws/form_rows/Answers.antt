use Rattle.sh_runs.proofs.FormLemmas.{forms_as_expected}
use Rattle.sh_runs.proofs.laws.form_rows.Goals as goal

pub returns : goal.returns
returns c = forms_as_expected
