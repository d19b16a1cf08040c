use Rattle.sh_runs.proofs.RowExampleLemmas.{rows_as_expected}
use Rattle.sh_runs.proofs.RowLemmas.{rows_are_there}
use Rattle.sh_runs.proofs.laws.rows.Goals as goal

pub returns-clause-there : goal.returns-clause-there
returns-clause-there c = rows_are_there

pub returns-clause-known : goal.returns-clause-known
returns-clause-known c = rows_as_expected
