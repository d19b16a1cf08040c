use Rattle.sh_quote.proofs.OnceLemmas.{unquoted_stand_once, read_unquoted_once}
use Rattle.sh_quote.proofs.laws.once.Goals as goal

pub returns-clause-law : goal.returns-clause-law
returns-clause-law c = unquoted_stand_once

pub returns-clause-scripts : goal.returns-clause-scripts
returns-clause-scripts c = read_unquoted_once
