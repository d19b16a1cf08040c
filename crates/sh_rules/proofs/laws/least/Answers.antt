use Rattle.sh_rules.proofs.ScriptLemmas.{least_of_scripts}
use Rattle.sh_rules.proofs.laws.least.Goals as goal

pub returns : goal.returns
returns c = least_of_scripts
