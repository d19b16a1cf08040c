use Rattle.sh_sweeps.proofs.ThereLemmas.{rules_ask_there}
use Rattle.sh_sweeps.proofs.laws.places.Goals as goal

pub returns : goal.returns
returns c = rules_ask_there
