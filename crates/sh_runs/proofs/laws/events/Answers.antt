use Rattle.sh_runs.proofs.EventLemmas.{events_exist}
use Rattle.sh_runs.proofs.laws.events.Goals as goal

pub returns : goal.returns
returns c = events_exist
