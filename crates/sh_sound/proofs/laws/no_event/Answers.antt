use Rattle.sh_sound.proofs.EventLemmas.{have_no_events}
use Rattle.sh_sound.proofs.ScriptLemmas.{scripts_have_no_events}
use Rattle.sh_sound.proofs.laws.no_event.Goals as goal

pub returns-clause-programs : goal.returns-clause-programs
returns-clause-programs c = have_no_events

pub returns-clause-scripts : goal.returns-clause-scripts
returns-clause-scripts c = scripts_have_no_events
