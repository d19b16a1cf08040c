use Rattle.sh_sound.proofs.ScriptLemmas.{scripts_expand_nothing_unset}
use Rattle.sh_sound.proofs.TheoremLemmas.{rules_suffice}
use Rattle.sh_sound.proofs.laws.no_unset.Goals as goal

pub returns-clause-programs : goal.returns-clause-programs
returns-clause-programs c = rules_suffice

pub returns-clause-scripts : goal.returns-clause-scripts
returns-clause-scripts c = scripts_expand_nothing_unset
