-- What holds of programs that are formed holds of every script that is read.
use Rattle.sh_tree.specs.standard.program.Trees.{script_of}
use Rattle.sh_domain.proofs.ReadLemmas.{read_formed}
use Rattle.sh_sound.specs.Theorem.{ScriptsExpandNothingUnset, ScriptsHaveNoEvents}
use Rattle.sh_sound.proofs.EventLemmas.{have_no_events}
use Rattle.sh_sound.proofs.TheoremLemmas.{rules_suffice}

pub scripts_expand_nothing_unset : ScriptsExpandNothingUnset
scripts_expand_nothing_unset d c b t names reads admitted = rules_suffice d c (script_of b t) names admitted (read_formed b t reads)

pub scripts_have_no_events : ScriptsHaveNoEvents
scripts_have_no_events d c b t names reads admitted = have_no_events d c (script_of b t) names admitted (read_formed b t reads)
