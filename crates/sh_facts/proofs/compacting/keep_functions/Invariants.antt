use Rattle.sh_facts.proofs.CompactingLemmas.{KeepsFunctions}
use Rattle.sh_facts.proofs.compacting.keep_functions.Given as goal

abbrev pub invariant-loop-entry : goal.invariant-loop-entry
invariant-loop-entry l = KeepsFunctions l.certificate.rows l.certificate.functions.items l.initial.rows l.rows l.entry-index l.entries.items
