use Rattle.sh_facts.proofs.CertificateLemmas.{InFunctions}
use Rattle.sh_facts.proofs.reading.read_functions.Given as goal

-- so many lines are read
abbrev pub invariant-loop-done : goal.invariant-loop-done
invariant-loop-done l = InFunctions l.names l.fn.first l.fn.functions l.text l.done l.left l.initial.rows l.rows l.entries.items
