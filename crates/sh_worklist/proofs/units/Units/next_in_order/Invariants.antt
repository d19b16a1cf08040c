use Rattle.sh_worklist.proofs.WaitLemmas.{IsAsBefore}
use Rattle.sh_worklist.proofs.units.Units.next_in_order.Given as goal

abbrev pub invariant-loop-course : goal.invariant-loop-course
invariant-loop-course l = IsAsBefore l.initial.self l.self
