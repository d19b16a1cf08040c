use Rattle.std.proofs.Common.{vec_len}
use Rattle.sh_worklist.proofs.WaitLemmas.{IsAsBefore}
use Rattle.sh_worklist.proofs.units.Units.next_found.Given as goal

abbrev pub invariant-loop-step : goal.invariant-loop-step
invariant-loop-step l = IsAsBefore l.initial.self l.self

abbrev pub decreases-loop-step : goal.decreases-loop-step
decreases-loop-step l = vec_len l.self.steps
