use Rattle.std.proofs.Common.{map, take}
use Rattle.sh_worklist.specs.Calls.{lists_in}
use Rattle.sh_worklist.proofs.CallLemmas.{IsCalled}
use Rattle.sh_worklist.proofs.calls.Calls.of.Given as goal

abbrev pub invariant-loop-row : goal.invariant-loop-row
invariant-loop-row l = IsCalled l.table (lists_in l.calls) (map (λ r. r.number) (take l.row-index l.row-items))
