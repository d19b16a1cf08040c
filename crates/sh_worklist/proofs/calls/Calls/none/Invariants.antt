use Rattle.std.proofs.Common.{◌≡◌, map, replicate, []}
use Rattle.sh_worklist.proofs.calls.Calls.none.Given as goal

abbrev pub invariant-loop : goal.invariant-loop
invariant-loop l = map (λ v. v.items) l.callers.items ≡ replicate l.counter []
