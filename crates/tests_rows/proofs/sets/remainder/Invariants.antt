use Rattle.std.proofs.Common.{◌≡◌}
use Rattle.tests_rows.proofs.sets.remainder.Given as goal

abbrev pub invariant-loop-number : goal.invariant-loop-number
invariant-loop-number g l = g.T.Row.limit l.row ≡ l.count
