use Rattle.std.proofs.Common.{◌≡◌}
use Rattle.tests_domain.proofs.rows.row_of.Given as goal

abbrev pub invariant-loop-number : goal.invariant-loop-number
invariant-loop-number l = l.row.count ≡ l.count
