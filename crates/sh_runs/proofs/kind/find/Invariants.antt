use Rattle.std.proofs.Common.{◌≡◌, length}
use Rattle.sh_runs.specs.standard.Kinds.{look_up, rows_of}
use Rattle.sh_runs.proofs.kind.find.Given as goal

-- no row so far has the name
abbrev pub invariant-loop-rest : goal.invariant-loop-rest
invariant-loop-rest l = look_up (rows_of l.rest) l.name ≡ look_up (rows_of l.rows) l.name

abbrev pub decreases-loop-rest : goal.decreases-loop-rest
decreases-loop-rest l = length l.rest
