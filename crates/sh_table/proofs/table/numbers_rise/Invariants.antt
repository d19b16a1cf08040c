use Rattle.std.proofs.Common.{◌≡◌, length, map}
use Rattle.sh_runs.specs.Numbering.{numbers_rise}
use Rattle.sh_table.proofs.table.numbers_rise.Given as goal

-- those before rise
abbrev pub invariant-loop-left : goal.invariant-loop-left
invariant-loop-left l = numbers_rise (map (λ r. r.number) l.left) ≡ numbers_rise (map (λ r. r.number) l.rows)

abbrev pub decreases-loop-left : goal.decreases-loop-left
decreases-loop-left l = length l.left
