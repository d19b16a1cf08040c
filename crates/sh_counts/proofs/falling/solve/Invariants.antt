use Rattle.std.proofs.Common.{sum}
use Rattle.sh_counts.specs.Falls.{Fell, IsSound}
use Rattle.sh_counts.proofs.falling.solve.Given as goal

abbrev pub invariant-loop-falling : goal.invariant-loop-falling
invariant-loop-falling l = record {
  sound : IsSound l.equations l.falling.counts.items;
  fell : Fell l.equations.most.items l.falling.counts.items;
}

abbrev pub decreases-loop-falling : goal.decreases-loop-falling
decreases-loop-falling l = sum l.falling.counts.items
