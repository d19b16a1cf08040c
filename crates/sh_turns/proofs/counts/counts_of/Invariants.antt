use Rattle.sh_turns.specs.Counts.{AreClaimed}
use Rattle.std.proofs.Common.{◌≡◌, length}
use Rattle.sh_turns.proofs.counts.counts_of.Given as goal

abbrev pub invariant-loop-count : goal.invariant-loop-count
invariant-loop-count l = record {
  claimed : AreClaimed l.certificate l.counts.items;
  sized : length l.counts.items ≡ l.count;
}
