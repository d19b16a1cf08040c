use Rattle.sh_turns.specs.Counts.{AreUnsure}
use Rattle.std.proofs.Common.{◌≡◌, length}
use Rattle.sh_turns.proofs.unsure.unsure_of.Given as goal

abbrev pub invariant-loop-number : goal.invariant-loop-number
invariant-loop-number l = record {
  unsure : AreUnsure l.subject l.certificate l.unsure.items;
  sized : length l.unsure.items ≡ l.number;
}
