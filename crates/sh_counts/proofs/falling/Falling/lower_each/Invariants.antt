use Rattle.std.proofs.Common.{take}
use Rattle.std.specs.List.{All}
use Rattle.sh_counts.specs.declared.equations.Equations.{Equations}
use Rattle.sh_counts.specs.Falls.{Follows, IsSound}
use Rattle.sh_counts.proofs.FallLemmas.{Went}
use Rattle.sh_counts.proofs.falling.Falling.lower_each.Given as goal

abbrev pub invariant-loop-equation : goal.invariant-loop-equation
invariant-loop-equation l = record {
  sound : (es : Equations) → All (Follows es) l.equations → IsSound es l.initial.self.counts.items → IsSound es l.self.counts.items;
  went : Went l.initial.self.counts.items l.self.counts.items l.has_fallen (take l.equation-index l.equations);
}
