use Rattle.std.specs.List.{All}
use Rattle.sh_counts.specs.declared.equations.Equations.{Equations}
use Rattle.sh_counts.specs.Falls.{Fell, Follows, IsSound}
use Rattle.sh_counts.proofs.falling.Falling.settle.Given as goal

abbrev pub invariant-loop : goal.invariant-loop
invariant-loop l = record {
  sound : (es : Equations) → All (Follows es) l.users.equations.now → IsSound es l.initial.self.counts.items → IsSound es l.self.counts.items;
  fell : Fell l.initial.self.counts.items l.self.counts.items;
}
