use Rattle.std.proofs.Common.{◌≡◌}
use Rattle.std.specs.List.{All}
use Rattle.sh_counts.specs.declared.equations.Equations.{Equations}
use Rattle.sh_counts.specs.Falls.{Fell, Follows, IsSound}
use Rattle.sh_counts.specs.Heads.{AreLed}
use Rattle.sh_counts.proofs.falling.Falling.close_all.Given as goal

abbrev pub invariant-loop : goal.invariant-loop
invariant-loop l = record {
  sound : (es : Equations) → All (Follows es) l.users.equations.now → AreLed es l.initial.bounded → IsSound es l.initial.self.counts.items → IsSound es l.self.counts.items;
  fell : Fell l.initial.self.counts.items l.self.counts.items;
  head : l.bounded.head ≡ l.initial.bounded.head;
  led : (es : Equations) → All (Follows es) l.users.equations.now → AreLed es l.initial.bounded → AreLed es l.bounded;
}
