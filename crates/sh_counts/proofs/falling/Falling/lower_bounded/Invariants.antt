use Rattle.sh_counts.specs.declared.equations.Equations.{Equations}
use Rattle.sh_counts.specs.Falls.{Fell, IsSound}
use Rattle.sh_counts.specs.Heads.{AreLed}
use Rattle.sh_counts.proofs.falling.Falling.lower_bounded.Given as goal

abbrev pub invariant-loop-place : goal.invariant-loop-place
invariant-loop-place l = record {
  sound : (es : Equations) → AreLed es l.bounded → IsSound es l.initial.self.counts.items → IsSound es l.self.counts.items;
  fell : Fell l.initial.self.counts.items l.self.counts.items;
}
