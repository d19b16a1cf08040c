use Rattle.std.proofs.Common.{ℕ, sym, subst}
use Rattle.sh_counts.specs.Falls.{Leads}
use Rattle.sh_counts.proofs.FallLemmas.{fell_more}
use Rattle.sh_counts.proofs.falling.Falling.lower_bounded.Goals as goal

pub loop-place-preserved : goal.loop-place-preserved
loop-place-preserved c = record {
  sound = λ es led sound. c.in_ok-lower_reach.ensures.sound es
      (subst (λ (h : ℕ). Leads es c.in-Some.reach.way c.in-Some.reach.index h) (sym c.head.ensures) (c.in-Some.ensures es led))
      (c.loop-place.invariant.sound es led sound);
  fell = fell_more _ _ _ c.loop-place.invariant.fell c.in_ok-lower_reach.ensures.fell;
}
