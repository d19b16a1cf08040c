use Rattle.std.proofs.Common.{ℕ, sym, subst, ◌∙◌}
use Rattle.sh_counts.specs.declared.equations.Equations.{Equations}
use Rattle.sh_counts.specs.Falls.{Leads}
use Rattle.sh_counts.proofs.FallLemmas.{fell_more}
use Rattle.sh_counts.proofs.falling.Falling.go_on_each.Goals as goal

pub loop-place-preserved : goal.loop-place-preserved
loop-place-preserved c =
    let from = c.args.from in
    let here = (λ (es : Equations) (leads : Leads es from.way from.index c.args.bounded.now.head). subst (λ (h : ℕ). Leads es from.way from.index h) (sym c.loop-place.invariant.head) leads) in
    record {
      sound = λ es all leads sound. c.in_ok-go_on.ensures.sound es (c.in-Some.ensures es all) (here es leads) (c.loop-place.invariant.sound es all leads sound);
      fell = fell_more _ _ _ c.loop-place.invariant.fell c.in_ok-go_on.ensures.fell;
      head = c.go_on.ensures.head ∙ c.loop-place.invariant.head;
      led = λ es all leads led. c.in_ok-go_on.ensures.led es (c.in-Some.ensures es all) (here es leads) (c.loop-place.invariant.led es all leads led);
    }
