use Rattle.std.proofs.Common.{◌∙◌}
use Rattle.sh_counts.proofs.FallLemmas.{fell_more}
use Rattle.sh_counts.proofs.falling.Falling.close_all.Goals as goal

pub loop-preserved : goal.loop-preserved
loop-preserved c = record {
  sound = λ es follow led sound.
      let now = c.take.ensures.stay es (c.loop.invariant.led es follow led) in
      c.in_ok-go_on_from.ensures.sound es follow (c.in-Some.ensures.led es now) (c.loop.invariant.sound es follow led sound);
  fell = fell_more _ _ _ c.loop.invariant.fell c.in_ok-go_on_from.ensures.fell;
  head = c.go_on_from.ensures.head ∙ c.take.ensures.head ∙ c.loop.invariant.head;
  led = λ es follow led.
      let now = c.take.ensures.stay es (c.loop.invariant.led es follow led) in
      c.in_ok-go_on_from.ensures.led es follow (c.in-Some.ensures.led es now) now;
}

pub returns-in_default-clause-led : goal.returns-in_default-clause-led
returns-in_default-clause-led c es follow led = c.take.ensures.stay es (c.loop.invariant.led es follow led)
