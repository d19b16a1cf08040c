use Rattle.sh_counts.proofs.FallLemmas.{went_more}
use Rattle.sh_counts.proofs.falling.Falling.lower_each.Goals as goal

pub loop-equation-preserved : goal.loop-equation-preserved
loop-equation-preserved c = record {
  sound = λ es follow sound. c.in_ok-has_fallen.ensures.sound es (follow c.loop-equation.equation-index _ c.loop-equation-test.true) (c.loop-equation.invariant.sound es follow sound);
  went =
      went_more c.args.self.now.counts.items c.loop-equation.self.counts.items c.lower.new.self.counts.items c.loop-equation.has_fallen c.in_ok-has_fallen.field-0 c.args.equations.now c.loop-equation.equation-index _
      c.loop-equation.invariant.went c.loop-equation-test.true c.in_ok-has_fallen.ensures.fell c.in_ok-has_fallen.ensures.less c.in_ok-has_fallen.ensures.same c.in_ok-has_fallen.ensures.holds;
}
