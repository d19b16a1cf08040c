use Rattle.sh_counts.proofs.FallLemmas.{fell_more}
use Rattle.sh_counts.proofs.falling.Falling.lower_circles.Goals as goal

pub loop-index-preserved : goal.loop-index-preserved
loop-index-preserved c = record {
  sound = λ es follow sound. c.in_ok-lower_head.ensures.sound es follow (c.loop-index.invariant.sound es follow sound);
  fell = fell_more _ _ _ c.loop-index.invariant.fell c.in_ok-lower_head.ensures.fell;
}
