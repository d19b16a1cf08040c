use Rattle.sh_counts.proofs.FallLemmas.{fell_more}
use Rattle.sh_counts.proofs.falling.Falling.lower_users.Goals as goal

pub loop-place-preserved : goal.loop-place-preserved
loop-place-preserved c = record {
  sound = λ es follow sound. c.in_ok-lower.ensures.sound es (c.in-Some.ensures es follow) (c.loop-place.invariant.sound es follow sound);
  fell = fell_more _ _ _ c.loop-place.invariant.fell c.in_ok-lower.ensures.fell;
}
