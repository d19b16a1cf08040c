use Rattle.std.proofs.Common.{ℕ, sym, subst}
use Rattle.std.specs.Global.{Vec}
use Rattle.sh_counts.specs.Falls.{IsSound}
use Rattle.sh_counts.proofs.falling.Falling.step.Goals as goal

pub returns-in_ok-lower_users-in-Some-clause-sound : goal.returns-in_ok-lower_users-in-Some-clause-sound
returns-in_ok-lower_users-in-Some-clause-sound c es follow sound =
    c.in_ok-lower_users-in-Some.ensures.sound es follow
    (subst (λ (w : Vec ℕ). IsSound es w.items) (sym c.take.ensures) (c.in_ok-look_round.ensures.sound es follow sound))
