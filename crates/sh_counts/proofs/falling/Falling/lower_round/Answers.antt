use Rattle.std.proofs.Common.{arith}
use Rattle.sh_counts.proofs.falling.Falling.lower_round.Goals as goal

pub returns-clause-sound : goal.returns-clause-sound
returns-clause-sound c es leads sound =
    c.in_ok-lower_to.ensures.sound es
    (λ v s.
    let above = sound.above v s c.args.index in
    let same = c.count-count.ensures in
    c.greatest.ensures (v c.args.index) (omega arith) (leads v s))
    sound
