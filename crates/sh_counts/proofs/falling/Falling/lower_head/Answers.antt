use Rattle.sh_counts.proofs.falling.Falling.lower_head.Goals as goal

pub returns-clause-sound : goal.returns-clause-sound
returns-clause-sound c es follow sound =
    let begun = c.in_ok-begin.ensures.led es in
    c.in_ok-lower_bounded.ensures.sound es (c.in_ok-close_all.ensures.led es follow begun) (c.in_ok-close_all.ensures.sound es follow begun sound)
