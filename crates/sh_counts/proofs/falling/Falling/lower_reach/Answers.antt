use Rattle.sh_counts.proofs.FallLemmas.{reach_bound}
use Rattle.sh_counts.proofs.falling.Falling.lower_reach.Goals as goal

pub returns-clause-sound : goal.returns-clause-sound
returns-clause-sound c es leads sound =
    c.in_ok-lower_to.ensures.sound es
    (reach_bound es c.args.reach.way c.args.reach.index c.args.head c.args.self.now.counts.items c.count-count.result c.made.result sound leads c.count-count.ensures c.made.ensures)
    sound
