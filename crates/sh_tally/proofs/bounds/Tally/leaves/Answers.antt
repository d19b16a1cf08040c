use Rattle.sh_tally.proofs.WalkLemmas.{leaves_tallied}
use Rattle.sh_tally.proofs.bounds.Tally.leaves.Goals as goal

pub returns : goal.returns
returns c = leaves_tallied c.args.self.now c.args.number c.args.after c.of-zero.result c.of-nonzero.result c.args.equations.now c.bound.new.equations c.bound-2.new.equations c.of-zero.ensures c.of-nonzero.ensures c.in_ok-bound.ensures c.in_ok-bound-2.ensures
