use Rattle.sh_sweeps.proofs.BeforeLemmas.{before_within}
use Rattle.sh_sweeps.proofs.before.lower_before.Goals as goal

pub lower_known-requires-clause-stands : goal.lower_known-requires-clause-stands
lower_known-requires-clause-stands c =
    let p = c.requires.placed in
    before_within c.args.subject.now c.requires.ready.admitted p.0 p.1 _ c.args.command.now p.2
