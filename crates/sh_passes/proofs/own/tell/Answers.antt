use Rattle.std.proofs.Common.{true, false}
use Rattle.sh_sweeps.specs.Asked.{asking_by}
use Rattle.sh_sweeps.proofs.KnownLemmas.{told_by}
use Rattle.sh_passes.proofs.own.tell.Goals as goal

pub returns-then-subject : goal.returns-then-subject
unfolding asking_by
returns-then-subject g c = told_by c.args.subject.now c.args.certificate.now _ c.claims_of-claims.ensures g.A.Asked.asked c.args.by c.args.around.now c.args.known.now c.args.command.now _ _ true c.if-subject.true c.tell_unstated.ensures

pub returns-else-subject : goal.returns-else-subject
unfolding asking_by
returns-else-subject g c = told_by c.args.subject.now c.args.certificate.now _ c.claims_of-claims.ensures g.A.Asked.asked c.args.by c.args.around.now c.args.known.now c.args.command.now _ _ false c.if-subject.false c.tell_command.ensures
