use Rattle.std.proofs.Common.{true, false}
use Rattle.sh_sweeps.specs.Asked.{asking_by, gathered_of}
use Rattle.sh_sweeps.proofs.AskingLemmas.{walk_asks}
use Rattle.sh_drafts.proofs.ReadyLemmas.{numbered}
use Rattle.sh_turns.proofs.asked.ask.Goals as goal

pub returns-then-subject : goal.returns-then-subject
unfolding asking_by
returns-then-subject c =
    let s = c.args.subject.now in
    let h = numbered s.script.now s.policy.now s.tree.now s.names.now c.requires.admitted in
    walk_asks s c.args.certificate.now _ c.claims_of-claims.ensures _ (gathered_of c.args.gather) _ h c.requires.admitted c.start-start.ensures true c.if-subject.true c.ask_unstated.ensures

pub returns : goal.returns
unfolding asking_by
returns c =
    let s = c.args.subject.now in
    let h = numbered s.script.now s.policy.now s.tree.now s.names.now c.requires.admitted in
    walk_asks s c.args.certificate.now _ c.claims_of-claims.ensures _ (gathered_of c.args.gather) _ h c.requires.admitted c.start-start.ensures false c.if-subject.false c.ask_all.ensures
