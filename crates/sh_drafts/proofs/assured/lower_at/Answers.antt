use Rattle.std.proofs.Common.{ap, subst, sym}
use Rattle.sh_drafts.specs.Kept.{sight_facts}
use Rattle.sh_drafts.specs.Writable.{sets_in}
use Rattle.sh_drafts.specs.Idle.{ClaimStays}
use Rattle.sh_drafts.proofs.ReadyLemmas.{lowered_swept, swept_same}
use Rattle.sh_drafts.proofs.assured.lower_at.Goals as goal

pub returns-clause-swept : goal.returns-clause-swept
returns-clause-swept c =
    swept_same c.args.subject.now _ _ _ _ _
    (lowered_swept c.args.subject.now c.args.draft.now.certificate c.lower.new.certificate c.args.place _ _ c.args.draft.now.probe.count _ c.requires.ready c.in_ok-is_lowered.ensures.lowered
    c.in_ok-is_lowered.ensures.working (λ other keeps slot placed. c.requires.stands other keeps) c.requires.free c.in_ok-is_lowered.ensures.probed)
    c.note_place.ensures.certificate (ap (λ p. p.count) c.note_place.ensures.probe)

pub returns-clause-fits : goal.returns-clause-fits
returns-clause-fits c =
    let w = c.args.subject.now.writable.now in
    subst (λ d. ClaimStays d c.args.place (sight_facts c.args.known.now) (sets_in w.vars w.functions)) (sym c.note_place.ensures.certificate) c.in_ok-is_lowered.ensures.fits
