use Rattle.std.proofs.Common.{◌≡◌, false, inl, inr, sym, subst, true≢false, ◌∙◌}
use Rattle.sh_domain.specs.declared.certificate.Certificate.{Certificate}
use Rattle.sh_domain.specs.Admitted.{functions_in}
use Rattle.sh_sweeps.specs.Next.{IsBroken, IsOfScript}
use Rattle.sh_drafts.specs.Ready.{asked_of}
use Rattle.sh_drafts.specs.Turns.{IsTurn}
use Rattle.sh_sweeps.specs.Asked.{gathered_of}
use Rattle.sh_drafts.specs.Working.{IsWorking}
use Rattle.sh_drafts.specs.Starts.{start_of}
use Rattle.sh_drafts.proofs.ReadyLemmas.{numbered}
use Rattle.sh_sweeps.proofs.TurnLemmas.{sunk_turn}
use Rattle.sh_turns.proofs.turns.turn.Goals as goal

pub asked-gather-requires-clause-sized : goal.asked-gather-requires-clause-sized
asked-gather-requires-clause-sized c = c.requires.working.working.count

pub returns-then-branch-clause-turn : goal.returns-then-branch-clause-turn
returns-then-branch-clause-turn c = λ loops m working.
    let s = c.args.subject.now in
    sunk_turn s.names.now loops m (start_of s) (functions_in s.script.now s.tree.now) s.stated (asked_of s) (numbered s.script.now s.policy.now s.tree.now s.names.now c.requires.admitted)
    c.args.certificate.now c.lower_gathered.new.certificate (gathered_of c.asked-gather.result) c.asked-gather.ensures.stands c.asked-gather.ensures.quiet _ (λ e. true≢false (sym c.if-branch.true ∙ e)) (c.in_ok-lower_gathered.ensures.sunk loops m working)

pub lower_next-requires-clause-working : goal.lower_next-requires-clause-working
lower_next-requires-clause-working c =
    let s = c.args.subject.now in
    let r = c.requires.working in
    subst (IsOfScript s) (sym ((c.in_ok-lower_gathered.ensures.sunk r.loops _ r.working).stays c.if-branch.false)) r

pub returns-clause-turn : goal.returns-clause-turn
returns-clause-turn c = λ loops m working.
    let s = c.args.subject.now in
    let same : c.lower_gathered.new.certificate ≡ c.args.certificate.now = (c.in_ok-lower_gathered.ensures.sunk loops m working).stays c.if-branch.false in
    subst (λ (x : Certificate). IsTurn s.names.now loops m (start_of s) (functions_in s.script.now s.tree.now) s.stated (asked_of s) x c.lower_next.new.certificate false) same
    (c.in_ok-target.ensures.turn loops m (subst (λ (x : Certificate). IsWorking s.names.now loops m x) (sym same) working))

pub lower_next-requires-clause-breaks : goal.lower_next-requires-clause-breaks
lower_next-requires-clause-breaks c =
    let s = c.args.subject.now in
    let r = c.requires.working in
    let same : c.lower_gathered.new.certificate ≡ c.args.certificate.now = (c.in_ok-lower_gathered.ensures.sunk r.loops _ r.working).stays c.if-branch.false in
    elim (c.asked-gather.ensures.next c.if-gather.false r) [
      | inl b ↦ absurd (c.asked-gather.ensures.idle c.requires.variables r (c.in_ok-lower_gathered.ensures.idle c.if-branch.false) b)
      | inr b ↦ subst (λ (x : Certificate). IsBroken s x c.asked-gather.result.next) (sym same) b
    ]
