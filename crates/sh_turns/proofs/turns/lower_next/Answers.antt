use Rattle.sh_domain.specs.Admitted.{functions_in}
use Rattle.sh_drafts.specs.Ready.{asked_of}
use Rattle.sh_sweeps.specs.Asked.{gathered_of}
use Rattle.sh_drafts.specs.Starts.{start_of}
use Rattle.sh_drafts.proofs.ReadyLemmas.{numbered}
use Rattle.sh_sweeps.proofs.TurnLemmas.{sunk_turn}
use Rattle.sh_turns.proofs.turns.lower_next.Goals as goal

pub asked-gather-requires-clause-sized : goal.asked-gather-requires-clause-sized
asked-gather-requires-clause-sized c = c.requires.working.working.count

pub returns-clause-turn : goal.returns-clause-turn
returns-clause-turn c = λ loops m working.
    let s = c.args.subject.now in
    let q = c.requires in
    sunk_turn s.names.now loops m (start_of s) (functions_in s.script.now s.tree.now) s.stated (asked_of s) (numbered s.script.now s.policy.now s.tree.now s.names.now q.admitted)
    c.args.certificate.now c.lower_gathered.new.certificate (gathered_of c.asked-gather.result) c.asked-gather.ensures.stands c.asked-gather.ensures.quiet _ (λ e. c.asked-gather.ensures.idle q.variables q.working (c.in_ok-lower_gathered.ensures.idle e) q.breaks)
    (c.in_ok-lower_gathered.ensures.sunk loops m working)
