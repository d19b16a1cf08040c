use Rattle.std.proofs.Common.{◌+◌, refl}
use Rattle.sh_drafts.specs.Begun.{functions_below}
use Rattle.sh_drafts.specs.Places.{is_stated_part}
use Rattle.sh_drafts.proofs.BegunLemmas.{begun_so, entered_left, entered_too, functions_next, nonzero_left, zero_left, zero_too}
use Rattle.sh_drafts.proofs.begun.state_function.Goals as goal

pub state-requires-clause-stated : goal.state-requires-clause-stated
unfolding is_stated_part
state-requires-clause-stated c = refl

pub state-requires-2-clause-stated : goal.state-requires-2-clause-stated
unfolding is_stated_part
state-requires-2-clause-stated c = refl

pub state-requires-3-clause-stated : goal.state-requires-3-clause-stated
unfolding is_stated_part
state-requires-3-clause-stated c = refl

pub state-requires-2-clause-working : goal.state-requires-2-clause-working
state-requires-2-clause-working c = let w = c.requires.working in (w.0, w.1, c.in_ok-state.ensures.working w.0 w.1 w.2)

pub state-requires-3-clause-working : goal.state-requires-3-clause-working
state-requires-3-clause-working c = let w = c.requires.working in (w.0, w.1, c.in_ok-state-2.ensures.working w.0 w.1 (c.in_ok-state.ensures.working w.0 w.1 w.2))

pub state_drops-requires-clause-working : goal.state_drops-requires-clause-working
state_drops-requires-clause-working c =
    let w = c.requires.working in (w.0, w.1, c.in_ok-state-3.ensures.working w.0 w.1 (c.in_ok-state-2.ensures.working w.0 w.1 (c.in_ok-state.ensures.working w.0 w.1 w.2)))

pub returns-clause-begun : goal.returns-clause-begun
returns-clause-begun c = λ b.
    let k = c.args.subject.now.compact.now in
    let i = c.args.index in
    let one = c.in_ok-state.ensures.begun (functions_below i) i (entered_left i) b in
    let two = c.in_ok-state-2.ensures.begun (entered_too i) i (zero_left i) one in
    let three = c.in_ok-state-3.ensures.begun (zero_too i) i (nonzero_left i) two in
    begun_so k _ (i + 1) (functions_below (i + 1)) c.state_drops.new.certificate (functions_next i) (c.in_ok-state_drops.ensures.begun _ three)

pub returns-clause-working : goal.returns-clause-working
returns-clause-working c = λ loops m w. c.in_ok-state_drops.ensures.working loops m (c.in_ok-state-3.ensures.working loops m (c.in_ok-state-2.ensures.working loops m (c.in_ok-state.ensures.working loops m w)))
