use Rattle.std.proofs.Common.{◌+◌, refl}
use Rattle.sh_drafts.specs.Begun.{heads_below}
use Rattle.sh_drafts.specs.Places.{is_stated_part}
use Rattle.sh_drafts.proofs.BegunLemmas.{begun_so, head_left, heads_next}
use Rattle.sh_drafts.proofs.begun.state_heads.Goals as goal

pub state-requires-clause-working : goal.state-requires-clause-working
state-requires-clause-working c = let w = c.requires.working in (w.0, w.1, c.loop-index.invariant.working w.0 w.1 w.2)

pub state-requires-clause-stated : goal.state-requires-clause-stated
unfolding is_stated_part
state-requires-clause-stated c = refl

pub loop-index-preserved : goal.loop-index-preserved
loop-index-preserved c =
    let k = c.args.subject.now.compact.now in
    let i = c.loop-index.index in
    record {
      begun = begun_so k _ 0 (heads_below (i + 1)) c.state.new.certificate (heads_next i) (c.in_ok-state.ensures.begun (heads_below i) 0 (head_left i) c.loop-index.invariant.begun);
      working = λ loops m w. c.in_ok-state.ensures.working loops m (c.loop-index.invariant.working loops m w);
      probed = c.in_ok-state.ensures.probed;
    }
