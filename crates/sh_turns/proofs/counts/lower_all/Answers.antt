use Rattle.sh_drafts.proofs.ReadyLemmas.{ready_again, swept_more}
use Rattle.sh_turns.proofs.counts.lower_all.Goals as goal

pub lower_claimed-requires-clause-ready : goal.lower_claimed-requires-clause-ready
lower_claimed-requires-clause-ready c = ready_again c.args.subject.now _ _ _ _ c.requires.ready c.loop-count.invariant.swept

pub loop-count-preserved : goal.loop-count-preserved
loop-count-preserved c = record { swept = swept_more c.args.subject.now _ _ _ _ _ c.loop-count.invariant.swept c.in_ok-lower_claimed.ensures }
