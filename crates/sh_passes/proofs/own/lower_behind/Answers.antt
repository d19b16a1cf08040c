use Rattle.sh_drafts.proofs.ReadyLemmas.{ready_again, swept_more}
use Rattle.sh_passes.proofs.own.lower_behind.Goals as goal

pub lower_others-requires-clause-ready : goal.lower_others-requires-clause-ready
lower_others-requires-clause-ready c = ready_again c.args.subject.now _ _ _ _ c.requires.ready c.in_ok-kept.ensures.swept

pub returns : goal.returns
returns c = record { swept = swept_more c.args.subject.now _ _ _ _ _ c.in_ok-kept.ensures.swept c.in_ok-lower_others.ensures.swept }
