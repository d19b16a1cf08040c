use Rattle.sh_drafts.proofs.ReadyLemmas.{swept_more}
use Rattle.sh_sweeps.proofs.before.lower_left.Goals as goal

pub returns : goal.returns
returns c = record { swept = swept_more c.args.subject.now _ _ _ _ _ c.in_ok-lower_zero.ensures.swept c.in_ok-lower_known.ensures.swept }
