use Rattle.sh_drafts.proofs.ReadyLemmas.{swept_more}
use Rattle.sh_passes.proofs.own.lower_command.Goals as goal

pub returns : goal.returns
returns c = record { swept = swept_more c.args.subject.now _ _ _ _ _ c.in_ok-lower_before.ensures.swept c.in_ok-lower_behind.ensures.swept }
