use Rattle.sh_drafts.proofs.ReadyLemmas.{ready_again, swept_more}
use Rattle.sh_passes.proofs.bodies.sweep_by_rounds.Goals as goal

pub sweep_round-requires : goal.sweep_round-requires
sweep_round-requires c = ready_again c.args.subject.now _ _ _ _ c.requires c.loop-round.invariant.swept

pub loop-round-preserved : goal.loop-round-preserved
loop-round-preserved c = record { swept = swept_more c.args.subject.now _ _ _ _ _ c.loop-round.invariant.swept c.in_ok-sweep_round.ensures }

pub returns-then-draft-before : goal.returns-then-draft-before
returns-then-draft-before c = swept_more c.args.subject.now _ _ _ _ _ c.loop-round.invariant.swept c.in_ok-sweep_round.ensures
