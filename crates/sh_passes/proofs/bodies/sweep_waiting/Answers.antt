use Rattle.sh_drafts.proofs.ReadyLemmas.{ready_again, swept_more}
use Rattle.sh_passes.proofs.bodies.sweep_waiting.Goals as goal

pub sweep_unit-requires : goal.sweep_unit-requires
sweep_unit-requires c = ready_again c.args.subject.now _ _ _ _ c.requires c.loop-unit.invariant.swept

pub loop-unit-preserved : goal.loop-unit-preserved
loop-unit-preserved c = record { swept = swept_more c.args.subject.now _ _ _ _ _ c.loop-unit.invariant.swept c.in_ok-sweep_unit.ensures }

pub returns-then-is_tired : goal.returns-then-is_tired
returns-then-is_tired c = swept_more c.args.subject.now _ _ _ _ _ c.loop-unit.invariant.swept c.in_ok-sweep_unit.ensures
