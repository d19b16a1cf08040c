use Rattle.sh_drafts.proofs.ReadyLemmas.{ready_again, swept_more}
use Rattle.sh_passes.proofs.bodies.sweep_round.Goals as goal

pub sweep_if_defined-requires : goal.sweep_if_defined-requires
sweep_if_defined-requires c =
    let s = c.args.subject.now in
    ready_again s _ _ _ _ (ready_again s _ _ _ _ c.requires c.in_ok-sweep_outside.ensures) c.loop-command.invariant.swept

pub loop-command-preserved : goal.loop-command-preserved
loop-command-preserved c = record { swept = swept_more c.args.subject.now _ _ _ _ _ c.loop-command.invariant.swept c.in_ok-sweep_if_defined.ensures }

pub returns : goal.returns
returns c = swept_more c.args.subject.now _ _ _ _ _ c.in_ok-sweep_outside.ensures c.loop-command.invariant.swept
