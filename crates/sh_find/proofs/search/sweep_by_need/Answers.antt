use Rattle.std.proofs.Common.{ap}
use Rattle.sh_drafts.proofs.ReadyLemmas.{ready_again, swept_more, swept_same}
use Rattle.sh_find.proofs.search.sweep_by_need.Goals as goal

pub sweep_waiting-requires : goal.sweep_waiting-requires
sweep_waiting-requires c = ready_again c.args.subject.now _ _ _ _ c.requires c.loop-time.invariant.swept

pub rest_counts-requires : goal.rest_counts-requires
rest_counts-requires c = ready_again c.args.subject.now _ _ _ _ (ready_again c.args.subject.now _ _ _ _ c.requires c.loop-time.invariant.swept) c.in_ok-sweep_waiting.ensures

pub returns-then-draft-before : goal.returns-then-draft-before
returns-then-draft-before c = swept_more c.args.subject.now _ _ _ _ _ c.loop-time.invariant.swept c.in_ok-sweep_waiting.ensures

pub loop-time-preserved : goal.loop-time-preserved
loop-time-preserved c =
    let s = c.args.subject.now in
    record {
      swept = swept_same s _ _ _ _ _
          (swept_more s _ _ _ _ _ (swept_more s _ _ _ _ _ c.loop-time.invariant.swept c.in_ok-sweep_waiting.ensures) c.in_ok-rest_counts.ensures) c.wake_passed.ensures.certificate
          (ap (λ p. p.count) c.wake_passed.ensures.probe);
    }
