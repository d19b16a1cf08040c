use Rattle.std.proofs.Common.{◌∙◌}
use Rattle.sh_tally.proofs.SolvedLemmas.{unknown_next}
use Rattle.sh_tally.proofs.places.Places.add_all.Goals as goal

pub loop-count-preserved : goal.loop-count-preserved
loop-count-preserved c = record {
  most = unknown_next c.args.self.now.counts.now c.loop-count.count-index _ c.at_first.result _ _ _ c.loop-count-test.true c.at_first.ensures c.loop-count.invariant.most c.in_ok-unknown.ensures.most;
  all = c.unknown.ensures.all ∙ c.loop-count.invariant.all;
}
