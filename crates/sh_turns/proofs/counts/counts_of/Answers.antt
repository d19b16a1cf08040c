use Rattle.std.proofs.Common.{◌∷◌, [], ap, length, ◌∙◌, arith}
use Rattle.std.proofs.lemmas.List.{length-append}
use Rattle.sh_turns.proofs.CountLemmas.{claimed_more}
use Rattle.sh_turns.proofs.counts.counts_of.Goals as goal

pub loop-count-preserved : goal.loop-count-preserved
loop-count-preserved c =
    let before = c.loop-count.counts.items in
    let sized = ap length c.in_ok-push.ensures.items ∙ length-append before (c.claimed_count.result ∷ []) in
    record {
      claimed = claimed_more c.args.certificate.now before _ c.claimed_count.result c.loop-count.count c.loop-count.invariant.sized c.in_ok-push.ensures.items c.loop-count.invariant.claimed c.claimed_count.ensures;
      sized = omega (arith, sized, c.loop-count.invariant.sized);
    }
