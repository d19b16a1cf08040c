use Rattle.std.proofs.Common.{◌∷◌, [], ap, length, ◌∙◌, arith}
use Rattle.std.proofs.lemmas.List.{length-append}
use Rattle.sh_turns.proofs.CountLemmas.{unsure_more}
use Rattle.sh_turns.proofs.unsure.unsure_of.Goals as goal

pub loop-number-preserved : goal.loop-number-preserved
loop-number-preserved c =
    let before = c.loop-number.unsure.items in
    let sized = ap length c.in_ok-push.ensures.items ∙ length-append before (c.unsure_at.result ∷ []) in
    record {
      unsure = unsure_more c.args.subject.now c.args.certificate.now before _ c.unsure_at.result c.loop-number.number c.loop-number.invariant.sized c.in_ok-push.ensures.items c.loop-number.invariant.unsure c.unsure_at.ensures;
      sized = omega (arith, sized, c.loop-number.invariant.sized);
    }
