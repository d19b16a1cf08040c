use Rattle.std.proofs.Common.{◌≡◌, ◌-◌, ◌≤◌, take, drop, length, arith, length-drop, ◌∙◌}
use Rattle.std.proofs.Math.Seq.{take-add}
use Rattle.std.proofs.lemmas.List.{take_all}
use Rattle.std.proofs.KnownBytes.{Appends-trans}
use Rattle.sh_answers.proofs.MoveLemmas.{with_moved-some}
use Rattle.sh_answers.proofs.moves.write_all.Goals as goal

pub loop-at-preserved-in-Ok : goal.loop-at-preserved-in-Ok
loop-at-preserved-in-Ok g c =
    let text = c.args.text.now in
    let at = c.loop-at.at in
    let whole : take (length text - at) (drop at text) ≡ drop at text = take_all (length text - at) (drop at text) (omega (arith, length-drop at text)) in
    let bound : c.in-Ok.n ≤ length (drop at text) = rw whole at c.in-Ok.ensures.bound in (
      omega (arith, bound, length-drop at text),
      omega arith,
      rw take-add (Appends-trans _ _ _ _ _ c.loop-at.invariant.2 (rw whole at c.in-Ok.ensures.bytes)),
      c.in-Ok.ensures.counts ∙ with_moved-some _ _ _ c.if-n-eq0.false ∙ c.loop-at.invariant.3,
    )
