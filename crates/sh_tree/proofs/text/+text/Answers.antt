use Rattle.std.proofs.Common.{◌<◌, ◌∙◌, ap, sym, length, arith}
use Rattle.sh_tree.specs.Fronts.{part_front, part_front-Double, parts_front}
use Rattle.sh_tree.specs.standard.Words.{part_text, part_text-Double, behind_first, between_ends}
use Rattle.sh_tree.proofs.ResultLemmas.{whatever}
use Rattle.sh_tree.proofs.TextLemmas.{text_step, text_none, text_stop, front_step, front_some, single_some}
use Rattle.sh_tree.proofs.text.+text.Goals as goal

pub push_part-returns-in-Double-clause-text : goal.push_part-returns-in-Double-clause-text
push_part-returns-in-Double-clause-text t c = rw (c.in-Double.is, part_text-Double) (rw c.as_slice.ensures at c.push_parts.ensures.text)

pub push_parts-returns-then-not-is_static-clause-text : goal.push_parts-returns-then-not-is_static-clause-text
push_parts-returns-then-not-is_static-clause-text t c =
    text_none c.args.script.now c.args.parts.now c.loop-part.part-index c.part-item.result _ c.loop-part-test.true c.part-item.is
    (rw c.if-not-is_static.true at c.in_ok-is_static.ensures.text) ∙ c.loop-part.invariant.text

pub push_parts-loop-part-preserved : goal.push_parts-loop-part-preserved
push_parts-loop-part-preserved t c =
    let is_static = rw c.if-not-is_static.false at c.in_ok-is_static.ensures.text in
    let front = front_step c.args.script.now c.args.parts.now c.loop-part.part-index c.part-item.result _ _ c.loop-part-test.true c.part-item.is is_static in
    record {
      text =
          text_step c.args.script.now c.args.parts.now c.loop-part.part-index c.part-item.result _ _ c.loop-part-test.true c.part-item.is is_static
          ∙ c.loop-part.invariant.text;
      front = omega (arith, front, c.loop-part.invariant.front);
    }

pub push_parts-returns-clause-text : goal.push_parts-returns-clause-text
push_parts-returns-clause-text t c =
    sym (text_stop c.args.script.now c.args.parts.now c.loop-part.part-index c.loop-part.text.items c.loop-part-test.false) ∙ c.loop-part.invariant.text

pub push_part-returns-in-Double-clause-memory : goal.push_part-returns-in-Double-clause-memory
push_part-returns-in-Double-clause-memory t c = rw (c.in-Double.is, part_front-Double) (rw c.as_slice.ensures at c.push_parts.ensures.memory)

pub push_part-returns-in_err-push_escaped-in-Single-Dollar-default-clause-memory : goal.push_part-returns-in_err-push_escaped-in-Single-Dollar-default-clause-memory
unfolding part_text part_front
push_part-returns-in_err-push_escaped-in-Single-Dollar-default-clause-memory t c =
    let inner = c.between_ends-in-Single-Dollar-default.ensures
    ∙ ap between_ends (c.behind_first-in-Single-Dollar-default.ensures ∙ ap behind_first c.text-in-Single-Dollar-default.ensures) in
    let some : 0 < length (part_front c.args.script.now c.args.part.now) =
    rw c.in-Single-Dollar-default.is
    (single_some c.in-Single-Dollar-default.field-0 _ _ inner c.in_err-push_escaped-in-Single-Dollar-default.ensures.memory) in
    whatever _ some

pub push_parts-returns-in_err-is_static-clause-memory : goal.push_parts-returns-in_err-is_static-clause-memory
push_parts-returns-in_err-is_static-clause-memory t c =
    let in_part =
    front_some c.args.script.now c.args.parts.now c.loop-part.part-index c.part-item.result c.loop-part-test.true c.part-item.is
    c.in_err-is_static.ensures.memory in
    let some : 0 < length (parts_front c.args.script.now c.args.parts.now) = omega (arith, in_part, c.loop-part.invariant.front) in
    whatever _ some
