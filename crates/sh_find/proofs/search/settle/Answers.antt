use Rattle.std.proofs.Common.{length}
use Rattle.sh_domain.specs.Admitted.{functions_in}
use Rattle.sh_find.proofs.GreatestLemmas.{less_left, settled, swept_less, turned_more, turned_none}
use Rattle.sh_find.proofs.search.settle.Goals as goal

pub turn-requires-clause-admitted : goal.turn-requires-clause-admitted
turn-requires-clause-admitted c = c.requires.ready.admitted

pub turn-requires-clause-working : goal.turn-requires-clause-working
turn-requires-clause-working c =
    let s = c.args.subject.now in
    let r = c.requires.working in
    let m = length (functions_in s.script.now s.tree.now) in
    record { loops = r.loops; are_loops = r.are_loops; working = c.in_ok-sweep_so.ensures.working r.loops m (c.turns.invariant.turned.working r.loops m r.working) }

pub turns-smaller : goal.turns-smaller
turns-smaller c =
    let s = c.args.subject.now in
    let r = c.requires.ready in
    let now = c.turns.invariant.turned.working r.loops r.functions r.working in
    let turned = c.in_ok-kept.ensures.turn r.loops r.functions (c.in_ok-sweep_so.ensures.working r.loops r.functions now) in
    less_left s.names.now r.loops r.functions c.turns.draft.certificate c.turn.new.certificate c.turns.kept c.in_ok-kept.kept c.turns-test.true now turned.working
    (swept_less s r.loops r.functions c.turns.draft.certificate c.sweep_so.new.draft.certificate c.turn.new.certificate _ c.in_ok-kept.kept now c.in_ok-sweep_so.ensures turned)

pub turns-preserved : goal.turns-preserved
turns-preserved c = record {
  turned = turned_more c.args.subject.now c.args.draft.now.certificate c.turns.draft.certificate c.sweep_so.new.draft.certificate c.turn.new.certificate _ _ _ _ c.turns.kept c.in_ok-kept.kept c.requires.ready c.turns.invariant.turned
      c.in_ok-sweep_so.ensures c.in_ok-kept.ensures.turn c.in_ok-kept.ensures.probed;
}

pub returns : goal.returns
returns c = λ loops m working. settled c.args.subject.now loops m c.args.draft.now.certificate c.turns.draft.certificate _ c.turns.kept c.turns-test.false c.turns.invariant.turned working

pub turns-init : goal.turns-init
turns-init c = record { turned = turned_none c.args.subject.now c.args.draft.now.certificate _ c.requires.ready }
