use Rattle.std.proofs.Common.{drop, take, ◌-◌, arith, sym, subst}
use Rattle.sh_drafts.proofs.ReadyLemmas.{names_numbered}
use Rattle.sh_sweeps.specs.Plain.{joined}
use Rattle.sh_sweeps.specs.Sweeps.{ArePassed}
use Rattle.sh_sweeps.proofs.KnownLemmas.{none_between, nothing_passed}
use Rattle.sh_sweeps.proofs.PlainLemmas.{carried_on}
use Rattle.sh_sweeps.proofs.plain.carry_run.Goals as goal

pub loop-next-init : goal.loop-next-init
loop-next-init c = record {
  from = omega arith;
  there = c.requires.within;
  placed = c.requires.placed;
  run = nothing_passed c.args.subject.now (joined c.args.known.now) _ (none_between c.args.place (drop c.args.place c.args.items.now));
}

pub returns-then-not-carry_item-clause-from : goal.returns-then-not-carry_item-clause-from
returns-then-not-carry_item-clause-from c = c.loop-next.invariant.from

pub returns-then-not-carry_item-clause-passed : goal.returns-then-not-carry_item-clause-passed
returns-then-not-carry_item-clause-passed c =
    subst (λ k. ArePassed c.args.subject.now (joined c.args.known.now) (joined k) (take (c.loop-next.next - c.args.place) (drop c.args.place c.args.items.now)))
    (sym (c.carry_item.ensures.stays c.if-not-carry_item.true)) c.loop-next.invariant.run

pub loop-next-preserved : goal.loop-next-preserved
loop-next-preserved c =
    let s = c.args.subject.now in
    let r = c.requires.ready in
    let w = c.loop-next.invariant in
    let next = c.loop-next.next in
    let on =
    carried_on s r.admitted c.args.draft.now.certificate (names_numbered s _ _ r) r.over c.args.place next c.args.items.now c.index-items-next.result c.args.known.now c.loop-next.known c.carry_item.new.known
    w.from w.there c.index-items-next.is (c.carry_item.ensures.carried c.if-not-carry_item.false) w.placed w.run in
    let from = w.from in
    let below = c.loop-next-test.true in
    record { from = omega (arith, from); there = omega (arith, below); placed = on.0; run = on.1 }

pub returns-clause-there : goal.returns-clause-there
returns-clause-there c = c.loop-next.invariant.there

pub returns-clause-passed : goal.returns-clause-passed
returns-clause-passed c = c.loop-next.invariant.run
