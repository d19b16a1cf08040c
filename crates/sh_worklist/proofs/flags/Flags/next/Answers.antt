use Rattle.std.proofs.Common.{arith}
use Rattle.sh_worklist.proofs.FlagLemmas.{next_more, next_past, nowhere_all, nowhere_more}
use Rattle.sh_worklist.proofs.flags.Flags.next.Goals as goal

pub returns-then-first-place : goal.returns-then-first-place
returns-then-first-place c =
    next_more c.args.self.now.words.items c.args.from c.args.to c.loop-index.index c.index.result.now c.saturating_sub.result c.in-Some.place (omega arith) c.loop-index.invariant (omega arith) c.index.ensures c.saturating_sub.ensures c.in-Some.ensures
    c.if-first-place.true

pub returns-else-first-place : goal.returns-else-first-place
returns-else-first-place c =
    next_past c.args.self.now.words.items c.args.from c.args.to c.loop-index.index c.index.result.now c.saturating_sub.result c.in-Some.place (omega arith) c.loop-index.invariant (omega arith) c.index.ensures c.saturating_sub.ensures c.in-Some.ensures
    c.if-first-place.false

pub loop-index-preserved : goal.loop-index-preserved
loop-index-preserved c =
    nowhere_more c.args.self.now.words.items c.args.from c.loop-index.index c.index.result.now c.saturating_sub.result c.loop-index.invariant (omega arith) c.index.ensures c.saturating_sub.ensures c.in_default.ensures

pub returns : goal.returns
returns c = nowhere_all c.args.self.now.words.items c.args.from c.args.to c.loop-index.index (omega arith) c.loop-index.invariant
