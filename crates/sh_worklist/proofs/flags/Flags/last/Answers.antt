use Rattle.std.proofs.Common.{arith}
use Rattle.sh_worklist.proofs.FlagLemmas.{above_first, above_more, last_here}
use Rattle.sh_worklist.proofs.flags.Flags.last.Goals as goal

pub loop-left-init : goal.loop-left-init
loop-left-init c = above_first c.args.self.now.words.items c.args.below _ (omega (arith, c.div_ceil.ensures))

pub returns-in-Some : goal.returns-in-Some
returns-in-Some c =
    last_here c.args.self.now.words.items c.args.below c.loop-left.left c.index.result.now c.min.result c.in-Some.place c.loop-left.invariant c.loop-left-test.true c.index.ensures c.min.ensures c.in-Some.ensures

pub loop-left-preserved : goal.loop-left-preserved
loop-left-preserved c =
    above_more c.args.self.now.words.items c.args.below c.loop-left.left c.index.result.now c.min.result c.loop-left.invariant c.loop-left-test.true c.index.ensures c.min.ensures c.in_default.ensures
