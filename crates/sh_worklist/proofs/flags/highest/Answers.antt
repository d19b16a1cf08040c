use Rattle.sh_worklist.proofs.FlagLemmas.{none_below, highest_is}
use Rattle.std.proofs.Common.{arith}
use Rattle.sh_worklist.proofs.flags.highest.Goals as goal

pub returns-then-rest-eq0 : goal.returns-then-rest-eq0
returns-then-rest-eq0 c = none_below c.args.word c.args.below c.requires.high c.if-rest-eq0.true

pub returns-else-rest-eq0 : goal.returns-else-rest-eq0
returns-else-rest-eq0 c = highest_is c.args.word c.args.below (omega arith) c.requires.high (omega arith)
