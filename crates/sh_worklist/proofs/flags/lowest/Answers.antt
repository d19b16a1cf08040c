use Rattle.sh_worklist.proofs.FlagLemmas.{none_from, lowest_is}
use Rattle.std.proofs.Common.{arith}
use Rattle.sh_worklist.proofs.flags.lowest.Goals as goal

pub returns-then-rest-eq0 : goal.returns-then-rest-eq0
returns-then-rest-eq0 c = none_from c.args.word c.args.from c.requires c.if-rest-eq0.true

pub returns-else-rest-eq0 : goal.returns-else-rest-eq0
returns-else-rest-eq0 c = lowest_is c.args.word c.args.from (omega arith) c.requires (omega arith)
