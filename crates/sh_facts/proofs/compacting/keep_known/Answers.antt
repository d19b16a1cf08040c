use Rattle.sh_facts.proofs.CompactingLemmas.{assured_kept, nowhere_kept}
use Rattle.sh_facts.proofs.compacting.keep_known.Goals as goal

pub returns-in-NotReached : goal.returns-in-NotReached
returns-in-NotReached c = rw c.in-NotReached.is (nowhere_kept c.args.rows.now)

pub returns-in_ok-keep_set-in-Known-2 : goal.returns-in_ok-keep_set-in-Known-2
returns-in_ok-keep_set-in-Known-2 c =
    assured_kept c.args.rows.now c.keep_set.new.rows c.keep_set-in-Known.new.rows c.args.known.now c.in-Known.assured c.vars.result.now c.functions.result.now c.args-in-Known.result c.in_ok-keep_set-in-Known.field-0
    c.in_ok-keep_set-in-Known-2.field-0 c.in-Known.is c.vars.ensures c.functions.ensures c.args-in-Known.ensures c.in_ok-keep_set-in-Known.ensures c.in_ok-keep_set-in-Known-2.ensures
