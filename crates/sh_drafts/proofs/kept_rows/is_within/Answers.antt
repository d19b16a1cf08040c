use Rattle.sh_drafts.specs.Kept.{fact_of}
use Rattle.sh_drafts.proofs.FactLemmas.{nowhere_within, vars_fail, functions_fail, args_decide}
use Rattle.sh_drafts.proofs.kept_rows.is_within.Goals as goal

pub returns-in-NotReached : goal.returns-in-NotReached
unfolding fact_of
returns-in-NotReached c = rw c.in-NotReached.is (nowhere_within c.args.sight.now)

pub returns-then-not-includes : goal.returns-then-not-includes
returns-then-not-includes c =
    vars_fail c.args.rows.now.rows c.args.fact c.in-Known.vars c.in-Known.functions c.in-Known.args c.args.sight.now c.in-Known.is c.includes.result c.includes.ensures.numbers c.if-not-includes.true

pub returns-then-not-includes-2 : goal.returns-then-not-includes-2
returns-then-not-includes-2 c =
    functions_fail c.args.rows.now.rows c.args.fact c.in-Known.vars c.in-Known.functions c.in-Known.args c.args.sight.now c.in-Known.is c.includes-in-Known.result c.includes-in-Known.ensures.numbers c.if-not-includes-2.true

pub returns-else-not-includes-2 : goal.returns-else-not-includes-2
returns-else-not-includes-2 c =
    args_decide c.args.rows.now.rows c.args.fact c.in-Known.vars c.in-Known.functions c.in-Known.args c.args.sight.now c.in-Known.is c.includes.result c.includes-in-Known.result
    c.includes.ensures.numbers c.if-not-includes.false c.includes-in-Known.ensures.numbers c.if-not-includes-2.false
