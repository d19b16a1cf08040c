use Rattle.sh_drafts.proofs.UsedLemmas.{known_moved, nowhere_moved, used_more}
use Rattle.sh_drafts.proofs.used.use_facts.Goals as goal

pub returns-in-NotReached-clause-moved : goal.returns-in-NotReached-clause-moved
returns-in-NotReached-clause-moved c = nowhere_moved c.args.rows.now.rows c.args.used.now.rows.rows c.args.facts c.in-NotReached.is

pub returns-in_ok-functions-in-Known-clause-used : goal.returns-in_ok-functions-in-Known-clause-used
returns-in_ok-functions-in-Known-clause-used c = used_more c.args.rows.now c.args.used.now c.use_row.new.used c.use_row-in-Known.new.used c.in_ok-vars-in-Known.ensures.used c.in_ok-functions-in-Known.ensures.used

pub returns-in_ok-functions-in-Known-clause-moved : goal.returns-in_ok-functions-in-Known-clause-moved
returns-in_ok-functions-in-Known-clause-moved c =
    known_moved c.args.rows.now.rows c.use_row.new.used.rows.rows c.use_row-in-Known.new.used.rows.rows c.args.facts _ _ _ _ _ c.in-Known.is c.in_ok-functions-in-Known.ensures.used.stay c.in_ok-vars-in-Known.ensures.moved
    c.in_ok-functions-in-Known.ensures.moved
