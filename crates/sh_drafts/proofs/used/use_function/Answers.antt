use Rattle.sh_drafts.proofs.UsedLemmas.{function_moved}
use Rattle.sh_drafts.proofs.used.use_function.Goals as goal

pub returns-clause-moved : goal.returns-clause-moved
returns-clause-moved c =
    function_moved c.args.rows.now.rows c.use_facts.new.used.rows.rows c.use_drops.new.used.rows.rows c.use_facts-2.new.used.rows.rows c.use_facts-3.new.used.rows.rows c.args.entry _ c.in_ok-drops.ensures.used.stay
    c.in_ok-zero.ensures.used.stay c.in_ok-nonzero.ensures.used.stay c.in_ok-before.ensures.moved c.in_ok-drops.ensures.moved c.in_ok-zero.ensures.moved c.in_ok-nonzero.ensures.moved
