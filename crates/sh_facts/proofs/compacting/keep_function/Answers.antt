use Rattle.sh_facts.proofs.CompactingLemmas.{function_kept}
use Rattle.sh_facts.proofs.compacting.keep_function.Goals as goal

pub returns : goal.returns
returns c =
    function_kept c.args.from.now c.args.rows.now c.keep_facts.new.rows c.keep_drops.new.rows c.keep_facts-2.new.rows c.keep_facts-3.new.rows c.in_ok-keep_facts.field-0 c.in_ok-keep_facts-2.field-0 c.in_ok-keep_facts-3.field-0
    c.in_ok-keep_drops.field-0 c.args.entry.now c.in_ok-keep_facts.ensures c.in_ok-keep_drops.ensures c.in_ok-keep_facts-2.ensures c.in_ok-keep_facts-3.ensures
