use Rattle.sh_facts.proofs.CompactingLemmas.{drops_kept}
use Rattle.sh_facts.proofs.compacting.keep_drops.Goals as goal

pub returns : goal.returns
returns c =
    drops_kept c.args.from.now c.args.rows.now c.keep_row.new.rows c.keep_row-2.new.rows c.args.drops (record { vars = c.in_ok-keep_row.field-0; functions = c.in_ok-keep_row-2.field-0 }) c.in_ok-keep_row.ensures c.in_ok-keep_row-2.ensures
