use Rattle.sh_rules.proofs.DropLemmas.{row_empty}
use Rattle.sh_rules.proofs.slots.is_row_empty.Goals as goal

pub returns : goal.returns
returns c = λ names h sized. row_empty names h c.args.rows.now c.args.id c.holds_none.result sized c.holds_none.ensures.none c.holds_none.ensures.some
