use Rattle.sh_table.proofs.TableLemmas.{empty_kept, empty_table}
use Rattle.sh_table.proofs.table.CallTable.empty.Goals as goal

pub invariant_of-result : goal.invariant_of-result
invariant_of-result c =
    empty_kept _ c.none-functions.result c.new-rows.result.items c.new-callees.result.items c.new-named.result.items c.none-functions.ensures c.new-rows.ensures.items c.new-callees.ensures.items c.new-named.ensures.items

pub returns : goal.returns
returns c = λ t none. empty_table c.args.script.now t c.none-functions.result c.new-rows.result.items none c.none-functions.ensures c.new-rows.ensures.items
