use Rattle.std.proofs.Common.{refl}
use Rattle.sh_table.proofs.FoundLemmas.{rows_whole, definitions_whole}
use Rattle.sh_table.proofs.found.Found.new.Goals as goal

pub returns-clause-rows : goal.returns-clause-rows
returns-clause-rows c =
    rows_whole c.args.script.now c.args.tree.now _ _ _ _ _ c.new.ensures.items c.new-2.ensures.items (c.in_ok-walk.ensures _ refl) (c.in_ok-sort_rows.ensures c.args.script.now)

pub returns-clause-definitions : goal.returns-clause-definitions
returns-clause-definitions c =
    definitions_whole c.args.script.now c.args.tree.now _ _ _ _ _ c.new.ensures.items c.new-2.ensures.items (c.in_ok-walk.ensures _ refl) (c.in_ok-sort_definitions.ensures c.args.script.now)
