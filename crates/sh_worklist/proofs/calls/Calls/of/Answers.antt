use Rattle.std.proofs.Common.{ap, map, ◌∙◌}
use Rattle.std.specs.List.{filter}
use Rattle.std.proofs.lemmas.List.{take_all}
use Rattle.sh_table.specs.declared.table.Row.{Row}
use Rattle.sh_worklist.specs.Calls.{does_call}
use Rattle.sh_worklist.proofs.CallLemmas.{all_called}
use Rattle.sh_worklist.proofs.calls.Calls.of.Goals as goal

pub returns : goal.returns
returns c f lt =
    c.loop-row.invariant.callers f lt
    ∙ ap (λ rows. filter (does_call c.args.table.now f) (map (λ (r : Row). r.number) rows)) (take_all c.loop-row.row-index c.rows-row-items.result.now c.loop-row-test.false)
    ∙ all_called c.args.table.now c.args.table.now.script c.rows-row-items.result.now f c.rows-row-items.ensures
