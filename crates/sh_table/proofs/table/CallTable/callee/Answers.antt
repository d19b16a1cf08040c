use Rattle.sh_table.proofs.TableLemmas.{no_callee, callee_there}
use Rattle.sh_table.proofs.table.CallTable.callee.Goals as goal

pub returns-in_err-place : goal.returns-in_err-place
returns-in_err-place c =
    let place = rw c.as_slice.ensures.value at c.in_err-place.ensures.place in
    rw (c.from_residual.ensures, ← c.self.view_is) (no_callee _ _ c.self.inside.rows.items c.args.command place)

pub returns : goal.returns
returns c =
    let found = rw c.as_slice.ensures.value at c.in_ok-place.ensures in
    rw (← c.self.view_is)
    (callee_there _ _ c.self.inside.rows.items c.self.inside.callees.items c.args.command c.in_ok-place.place c.index.result.now c.self.invariant.callees found.place found.within c.index.ensures)
