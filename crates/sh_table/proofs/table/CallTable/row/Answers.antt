use Rattle.sh_table.proofs.TableLemmas.{no_row, row_there}
use Rattle.sh_table.proofs.table.CallTable.row.Goals as goal

pub returns-in_err-place : goal.returns-in_err-place
returns-in_err-place c =
    let place = rw c.as_slice.ensures.value at c.in_err-place.ensures.place in
    rw (c.from_residual.ensures, ← c.self.view_is) (no_row _ c.args.command c.self.inside.rows.items place)

pub returns : goal.returns
returns c =
    let found = rw c.as_slice.ensures.value at c.in_ok-place.ensures in
    rw (← c.self.view_is) (row_there _ c.args.command c.in_ok-place.place c.self.inside.rows.items c.index.result.now found.place found.within c.index.ensures)
