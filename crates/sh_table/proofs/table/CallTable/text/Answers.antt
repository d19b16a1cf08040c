use Rattle.std.proofs.Common.{ap}
use Rattle.sh_runs.specs.Calls.{Table}
use Rattle.sh_table.proofs.TableLemmas.{no_text, text_found}
use Rattle.sh_table.proofs.table.CallTable.text.Goals as goal

pub returns-in_err-row : goal.returns-in_err-row
returns-in_err-row c = rw c.from_residual.ensures (no_text c.args.self.now c.args.command c.args.word c.in_err-row.ensures)

pub returns : goal.returns
returns c =
    text_found c.args.self.now c.self.inside.script.now c.args.command c.args.word c.in_ok-row.row.now _ (ap (λ (x : Table). x.script) c.self.view_is) c.in_ok-row.ensures c.text_in_row.ensures
