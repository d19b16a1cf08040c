use Rattle.std.proofs.Common.{ap, sym, ◌∙◌}
use Rattle.sh_runs.specs.Calls.{Table}
use Rattle.sh_table.proofs.NumberLemmas.{rises_kept, rises_numbered}
use Rattle.sh_table.proofs.table.CallTable.is_numbered.Goals as goal

pub returns-clause-rises : goal.returns-clause-rises
returns-clause-rises c = (rw c.as_slice.ensures.value at c.numbers_rise.ensures) ∙ rises_kept c.args.self.now _ c.self.inside.rows.items (ap (λ (x : Table). x.rows) c.self.view_is)

pub returns-clause-numbered : goal.returns-clause-numbered
returns-clause-numbered c b t e y = rises_numbered c.args.self.now (sym (returns-clause-rises c) ∙ y) b t e
