use Rattle.std.proofs.Common.{ap, ◌∙◌}
use Rattle.std.specs.List.{position_from}
use Rattle.std.specs.Str.{bytes_eq}
use Rattle.sh_runs.specs.Calls.{Table}
use Rattle.sh_table.proofs.table.CallTable.function_place.Goals as goal

pub returns : goal.returns
returns c = c.place.ensures.place ∙ ap (λ (x : Table). position_from (λ name. bytes_eq name c.args.name.now) 0 x.functions.names) c.self.view_is
