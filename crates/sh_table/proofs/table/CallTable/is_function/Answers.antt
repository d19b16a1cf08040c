use Rattle.std.proofs.Common.{ap, is_some, ◌∙◌}
use Rattle.sh_runs.proofs.PositionLemmas.{is_placed}
use Rattle.sh_table.proofs.table.CallTable.is_function.Goals as goal

pub returns : goal.returns
returns c = c.is_some.ensures ∙ ap is_some c.function_place.ensures ∙ is_placed c.args.self.now.functions.names c.args.name.now 0
