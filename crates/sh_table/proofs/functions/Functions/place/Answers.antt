use Rattle.std.proofs.Common.{◌∙◌}
use Rattle.sh_runs.proofs.PositionLemmas.{place_of_key}
use Rattle.sh_table.proofs.functions.Functions.place.Goals as goal

pub returns-clause-place : goal.returns-clause-place
returns-clause-place c = rw (← c.self.view_is) (c.get_index_of.ensures.index ∙ place_of_key c.args.name.now c.self.inside.names.keys)
