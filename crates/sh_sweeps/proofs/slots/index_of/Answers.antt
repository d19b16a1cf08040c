use Rattle.sh_rules.specs.Walks.{setting}
use Rattle.sh_sweeps.proofs.slots.index_of.Goals as goal

pub returns : goal.returns
unfolding setting
returns c = c.function_place.ensures
