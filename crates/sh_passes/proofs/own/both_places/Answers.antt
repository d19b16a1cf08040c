use Rattle.sh_sweeps.proofs.SideLemmas.{begun_numbers, begun_quiet, begun_stands}
use Rattle.sh_passes.proofs.own.both_places.Goals as goal

pub returns-clause-numbers : goal.returns-clause-numbers
returns-clause-numbers c = begun_numbers _ c.new-gather.result c.new-gather.ensures _

pub returns-clause-quiet : goal.returns-clause-quiet
returns-clause-quiet c = begun_quiet _ c.new-gather.result c.new-gather.ensures _

pub returns-clause-stands : goal.returns-clause-stands
returns-clause-stands c = begun_stands _ c.new-gather.result c.new-gather.ensures _
