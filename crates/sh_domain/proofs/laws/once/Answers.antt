use Rattle.sh_domain.proofs.SpotExampleLemmas.{spots_as_expected}
use Rattle.sh_domain.proofs.SpotLemmas.{places_stand_once, read_places_once}
use Rattle.sh_domain.proofs.laws.once.Goals as goal

pub returns-clause-law : goal.returns-clause-law
returns-clause-law c = places_stand_once

pub returns-clause-scripts : goal.returns-clause-scripts
returns-clause-scripts c = read_places_once

pub returns-clause-examples : goal.returns-clause-examples
returns-clause-examples c = spots_as_expected
