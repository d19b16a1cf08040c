use Rattle.sh_domain.proofs.InclusionLemmas.{rules_give}
use Rattle.sh_domain.proofs.laws.inclusions.Goals as goal

pub returns : goal.returns
returns c = rules_give
