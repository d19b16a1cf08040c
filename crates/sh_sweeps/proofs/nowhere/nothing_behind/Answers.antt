use Rattle.sh_domain.proofs.OrderLemmas.{within_nowhere}
use Rattle.sh_domain.specs.Knowledge.{knowledge_facts}
use Rattle.sh_sweeps.proofs.nowhere.nothing_behind.Goals as goal

pub returns : goal.returns
unfolding knowledge_facts
returns c s o other keeps = record { zero = within_nowhere _; nonzero = within_nowhere _ }
