use Rattle.sh_domain.proofs.OrderLemmas.{within_nowhere}
use Rattle.sh_domain.specs.Knowledge.{knowledge_facts}
use Rattle.sh_sweeps.proofs.nowhere.inside_if.Goals as goal

pub returns-else-is_new : goal.returns-else-is_new
unfolding knowledge_facts
returns-else-is_new c other keeps = within_nowhere _
