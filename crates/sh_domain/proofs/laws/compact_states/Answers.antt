use Rattle.sh_domain.proofs.CompactLemmas.{compacts_state}
use Rattle.sh_domain.proofs.laws.compact_states.Goals as goal

pub returns : goal.returns
returns c = compacts_state
