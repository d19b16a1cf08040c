use Rattle.sh_domain.proofs.SlotLemmas.{claims_are_entries}
use Rattle.sh_domain.proofs.laws.entries.Goals as goal

pub returns : goal.returns
returns c = claims_are_entries
