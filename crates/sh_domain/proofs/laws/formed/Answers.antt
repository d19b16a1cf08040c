use Rattle.sh_domain.proofs.GivenLemmas.{read_gives_fields, read_has_rows}
use Rattle.sh_domain.proofs.ReadLemmas.{read_formed}
use Rattle.sh_domain.proofs.laws.formed.Goals as goal

pub returns-clause-programs : goal.returns-clause-programs
returns-clause-programs c = read_formed

pub returns-clause-fields : goal.returns-clause-fields
returns-clause-fields c = read_gives_fields

pub returns-clause-rows : goal.returns-clause-rows
returns-clause-rows c = read_has_rows
