use Rattle.sh_domain.proofs.DifferLemmas.{read_is_numbered}
use Rattle.sh_domain.proofs.NumberLemmas.{read_numbers_differ}
use Rattle.sh_domain.proofs.TotalLemmas.{read_has_few_commands}
use Rattle.sh_domain.proofs.laws.numbered.Goals as goal

pub returns-clause-once : goal.returns-clause-once
returns-clause-once c = read_numbers_differ

pub returns-clause-test : goal.returns-clause-test
returns-clause-test c = read_is_numbered

pub returns-clause-few : goal.returns-clause-few
returns-clause-few c = read_has_few_commands
