use Rattle.sh_rows.proofs.WordLemmas.{has_bit-zeros}
use Rattle.sh_domain.proofs.KnowledgeLemmas.{none_in}
use Rattle.sh_domain.proofs.number_set.NumberSet.new.Goals as goal

pub returns-clause-names : goal.returns-clause-names
returns-clause-names c names t = none_in names _ (has_bit-zeros 64) t

pub returns-clause-numbers : goal.returns-clause-numbers
returns-clause-numbers c = has_bit-zeros 64
