use Rattle.sh_domain.proofs.KnowledgeExampleLemmas.{knowledge_as_expected}
use Rattle.sh_domain.proofs.KnownNameLemmas.{lost_one_by_one, names_suffice}
use Rattle.sh_domain.proofs.VariableLemmas.{read_names_variables}
use Rattle.sh_domain.proofs.laws.names.Goals as goal

pub returns-clause-law : goal.returns-clause-law
returns-clause-law c = names_suffice

pub returns-clause-losses : goal.returns-clause-losses
returns-clause-losses c = lost_one_by_one

pub returns-clause-variables : goal.returns-clause-variables
returns-clause-variables c = read_names_variables

pub returns-clause-examples : goal.returns-clause-examples
returns-clause-examples c = knowledge_as_expected
