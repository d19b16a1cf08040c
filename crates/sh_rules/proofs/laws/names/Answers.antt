use Rattle.sh_rules.proofs.NestLemmas.{script_shallow}
use Rattle.sh_rules.proofs.PrefixLemmas.{prefixes_are_numbered, table_defines}
use Rattle.sh_rules.proofs.laws.names.Goals as goal

pub returns-clause-prefixes : goal.returns-clause-prefixes
returns-clause-prefixes c = prefixes_are_numbered

pub returns-clause-functions : goal.returns-clause-functions
returns-clause-functions c = table_defines

pub returns-clause-loops : goal.returns-clause-loops
returns-clause-loops c = λ t most h. script_shallow most t h
