use Rattle.sh_drafts.proofs.DefineLemmas.{rules_define_names}
use Rattle.sh_drafts.proofs.FunctionLemmas.{rules_know_names}
use Rattle.sh_drafts.proofs.laws.functions.Goals as goal

pub returns-clause-defined : goal.returns-clause-defined
returns-clause-defined c = rules_define_names

pub returns-clause-known : goal.returns-clause-known
returns-clause-known c = rules_know_names
