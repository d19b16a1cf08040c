use Rattle.sh_demands.proofs.OwnTellLemmas.{own_tells}
use Rattle.sh_demands.proofs.TellLemmas.{words_tell}
use Rattle.sh_demands.proofs.laws.words.Goals as goal

pub returns-clause-words : goal.returns-clause-words
returns-clause-words c = words_tell

pub returns-clause-commands : goal.returns-clause-commands
returns-clause-commands c = own_tells
