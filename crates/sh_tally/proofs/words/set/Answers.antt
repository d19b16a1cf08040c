use Rattle.sh_tally.proofs.WordLemmas.{name_set, positional_set, special_set}
use Rattle.sh_tally.proofs.words.set.Goals as goal

pub returns-in-Name : goal.returns-in-Name
returns-in-Name c = name_set c.args.parameter _ c.args.known c.in-Name.is

pub returns-in-Positional : goal.returns-in-Positional
returns-in-Positional c = positional_set c.args.parameter c.in-Positional.number _ c.args.known c.raised.result c.in-Positional.is c.raised.ensures

pub returns-in-Special : goal.returns-in-Special
returns-in-Special c = special_set c.args.parameter _ _ c.args.known c.in-Special.is
