use Rattle.std.proofs.Common.{◌∙◌, ap}
use Rattle.sh_domain.specs.Knowledge.{at_number}
use Rattle.sh_domain.specs.NumberSets.{numbers_of}
use Rattle.sh_domain.proofs.number_set.NumberSet.has_name.Goals as goal

pub returns-in-Some : goal.returns-in-Some
unfolding at_number
returns-in-Some c = c.has.ensures ∙ ap (at_number (numbers_of c.args.self.now)) c.in-Some.ensures.number

pub returns-in-None : goal.returns-in-None
unfolding at_number
returns-in-None c = ap (at_number (numbers_of c.args.self.now)) c.in-None.ensures.number
