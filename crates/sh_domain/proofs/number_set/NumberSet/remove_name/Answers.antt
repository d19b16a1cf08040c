use Rattle.sh_domain.specs.NumberSets.{numbers_of}
use Rattle.sh_domain.proofs.KnowledgeLemmas.{removed, not_removed}
use Rattle.sh_domain.proofs.number_set.NumberSet.remove_name.Goals as goal

pub returns-in-Some : goal.returns-in-Some
returns-in-Some c =
    removed c.args.names.now c.args.name.now c.in-Some.number (numbers_of c.args.self.now) (numbers_of c.clear.new.self) c.in-Some.ensures.number c.clear.ensures

pub returns-in_default : goal.returns-in_default
returns-in_default c = not_removed c.args.names.now c.args.name.now (numbers_of c.args.self.now) c.in_default.ensures.number
