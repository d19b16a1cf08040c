use Rattle.sh_domain.specs.NumberSets.{numbers_of}
use Rattle.sh_domain.proofs.KnowledgeLemmas.{added, not_added}
use Rattle.sh_domain.proofs.number_set.NumberSet.add_name.Goals as goal

pub returns-in-Some : goal.returns-in-Some
returns-in-Some c =
    added c.args.names.now c.args.name.now c.in-Some.number (numbers_of c.args.self.now) (numbers_of c.add.new.self) c.in-Some.ensures.number c.add.ensures

pub returns-in_default : goal.returns-in_default
returns-in_default c = not_added c.args.names.now c.args.name.now (numbers_of c.args.self.now) c.in_default.ensures.number
