use Rattle.std.proofs.Common.{sym, ◌∙◌}
use Rattle.sh_domain.specs.NumberSets.{numbers_of}
use Rattle.sh_drafts.proofs.NumberLemmas.{name_added, name_unknown}
use Rattle.sh_drafts.proofs.sights.add_name.Goals as goal

pub returns-in-Some : goal.returns-in-Some
returns-in-Some c =
    name_added c.args.names.now c.requires c.args.name.now c.in-Some.number (numbers_of c.args.set.now) (numbers_of c.add.new.self) (sym c.number.ensures.number ∙ c.in-Some.is) c.add.ensures

pub returns-in-None : goal.returns-in-None
returns-in-None c = name_unknown c.args.names.now c.requires c.args.name.now (numbers_of c.args.set.now) (sym c.number.ensures.number ∙ c.in-None.is)
