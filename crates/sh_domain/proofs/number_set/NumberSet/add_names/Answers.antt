use Rattle.sh_domain.specs.NumberSets.{numbers_of}
use Rattle.sh_domain.proofs.KnowledgeLemmas.{numbered_only}
use Rattle.sh_domain.proofs.number_set.NumberSet.add_names.Goals as goal

pub loop-text-init : goal.loop-text-init
loop-text-init c t = numbered_only c.args.names.now (numbers_of c.args.self.now) t
