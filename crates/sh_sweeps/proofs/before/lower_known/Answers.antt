use Rattle.std.proofs.Common.{subst}
use Rattle.sh_domain.specs.Knowledge.{knowledge_facts}
use Rattle.sh_sweeps.specs.Sweeps.{ClaimsWithin}
use Rattle.sh_sweeps.proofs.before.lower_known.Goals as goal

pub lower_part-requires-clause-stands : goal.lower_part-requires-clause-stands
unfolding knowledge_facts
lower_part-requires-clause-stands c =
    let s = c.args.subject.now in
    subst (λ k. ClaimsWithin s c.args.part c.args.number (knowledge_facts s.names.now k)) c.in-Known.is c.requires.stands
