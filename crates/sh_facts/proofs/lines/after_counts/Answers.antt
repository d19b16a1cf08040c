use Rattle.std.proofs.Common.{refl}
use Rattle.sh_facts.specs.Fields.{counts_left}
use Rattle.sh_domain.specs.Forms.{whole_line, formed}
use Rattle.sh_facts.proofs.lines.after_counts.Goals as goal

pub returns-in_default : goal.returns-in_default
unfolding counts_left whole_line
returns-in_default c = rw (← c.in_default.ensures.at) refl

pub returns-in-Some-counts_in : goal.returns-in-Some-counts_in
unfolding counts_left whole_line formed
returns-in-Some-counts_in c = rw (← c.in-Some.ensures.at, ← c.in-Some-counts_in.ensures) refl

pub returns-in-None : goal.returns-in-None
unfolding counts_left whole_line formed
returns-in-None c = rw (← c.in-Some.ensures.at, ← c.in-None.ensures) refl
