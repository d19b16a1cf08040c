use Rattle.std.proofs.Common.{refl}
use Rattle.sh_facts.specs.CompactFields.{start_left}
use Rattle.sh_domain.specs.Forms.{whole_line, formed}
use Rattle.sh_facts.proofs.compact_lines.after_start.Goals as goal

pub returns-in_default : goal.returns-in_default
unfolding start_left whole_line
returns-in_default c = rw (← c.in_default.ensures.at) refl

pub returns-in-Some-start_in : goal.returns-in-Some-start_in
unfolding start_left whole_line formed
returns-in-Some-start_in c = rw (← c.in-Some.ensures.at, ← c.in-Some-start_in.ensures) refl

pub returns-in-None : goal.returns-in-None
unfolding start_left whole_line formed
returns-in-None c = rw (← c.in-Some.ensures.at, ← c.in-None.ensures) refl
