use Rattle.std.proofs.Common.{refl}
use Rattle.sh_facts.specs.CompactFields.{counts_left}
use Rattle.sh_domain.specs.Forms.{whole_line, formed}
use Rattle.sh_facts.proofs.compact_lines.after_compact_counts.Goals as goal

pub returns-in_default : goal.returns-in_default
unfolding counts_left whole_line
returns-in_default c = rw (← c.in_default.ensures.at) refl

pub returns-in-Some-compact_counts_in : goal.returns-in-Some-compact_counts_in
unfolding counts_left whole_line formed
returns-in-Some-compact_counts_in c = rw (← c.in-Some.ensures.at, ← c.in-Some-compact_counts_in.ensures) refl

pub returns-in-None : goal.returns-in-None
unfolding counts_left whole_line formed
returns-in-None c = rw (← c.in-Some.ensures.at, ← c.in-None.ensures) refl
