use Rattle.std.proofs.Common.{refl}
use Rattle.sh_domain.specs.CompactForms.{begins_compact}
use Rattle.sh_facts.proofs.compact_lines.is_compact.Goals as goal

pub returns-in-Some : goal.returns-in-Some
unfolding begins_compact
returns-in-Some c = rw (← c.in-Some.ensures.at) c.is_first.ensures

pub returns-in-None : goal.returns-in-None
unfolding begins_compact
returns-in-None c = rw (← c.in-None.ensures.at) refl
