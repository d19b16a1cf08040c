use Rattle.std.proofs.Common.{◌≡◌}
use Rattle.sh_bodies.specs.Fill.{thread, fill_element}
use Rattle.sh_bodies.proofs.FillLemmas.{behind}
use Rattle.sh_bodies.proofs.fill_elements.Given as goal

abbrev pub invariant-loop-element : goal.invariant-loop-element
invariant-loop-element l = thread fill_element l.fn.bodies.items l.fn.elements ≡ behind l.found (thread fill_element l.bodies.items l.element-iterator.rest.items)
