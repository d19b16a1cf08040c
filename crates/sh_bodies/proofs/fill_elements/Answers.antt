use Rattle.std.proofs.Common.{◌≡◌, [], rules, arith, sym, ap, ◌∙◌}
use Rattle.std.proofs.lemmas.Grind.{common_steps}
use Rattle.sh_bodies.specs.Fill.{thread, fill_element}
use Rattle.sh_bodies.proofs.FillLemmas.{behind, thread_none}
use Rattle.sh_bodies.proofs.fill_elements.Goals as goal

pub returns : goal.returns
returns c =
    let none : c.loop-element.element-iterator.rest.items ≡ [] = first_of (search rules, grind (arith, common_steps)) in
    sym (c.loop-element.invariant ∙ ap (λ xs. behind c.loop-element.found (thread fill_element c.loop-element.bodies.items xs)) none ∙ thread_none fill_element c.loop-element.bodies.items c.loop-element.found)
