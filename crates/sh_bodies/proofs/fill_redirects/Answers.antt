use Rattle.std.proofs.Common.{◌≡◌, [], rules, arith, sym, ap, ◌∙◌}
use Rattle.std.proofs.lemmas.Grind.{common_steps}
use Rattle.sh_bodies.specs.Fill.{thread, fill_redirect}
use Rattle.sh_bodies.proofs.FillLemmas.{behind, thread_none}
use Rattle.sh_bodies.proofs.fill_redirects.Goals as goal

pub returns : goal.returns
returns c =
    let none : c.loop-redirect.redirect-iterator.rest.items ≡ [] = first_of (search rules, grind (arith, common_steps)) in
    sym (c.loop-redirect.invariant ∙ ap (λ xs. behind c.loop-redirect.found (thread fill_redirect c.loop-redirect.bodies.items xs)) none ∙ thread_none fill_redirect c.loop-redirect.bodies.items c.loop-redirect.found)
