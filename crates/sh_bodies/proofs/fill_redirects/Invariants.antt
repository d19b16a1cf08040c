use Rattle.std.proofs.Common.{◌≡◌}
use Rattle.sh_bodies.specs.Fill.{thread, fill_redirect}
use Rattle.sh_bodies.proofs.FillLemmas.{behind}
use Rattle.sh_bodies.proofs.fill_redirects.Given as goal

abbrev pub invariant-loop-redirect : goal.invariant-loop-redirect
invariant-loop-redirect l = thread fill_redirect l.fn.bodies.items l.fn.redirects ≡ behind l.found (thread fill_redirect l.bodies.items l.redirect-iterator.rest.items)
