use Rattle.std.proofs.Common.{◌≡◌, ◌++◌, drop}
use Rattle.std.specs.List.{flat_map}
use Rattle.sh_domain.specs.Sights as spec
use Rattle.sh_domain.specs.SightWalks.{seen_in}
use Rattle.sh_domain.proofs.sights.add_redirects.Given as goal

-- what is found and what is left are the whole
abbrev pub invariant-loop-redirect : goal.invariant-loop-redirect
invariant-loop-redirect l = seen_in l.found.items ++ flat_map (spec.in_redirect l.script) (drop l.redirect-index l.redirects) ≡ seen_in l.initial.found.items ++ flat_map (spec.in_redirect l.script) l.redirects
