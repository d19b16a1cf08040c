use Rattle.std.proofs.Common.{◌≡◌, ◌++◌, drop}
use Rattle.std.specs.List.{flat_map}
use Rattle.sh_domain.specs.Sights as spec
use Rattle.sh_domain.specs.SightWalks.{seen_in}
use Rattle.sh_domain.proofs.sights.add_elements.Given as goal

-- what is found and what is left are the whole
abbrev pub invariant-loop-element : goal.invariant-loop-element
invariant-loop-element l = seen_in l.found.items ++ flat_map (spec.in_element l.script) (drop l.element-index l.elements) ≡ seen_in l.initial.found.items ++ flat_map (spec.in_element l.script) l.elements
