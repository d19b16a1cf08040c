use Rattle.std.proofs.Common.{◌≡◌, ◌++◌, drop}
use Rattle.std.specs.List.{flat_map}
use Rattle.sh_domain.specs.Sights as spec
use Rattle.sh_domain.specs.SightWalks.{seen_in}
use Rattle.sh_domain.proofs.sights.+walk.Given as goal

-- In each loop what is found and what is left are the whole.

abbrev pub invariant-add_parts-loop-part : goal.invariant-add_parts-loop-part
invariant-add_parts-loop-part l = seen_in l.found.items ++ flat_map (spec.in_part l.script) (drop l.part-index l.parts) ≡ seen_in l.initial.found.items ++ flat_map (spec.in_part l.script) l.parts

abbrev pub invariant-add_chain-loop-link : goal.invariant-add_chain-loop-link
invariant-add_chain-loop-link l = seen_in l.found.items ++ flat_map (spec.in_step l.script) (drop l.link-index l.rest) ≡ seen_in l.initial.found.items ++ flat_map (spec.in_step l.script) l.rest
