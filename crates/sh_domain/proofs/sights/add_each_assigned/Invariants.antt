use Rattle.std.proofs.Common.{◌≡◌, ◌++◌, drop}
use Rattle.std.specs.List.{flat_map}
use Rattle.sh_domain.specs.Sights as spec
use Rattle.sh_domain.specs.SightWalks.{seen_in}
use Rattle.sh_domain.proofs.sights.add_each_assigned.Given as goal

-- what is found and what is left are the whole
abbrev pub invariant-loop-word : goal.invariant-loop-word
invariant-loop-word l = seen_in l.found.items ++ flat_map (λ w. spec.assigned_sight l.script w.now) (drop l.word-index l.operands) ≡ seen_in l.initial.found.items ++ flat_map (λ w. spec.assigned_sight l.script w.now) l.operands
