use Rattle.std.proofs.Common.{◌≡◌, length, false}
use Rattle.sh_domain.specs.Sights as spec
use Rattle.sh_domain.specs.SightWalks.{seen_in}
use Rattle.sh_domain.proofs.operands.read_behind.Given as goal

-- what is after the options of what is left is what is after all
abbrev pub invariant-loop-operands : goal.invariant-loop-operands
invariant-loop-operands l = spec.read_behind l.takes (seen_in l.operands) ≡ spec.read_behind false (seen_in l.initial.operands)

abbrev pub decreases-loop-operands : goal.decreases-loop-operands
decreases-loop-operands l = length l.operands
