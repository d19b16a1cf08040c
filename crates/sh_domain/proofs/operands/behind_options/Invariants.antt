use Rattle.std.proofs.Common.{◌≡◌, length}
use Rattle.sh_domain.specs.Sights as spec
use Rattle.sh_domain.specs.SightWalks.{seen_in}
use Rattle.sh_domain.proofs.operands.behind_options.Given as goal

-- what is after the options of what is left is what is after all
abbrev pub invariant-loop-operands : goal.invariant-loop-operands
invariant-loop-operands l = spec.behind_options (seen_in l.operands) ≡ spec.behind_options (seen_in l.initial.operands)

abbrev pub decreases-loop-operands : goal.decreases-loop-operands
decreases-loop-operands l = length l.operands
