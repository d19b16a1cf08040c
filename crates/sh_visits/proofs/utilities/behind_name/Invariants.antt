use Rattle.std.proofs.Common.{◌≡◌, ℕ, List, length}
use Rattle.sh_tree.specs.Lists.{elements_from}
use Rattle.sh_rules.specs.TextBounds as spec
use Rattle.sh_visits.proofs.utilities.behind_name.Given as goal

-- the name is in what is left
abbrev pub invariant-loop-rest : goal.invariant-loop-rest
invariant-loop-rest l = (b : List ℕ) → spec.behind_name (elements_from b l.rest) ≡ spec.behind_name (elements_from b l.elements)

abbrev pub decreases-loop-rest : goal.decreases-loop-rest
decreases-loop-rest l = length l.rest
