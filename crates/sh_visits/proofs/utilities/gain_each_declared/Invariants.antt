use Rattle.std.proofs.Common.{◌≡◌, fold, take}
use Rattle.sh_rules.specs.Elements as spec
use Rattle.sh_rules.specs.Walks.{facts_in, setting}
use Rattle.sh_visits.proofs.utilities.gain_each_declared.Given as goal

-- what is known so far is what the elements so far leave known
abbrev pub invariant-loop-element : goal.invariant-loop-element
invariant-loop-element l = facts_in (setting l.claims) l.known ≡ fold (spec.declared_gained (setting l.claims)) (facts_in (setting l.claims) l.initial.known) (take l.element-index l.elements)
