use Rattle.std.proofs.Common.{◌≡◌, fold, take}
use Rattle.sh_rules.specs.Walks as walks
use Rattle.sh_rules.specs.Steps as steps
use Rattle.sh_walks.proofs.walk.gain_operands.Given as goal

-- what is known so far is what the words so far leave known
abbrev pub invariant-loop-element : goal.invariant-loop-element
invariant-loop-element l = walks.facts_in (walks.setting l.claims) l.known ≡ fold (steps.element_gained (walks.setting l.claims)) (walks.facts_in (walks.setting l.claims) l.initial.known) (take l.element-index l.elements)
