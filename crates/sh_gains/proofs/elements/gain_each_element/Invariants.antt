use Rattle.std.proofs.Common.{◌≡◌, fold, take}
use Rattle.sh_gains.specs.Knowing.{known_of}
use Rattle.sh_gains.specs.Walks as walks
use Rattle.sh_gains.proofs.elements.gain_each_element.Given as goal

-- what is known so far is what the pieces so far leave known
abbrev pub invariant-loop-element : goal.invariant-loop-element
invariant-loop-element l = known_of l.names l.known ≡ fold (walks.element_gained l.script) (known_of l.names l.initial.known) (take l.element-index l.elements)
