use Rattle.std.proofs.Common.{◌≡◌, fold, take}
use Rattle.sh_gains.specs.Knowing.{known_of}
use Rattle.sh_gains.specs.Walks as walks
use Rattle.sh_gains.proofs.gains.+gains.Given as goal

-- what is known so far is what the pieces so far leave known
abbrev pub invariant-gain_parts-loop-part : goal.invariant-gain_parts-loop-part
invariant-gain_parts-loop-part l = known_of l.names l.known ≡ fold (walks.part_gained l.script) (known_of l.names l.initial.known) (take l.part-index l.parts)

abbrev pub invariant-gain_operands-loop-link : goal.invariant-gain_operands-loop-link
invariant-gain_operands-loop-link l = known_of l.names l.known ≡ fold (walks.step_gained l.script) (known_of l.names l.initial.known) (take l.link-index l.rest)
