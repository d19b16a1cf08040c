use Rattle.std.proofs.Common.{◌≡◌, drop}
use Rattle.std.specs.List.{list_any}
use Rattle.sh_operands.specs.Looks as spec
use Rattle.sh_operands.proofs.looks.+look.Given as goal

-- None of those before has it.

abbrev pub invariant-parts_have-loop-part : goal.invariant-parts_have-loop-part
invariant-parts_have-loop-part l = list_any (spec.has_in_part l.look l.quoted l.script) (drop l.part-index l.parts) ≡ list_any (spec.has_in_part l.look l.quoted l.script) l.parts

abbrev pub invariant-chain_has-loop-link : goal.invariant-chain_has-loop-link
invariant-chain_has-loop-link l = list_any (spec.has_in_step l.look l.script) (drop l.link-index l.rest) ≡ list_any (spec.has_in_step l.look l.script) l.rest
