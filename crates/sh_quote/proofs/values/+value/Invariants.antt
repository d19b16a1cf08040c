use Rattle.std.proofs.Common.{◌≡◌, drop}
use Rattle.std.specs.List.{list_all}
use Rattle.sh_quote.specs.Values as spec
use Rattle.sh_quote.proofs.values.+value.Given as goal

-- All of those before are.

abbrev pub invariant-parts_are_steady-loop-part : goal.invariant-parts_are_steady-loop-part
invariant-parts_are_steady-loop-part l = list_all (spec.part_steady l.script) (drop l.part-index l.parts) ≡ list_all (spec.part_steady l.script) l.parts
