use Rattle.std.proofs.Common.{◌≡◌, fold, take}
use Rattle.sh_operands.specs.Fields as spec
use Rattle.sh_operands.proofs.counts.count_elements.Given as goal

-- what is counted so far is what the elements so far give
abbrev pub invariant-loop-element : goal.invariant-loop-element
invariant-loop-element l = spec.counting l.left l.total ≡ fold (spec.element_counted l.script) (spec.counting l.skipped spec.no_fields) (take l.element-index l.elements)
