use Rattle.std.proofs.Common.{◌≡◌, ℕ, List, drop}
use Rattle.std.specs.List.{list_any}
use Rattle.sh_drafts.specs.Inner as spec
use Rattle.sh_drafts.proofs.inner.elements_have.Given as goal

-- None of those before has one.
abbrev pub invariant-loop-element : goal.invariant-loop-element
invariant-loop-element l = (b : List ℕ) → list_any (spec.element_has b) (drop l.element-index l.elements) ≡ list_any (spec.element_has b) l.elements
