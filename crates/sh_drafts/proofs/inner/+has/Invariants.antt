use Rattle.std.proofs.Common.{◌≡◌, ℕ, List, drop}
use Rattle.std.specs.List.{list_any}
use Rattle.sh_drafts.specs.Inner as spec
use Rattle.sh_drafts.proofs.inner.+has.Given as goal

-- None of those before has one.

abbrev pub invariant-parts_have-loop-part : goal.invariant-parts_have-loop-part
invariant-parts_have-loop-part l = (b : List ℕ) → list_any (spec.part_has b) (drop l.part-index l.parts) ≡ list_any (spec.part_has b) l.parts

abbrev pub invariant-chain_has-loop-link : goal.invariant-chain_has-loop-link
invariant-chain_has-loop-link l = (b : List ℕ) → list_any (spec.step_has b) (drop l.link-index l.rest) ≡ list_any (spec.step_has b) l.rest
