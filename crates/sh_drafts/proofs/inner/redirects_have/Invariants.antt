use Rattle.std.proofs.Common.{◌≡◌, ℕ, List, drop}
use Rattle.std.specs.List.{list_any}
use Rattle.sh_drafts.specs.Inner as spec
use Rattle.sh_drafts.proofs.inner.redirects_have.Given as goal

-- None of those before has one.
abbrev pub invariant-loop-redirect : goal.invariant-loop-redirect
invariant-loop-redirect l = (b : List ℕ) → list_any (λ r. spec.target_has b r.target) (drop l.redirect-index l.redirects) ≡ list_any (λ r. spec.target_has b r.target) l.redirects
