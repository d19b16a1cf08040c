-- What whole reads and writes moved.
use Rattle.std.proofs.Common.{◌≡◌, ℕ, arith}
use Rattle.std.proofs.lemmas.Grind.{common_steps}
use Rattle.sh_answers.specs.Ends.{with_moved}
use Rattle.sh_answers.specs.declared.ends.Counts.{Counts}

-- a call that moved bytes leaves the counts
pub with_moved-some : (n room : ℕ) (c : Counts) → (n ≡ 0 → ⊥) → with_moved n room c ≡ c
with_moved-some n room c h = grind (arith, common_steps)
