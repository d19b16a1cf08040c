use Rattle.std.proofs.Common.{◌≡◌, ℕ, List, ◌++◌, ◌≤◌, length}
use Rattle.sh_tree.specs.standard.Words.{escaped}
use Rattle.sh_tree.proofs.text.push_escaped.Given as goal

-- what is added and what is left are the whole, and no more is left than there was
pub record Left (added rest old whole : List ℕ) : Type 0 where
  pub text : added ++ escaped rest ≡ old ++ escaped whole
  pub within : length rest ≤ length whole

abbrev pub invariant-loop-rest : goal.invariant-loop-rest
invariant-loop-rest l = Left l.text.items l.rest l.initial.text.items l.inner

abbrev pub decreases-loop-rest : goal.decreases-loop-rest
decreases-loop-rest l = length l.rest
