-- How much facts claim of so many names: what falls when a claim is lowered.
-- The standard has no such thing.
use Rattle.std.specs.Prelude.{◌≡◌, ℕ, zero, suc, ◌+◌, ◌<◌, ◌≤◌, Bool, true, cond}
use Rattle.sh_drafts.specs.Facts.{Facts, NotReached, Known}

abbrev pub most : ℕ
most = 65535

-- how many numbers below n pass the test
unfoldable pub count : ℕ → (ℕ → Bool) → ℕ
count zero p = 0
count (suc n) p = count n p + cond (p n) 1 0

-- how much facts claim, of so many names
unfoldable pub rank : ℕ → Facts → ℕ
rank names NotReached = names + names + most + 1
rank names (Known v f a) = count names v + count names f + a

-- only names below a number are known, and no more parameters than are counted
pub record AreNumbers (names : ℕ) (v f : ℕ → Bool) (a : ℕ) : Type 0 where
  pub vars : (x : ℕ) → v x ≡ true → x < names
  pub functions : (x : ℕ) → f x ≡ true → x < names
  pub args : a ≤ most

unfoldable pub IsNumbered : ℕ → Facts → Type 0
IsNumbered names NotReached = Unit {0}
IsNumbered names (Known v f a) = AreNumbers names v f a
