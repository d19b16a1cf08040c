-- What is surely set, by the numbers of names.
-- POSIX.1-2024, XCU 2.5.1 (positional parameters), 2.5.3 (shell variables), 2.9.5 (functions):
-- which of them are set at a place, in every run.
use Rattle.std.specs.Prelude.{◌≡◌, ℕ, nat_le, min, Bool, true, false, ◌&&◌}

-- The variables that are set, the functions that are defined, and how many positional parameters
-- there are at least.
-- NotReached says that no run comes to the place, so it claims everything.
pub data Facts : Type 0 where
  NotReached : Facts
  Known : (vars functions : ℕ → Bool) (args : ℕ) → Facts

-- the single things that facts claim: that no run comes here, that a variable is set, that a
-- function is defined, that there are so many positional parameters
pub data Atom : Type 0 where
  Nowhere : Atom
  Variable : (name : ℕ) → Atom
  Function : (name : ℕ) → Atom
  Parameters : (count : ℕ) → Atom

unfoldable pub claims : Facts → Atom → Bool
claims NotReached x = true
claims (Known v f a) Nowhere = false
claims (Known v f a) (Variable name) = v name
claims (Known v f a) (Function name) = f name
claims (Known v f a) (Parameters n) = nat_le n a

-- all that the first claims the second claims
pub record IsWithin (f g : Facts) : Type 0 where
  pub claimed : (x : Atom) → claims f x ≡ true → claims g x ≡ true

-- all names, and so many parameters: what leaves no more of a claim than so many
abbrev pub with_args : ℕ → Facts
with_args a = Known (λ x. true) (λ x. true) a

-- what both claim
unfoldable pub meet : Facts → Facts → Facts
meet NotReached g = g
meet (Known v f a) NotReached = Known v f a
meet (Known v f a) (Known w g n) = Known (λ x. v x && w x) (λ x. f x && g x) (min a n)
