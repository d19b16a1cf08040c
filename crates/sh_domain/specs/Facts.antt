-- What is surely set.
-- POSIX.1-2024, XCU 2.5.1 (positional parameters), 2.5.3 (shell variables), 2.9.5 (functions):
-- which of them are set at a place, in every run.
use Rattle.std.specs.Prelude.{ℕ, nat_le, min, Bool, true, false, ◌&&◌, ◌||◌, List}
use Rattle.std.specs.List.{list_all}
use Rattle.sh_tree.specs.standard.program.Syntax.{Text}
use Rattle.sh_runs.specs.standard.runs.Environment.{is_one_of}
use Rattle.sh_runs.specs.standard.runs.Worlds.{start_names}

-- The variables that are set, `!` among them, the functions that are defined, and how many
-- positional parameters there are at least.
-- NotReached says that no run comes to the place, so it claims everything.
pub data Facts : Type 0 where
  NotReached : Facts
  Known : (vars functions : Text → Bool) (args : ℕ) → Facts

-- facts as a certificate writes them, by lists of names
pub data Claim : Type 0 where
  Unreached : Claim
  Claimed : (vars functions : List Text) (args : ℕ) → Claim

unfoldable pub facts : Claim → Facts
facts Unreached = NotReached
facts (Claimed vs fs n) = Known (is_one_of vs) (is_one_of fs) n

-- what is claimed is no more than the facts
unfoldable pub within : Claim → Facts → Bool
within c NotReached = true
within Unreached (Known v f a) = false
within (Claimed vs fs n) (Known v f a) = list_all v vs && list_all f fs && nat_le n a

-- what both claim
unfoldable pub meet : Facts → Facts → Facts
meet NotReached g = g
meet (Known v f a) NotReached = Known v f a
meet (Known v f a) (Known w g n) = Known (λ x. v x && w x) (λ x. f x && g x) (min a n)

-- the single things that facts claim: that no run comes here, that a variable is set, that a
-- function is defined, that there are so many positional parameters
pub data Atom : Type 0 where
  Nowhere : Atom
  Variable : (name : Text) → Atom
  Function : (name : Text) → Atom
  Parameters : (count : ℕ) → Atom

unfoldable pub claims : Facts → Atom → Bool
claims NotReached x = true
claims (Known v f a) Nowhere = false
claims (Known v f a) (Variable name) = v name
claims (Known v f a) (Function name) = f name
claims (Known v f a) (Parameters n) = nat_le n a

-- what is declared to be set at the start: these variables, and so many positional parameters at
-- least
pub record Declared : Type 0 where
  pub names : List Text
  pub args : ℕ

-- at the start the declared names are set, and those that every shell sets; no function is defined
unfoldable pub start_facts : Declared → Facts
start_facts d = Known (λ x. is_one_of start_names x || is_one_of d.names x) (λ x. false) d.args
