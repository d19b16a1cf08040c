-- What an expansion has and changes, while it goes through a word.
-- POSIX.1-2024, XCU 2.6 (word expansions), 2.13 (shell execution environment).
use Rattle.std.specs.Prelude.{ℕ, suc, Bool, true, false, List, [], ◌∷◌, ◌++◌}
use Rattle.sh_tree.specs.standard.program.Syntax.{Items}
use Rattle.sh_runs.specs.standard.runs.Environment.{Environment}
use Rattle.sh_runs.specs.standard.runs.Answers.{Given}

-- the process of a substitution (XCU 2.6.3): the copy of the environment that it gets, and its list
pub record Copy : Type 0 where
  pub environment : Environment
  pub list : Items

-- what an expansion has and changes (XCU 2.6)
pub record State : Type 0 where
  pub environment : Environment
  -- the answers that are not taken yet
  pub given : ℕ → Given
  -- the substitutions so far
  pub copies : List Copy
  -- a parameter that is not set was met
  pub unset : Bool
  -- arithmetic met a value that it does not compute with
  pub strays : Bool
  -- the process ends
  pub ended : Bool

-- before an expansion
abbrev pub fresh : Environment → (ℕ → Given) → State
fresh e given = record { environment = e; given = given; copies = []; unset = false; strays = false; ended = false }

-- a parameter that is not set is met
abbrev pub met : State → State
met s = record s { unset = true }

-- the next answer is taken
abbrev pub taken : State → State
taken s = record s { given = λ n. s.given (suc n) }

abbrev pub with_environment : State → Environment → State
with_environment s e = record s { environment = e }

-- the process of a substitution is started (XCU 2.6.3)
abbrev pub started : Copy → State → State
started c s = record s { copies = s.copies ++ c ∷ [] }

-- an error of the expansion ends the process
abbrev pub ending : State → State
ending s = record s { ended = true }

-- arithmetic meets a value that it does not compute with (XCU 2.6.4)
abbrev pub stray : State → State
stray s = record s { strays = true }
