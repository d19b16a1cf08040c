-- Which scripts are admitted, and which certificate of one is the greatest that keeps the flow
-- rules.
-- POSIX.1-2024, XCU 2.3 (a text has one reading); of certificates the standard says nothing.
use Rattle.std.specs.Prelude.{◌≡◌, ℕ, true, Bool, List, [], length, None, Ok}
use Rattle.sh_tree.specs.Answers.{Parses}
use Rattle.sh_tree.specs.declared.tree.Script.{Script}
use Rattle.sh_tree.specs.standard.program.Syntax.{Text}
use Rattle.sh_tree.specs.standard.program.Trees.{script_of}
use Rattle.sh_runs.specs.Calls.{table_of}
use Rattle.sh_runs.specs.Profile.{first_refused}
use Rattle.sh_domain.specs.Facts.{Declared, start_facts}
use Rattle.sh_domain.specs.Faults.{faults}
use Rattle.sh_domain.specs.Names.{Numbers}
use Rattle.sh_domain.specs.Order.{IsBelow}
use Rattle.sh_domain.specs.Reading.{AreLoops, fits}
use Rattle.sh_domain.specs.Sheets.{Sheet, certificate_of}
use Rattle.sh_domain.specs.Spelling.{IsSheet}
use Rattle.sh_domain.specs.Views.{Certificate}

-- The tree is the one reading of the text, within the limits; no command of it is refused; and it
-- has these names, no more than may be.
pub record IsAdmitted (b : List ℕ) (d : Declared) (t : Script) (names : List Text) : Type 0 where
  pub reading : Parses b (Ok t)
  pub profile : first_refused (script_of b t) ≡ None
  pub numbered : Numbers b t d (Ok names)

-- the functions of a script, in the order of their first definitions
abbrev pub functions_in : List ℕ → Script → List Text
functions_in b t = (table_of b t).functions.names

-- The certificate has as many commands and functions as the script, heads at its loops alone, and
-- no other names than these.
pub record Fits (b : List ℕ) (t : Script) (names : List Text) (c : Sheet) : Type 0 where
  pub loops : List Bool
  pub are_loops : AreLoops t loops
  pub fit : fits names loops (length (functions_in b t)) c ≡ true

-- what the certificate claims at each place of the script
abbrev pub claims_in : List ℕ → Script → Sheet → Certificate
claims_in b t c = certificate_of (functions_in b t) c

-- no flow rule is broken
abbrev pub KeepsRules : List ℕ → Declared → Script → Sheet → Type 0
KeepsRules b d t c = faults (start_facts d) (claims_in b t c) (script_of b t) ≡ []

-- The certificate fits, breaks no rule, and claims at each place what any other such one does. No
-- function drops more by it. Its names are as its text has them.
pub record IsGreatest (b : List ℕ) (d : Declared) (t : Script) (names : List Text) (c : Sheet) : Type 0 where
  pub fit : Fits b t names c
  pub rules : KeepsRules b d t c
  pub above : (other : Sheet) → Fits b t names other → KeepsRules b d t other → IsBelow (claims_in b t other) (claims_in b t c)
  pub spelled : IsSheet c
