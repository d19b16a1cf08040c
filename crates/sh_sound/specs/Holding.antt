-- When facts are true of a shell.
-- POSIX.1-2024, XCU 2.5 (parameters and variables), 2.9.5 (functions), 2.13 (shell execution
-- environment).
use Rattle.std.specs.Prelude.{◌≡◌, ℕ, ◌≤◌, ◌==◌, Bool, true, false, if◌then◌else◌, List, [], ◌∷◌, length, ◌⊎◌, Option, Some, is_some}
use Rattle.sh_tree.specs.standard.language.Bytes.{is_name}
use Rattle.sh_tree.specs.standard.program.Syntax.{Text, Command}
use Rattle.sh_runs.specs.standard.runs.Environment.{Environment, Frame, is_one_of}
use Rattle.sh_runs.specs.standard.runs.States.{State, Copy}
use Rattle.sh_domain.specs.declared.rule.FlowRule.{FlowRule}
use Rattle.sh_domain.specs.Entries.{Entered, alone, items_entered}
use Rattle.sh_domain.specs.Facts.{Facts, NotReached, Known}
use Rattle.sh_domain.specs.Gains.{Gains, job}
use Rattle.sh_domain.specs.Rules.{defined_by}
use Rattle.sh_domain.specs.Views.{Certificate, Seen, After, Both, if_zero, if_nonzero, view_facts}
use Rattle.sh_domain.specs.Inclusions.{Each, EnteredRules}

-- The variables among these names are set, `!` is if it is named, the functions are defined, and
-- there are so many parameters. What is no name is nothing that a script can use.
pub record HoldKnown (vars defined : Text → Bool) (args : ℕ) (e : Environment) (f : Frame) : Type 0 where
  pub variables : (t : Text) → is_name t ≡ true → vars t ≡ true → is_some (e.variables t) ≡ true
  pub job : vars job ≡ true → e.job ≡ true
  pub functions : (t : Text) → is_name t ≡ true → defined t ≡ true → is_some (e.functions t) ≡ true
  pub parameters : args ≤ length f

-- the facts are true of an environment and its innermost frame; no run comes where nothing is
-- reached
unfoldable pub Holds : Facts → Environment → Frame → Type 0
Holds NotReached e f = ⊥
Holds (Known vars functions args) e f = HoldKnown vars functions args e f

-- these were gained
abbrev pub Has : Gains → Environment → Frame → Type 0
Has g e f = HoldKnown (is_one_of g.names) (λ t. false) g.args e f

-- Every variable with a name that was set still is, every function with one is still defined, and
-- so `!`.
pub record Grows (e e' : Environment) : Type 0 where
  pub variables : (t : Text) → is_name t ≡ true → is_some (e.variables t) ≡ true → is_some (e'.variables t) ≡ true
  pub functions : (t : Text) → is_name t ≡ true → is_some (e.functions t) ≡ true → is_some (e'.functions t) ≡ true
  pub job : e.job ≡ true → e'.job ≡ true

module _ (start : Facts) (c : Certificate) where
  -- a run comes to a place by one of the ways that are seen there
  unfoldable pub OneHolds : Seen → Environment → Frame → Type 0
  OneHolds [] e f = ⊥
  OneHolds (v ∷ vs) e f = Holds (view_facts start c v) e f ⊎ OneHolds vs e f

  -- what is known by the last status
  abbrev pub AfterHolds : ℕ → After → Environment → Frame → Type 0
  AfterHolds status o e f = OneHolds (if status == 0 then if_zero o else if_nonzero o) e f

  -- where the first is true, the second is
  abbrev pub Entails : Seen → Seen → Type 0
  Entails s s' = (e : Environment) (f : Frame) → OneHolds s e f → OneHolds s' e f

  abbrev pub Leads : After → After → Type 0
  Leads o o' = (status : ℕ) (e : Environment) (f : Frame) → AfterHolds status o e f → AfterHolds status o' e f

-- What every command of the script has: its rules and demands hold, the function that it defines is
-- one of the script's, and these have names.
pub record Stands (start : Facts) (c : Certificate) (defined : List Text) (x : Entered) : Type 0 where
  pub rules : EnteredRules start c defined x
  pub listed : (f : Text) → defined_by x.command ≡ Some f → is_one_of defined f ≡ true
  pub named : (f : Text) → is_one_of defined f ≡ true → is_name f ≡ true

-- Words

module _ (start : Facts) (c : Certificate) (defined : List Text) (f : Frame) where
  -- the process of a substitution: it has these functions, and its list is entered where it has
  -- rules
  pub record CopyWell (bodies : Text → Option Command) (x : Copy) : Type 0 where
    pub functions : x.environment.functions ≡ bodies
    pub seen : Seen
    pub holds : OneHolds start c seen x.environment f
    pub rule : FlowRule
    pub rules : Each (Stands start c defined) (items_entered rule alone (Both seen) x.list)

  -- What an expansion does with this frame: it meets no parameter that is not set, unsets nothing,
  -- and defines nothing. Each process that it starts is entered where it has rules. Unless it ends
  -- the process, these are gained.
  pub record Expanded (g : Gains) (s t : State) : Type 0 where
    pub unset : t.unset ≡ s.unset
    pub grows : Grows s.environment t.environment
    pub functions : t.environment.functions ≡ s.environment.functions
    pub copies : (bodies : Text → Option Command) → s.environment.functions ≡ bodies → Each (CopyWell bodies) s.copies → Each (CopyWell bodies) t.copies
    pub gains : t.ended ≡ false → Has g t.environment f
