-- What an accepted certificate is good for. The script has one reading, and no run of it expands an
-- unset parameter without a default or splits a value.
-- POSIX.1-2024, XCU 2.3 (token recognition), 2.10 (shell grammar), 2.6.2 (parameter expansion),
-- 2.6.5 (field splitting), 2.6.6 (pathname expansion), 2.15 (special built-in utilities).
use Rattle.std.specs.Prelude.{◌≡◌, ℕ, true, false, List, Some, Ok}
use Rattle.std.specs.List.{list_all}
use Rattle.sh_tree.specs.declared.tree.Script.{Script}
use Rattle.sh_tree.specs.standard.language.Bytes.{is_name}
use Rattle.sh_tree.specs.standard.language.Reading.{Reads}
use Rattle.sh_tree.specs.standard.program.Syntax.{Text}
use Rattle.sh_tree.specs.standard.program.Trees.{script_of}
use Rattle.sh_runs.specs.standard.runs.Environment.{Environment, Frame}
use Rattle.sh_runs.specs.standard.runs.Rows.{has_row}
use Rattle.sh_runs.specs.standard.runs.Worlds.{World, Process, Move, run, has_unset_event, has_split_event, start_world, IsStart}
use Rattle.sh_domain.specs.Facts.{Declared}
use Rattle.sh_domain.specs.Sheets.{Sheet}
use Rattle.sh_answers.specs.declared.verdict.Verdict.TheVariants.{Pass}
use Rattle.sh_accept.specs.Accepted.{IsAccepted}
use Rattle.sh_accept.specs.Answers.{Checks, Lints}

-- In no run of the script has a step an event. This holds from any start that the policy allows,
-- whatever the results, the choices and the order of the processes.
abbrev pub HasNoEvent : List ℕ → Declared → Script → Type 0
HasNoEvent b d t =
    (e : Environment) (f : Frame) → IsStart d.names d.args e f
    → (moves : List Move) (w : World) → run moves (start_world e f (script_of b t)) ≡ Some w
    → (m : Move) → (has_unset_event w m ≡ false) × (has_split_event w m ≡ false)

-- Nor does the work of a process come to a utility of which the runs do not say what it does, such
-- as `eval`.
abbrev pub HasRows : List ℕ → Declared → Script → Type 0
HasRows b d t =
    (e : Environment) (f : Frame) → IsStart d.names d.args e f
    → (moves : List Move) (w : World) → run moves (start_world e f (script_of b t)) ≡ Some w
    → (n : ℕ) (r : Process) → w.processes n ≡ Some r → has_row r.work ≡ true

-- the text has one reading, no run of that has an event, and the runs say what it does
pub record IsSafe (b : List ℕ) (d : Declared) : Type 0 where
  pub tree : Script
  pub reads : Reads b tree
  pub only : (u : Script) → Reads b u → u ≡ tree
  pub runs : HasNoEvent b d tree
  pub rows : HasRows b d tree

-- If a certificate is accepted, for names that a policy can declare, the script is safe. So it is
-- if a check or a lint passes.
pub record Headline : Type 0 where
  pub accepted : (b : List ℕ) (d : Declared) (c : Sheet) → list_all is_name d.names ≡ true → IsAccepted b d c → IsSafe b d
  pub checked : (b : List ℕ) (d : Declared) (text : Text) → list_all is_name d.names ≡ true → Checks b d text (Ok Pass) → IsSafe b d
  pub linted : (b : List ℕ) (d : Declared) → list_all is_name d.names ≡ true → Lints b d (Ok Pass) → IsSafe b d
