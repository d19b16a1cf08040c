-- What the rules of quoting are good for: no run gives an expansion's value to splitting or
-- pathname expansion that could change it.
-- POSIX.1-2024, XCU 2.6.5 (field splitting), 2.6.6 (pathname expansion).
use Rattle.std.specs.Prelude.{◌≡◌, ℕ, true, false, List, [], Some}
use Rattle.sh_tree.specs.declared.tree.Script.{Script}
use Rattle.sh_tree.specs.standard.language.Reading.{Reads}
use Rattle.sh_tree.specs.standard.program.Syntax.{Text, Items}
use Rattle.sh_tree.specs.standard.program.Trees.{script_of}
use Rattle.sh_runs.specs.Admitted.{is_admitted}
use Rattle.sh_runs.specs.Rows.{gives_fields}
use Rattle.sh_runs.specs.standard.runs.Environment.{Environment, Frame}
use Rattle.sh_runs.specs.standard.runs.Worlds.{World, Move, run, has_unset_event, has_split_event, start_world, IsStart}
use Rattle.sh_quote.specs.Places.{unquoted}

-- Let a program be admitted, its words give fields as words that are read do, and no place be
-- reported. Then in every run from a start that a policy allows, a step that expands no unset
-- parameter has no Split event.
abbrev pub QuotingSuffices : Type 0
QuotingSuffices =
    (t : Items) → is_admitted t ≡ true → gives_fields t ≡ true → unquoted t ≡ []
    → (names : List Text) (args : ℕ) (e : Environment) (f : Frame) → IsStart names args e f
    → (moves : List Move) (w : World) → run moves (start_world e f t) ≡ Some w
    → (m : Move) → has_unset_event w m ≡ false → has_split_event w m ≡ false

-- So it is of every script that is read and admitted.
abbrev pub QuotingSufficesForScripts : Type 0
QuotingSufficesForScripts =
    (b : List ℕ) (t : Script) → Reads b t → is_admitted (script_of b t) ≡ true → unquoted (script_of b t) ≡ []
    → (names : List Text) (args : ℕ) (e : Environment) (f : Frame) → IsStart names args e f
    → (moves : List Move) (w : World) → run moves (start_world e f (script_of b t)) ≡ Some w
    → (m : Move) → has_unset_event w m ≡ false → has_split_event w m ≡ false
