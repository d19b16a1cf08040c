-- What holds of runs and of fields, whatever the rules of a checker are.
-- POSIX.1-2024, XCU 2.6.5 (field splitting), 2.6.6 (pathname expansion), 2.9 (shell commands), 2.13
-- (shell execution environment).
use Rattle.std.specs.Prelude.{◌≡◌, ℕ, ◌≤◌, true, false, List, [], length, map, codes, Some, is_some}
use Rattle.sh_tree.specs.standard.program.Syntax.{Text, Items, Word}
use Rattle.sh_runs.specs.standard.runs.Environment.{Environment, Frame, separators}
use Rattle.sh_runs.specs.standard.runs.Answers.{Answer, Given, Directory}
use Rattle.sh_runs.specs.standard.runs.States.{State, fresh}
use Rattle.sh_runs.specs.standard.runs.Expansion.{Quoted, Unquoted, Piece, Bytes, Outcome, in_fields, expand}
use Rattle.sh_runs.specs.standard.runs.Fields.{fields, splits}
use Rattle.sh_runs.specs.standard.runs.Worlds.{Process, World, Move, run, step, start_world}
use Rattle.sh_runs.specs.Counts.{count_of, least_fields}
use Rattle.sh_runs.specs.Quoting.{are_whole, word_begins_pattern, word_mentions, is_about_separators, is_ifs, is_steady}

-- Runs do not get stuck: if a process lives and arithmetic has not ended the run, some process has
-- a step, whatever the answer is.
-- The law of rows says which steps a row describes.
abbrev pub RunsGoOn : Type 0
RunsGoOn =
    (t : Items) (e : Environment) (f : Frame) (moves : List Move) (w : World) → run moves (start_world e f t) ≡ Some w → w.over ≡ false
    → (p : ℕ) → is_some (w.processes p) ≡ true → (q : ℕ) × ((a : Answer) → is_some (step w (record { process = q; answer = a })) ≡ true)

-- If arithmetic has not ended the run, each live process that nobody alive has as its parent has a
-- step, whatever the answer is.
abbrev pub AwakeGoOn : Type 0
AwakeGoOn =
    (t : Items) (e : Environment) (f : Frame) (moves : List Move) (w : World) → run moves (start_world e f t) ≡ Some w → w.over ≡ false
    → (p : ℕ) → is_some (w.processes p) ≡ true → ((q : ℕ) (r : Process) → w.processes q ≡ Some r → r.parent ≡ Some p → ⊥)
    → (a : Answer) → is_some (step w (record { process = p; answer = a })) ≡ true

-- what an expansion outside quotes gives, taken as quoted
unfoldable pub as_quoted : Piece → Piece
as_quoted (Bytes Unquoted t) = Bytes Quoted t
as_quoted x = x

-- If the pieces of a word have no Split event, its fields are those without splitting, each
-- expansion outside quotes taken as quoted.
abbrev pub FieldsStandWhole : Type 0
FieldsStandWhole =
    (ifs : Text) (directory : Directory) (ps : List Piece) → splits ifs ps ≡ false → fields ifs directory ps ≡ fields [] directory (map as_quoted ps)

-- two environments that differ in IFS alone
pub record DifferInIfs (e d : Environment) : Type 0 where
  pub variables : (t : Text) → is_ifs t ≡ false → e.variables t ≡ d.variables t
  pub functions : e.functions ≡ d.functions
  pub job : e.job ≡ d.job

-- the fields of a word whose fields are split
abbrev pub fields_of : Directory → Outcome → List Text
fields_of directory o = fields (separators o.state.environment) directory o.pieces

-- Let the expansions of a word outside quotes give numbers or be quoted alternatives. Let it have
-- no unquoted `*`, `?` or `[`, and name neither IFS nor `$*`. Then it has the same fields whatever
-- IFS and the directory are, as long as IFS separates no numbers.
abbrev pub FieldsStandSteady : Type 0
FieldsStandSteady =
    (f : Frame) (status : ℕ) (w : Word) (e d : Environment) (given : ℕ → Given) (here there : Directory)
    → are_whole w ≡ true → word_begins_pattern w ≡ false → word_mentions is_about_separators w ≡ false
    → DifferInIfs e d → is_steady (e.variables (codes "IFS")) ≡ true → is_steady (d.variables (codes "IFS")) ≡ true
    → fields_of here (expand f status in_fields w (fresh e given)) ≡ fields_of there (expand f status in_fields w (fresh d given))

-- A word that has no Split event, and whose expansion does not end the process, gives at least as
-- many fields as its form counts.
abbrev pub OperandsCount : Type 0
OperandsCount =
    (f : Frame) (status : ℕ) (w : Word) (s : State) (directory : Directory)
    → let o = expand f status in_fields w s in
    o.state.ended ≡ false → splits (separators o.state.environment) o.pieces ≡ false → least_fields f (count_of w) ≤ length (fields_of directory o)
