-- What every script that is read has: its program is formed, its words give fields, its runs have
-- rows, each number of it occurs once, and its names are names.
-- POSIX.1-2024, XCU 2.10 (shell grammar).
use Rattle.std.specs.Prelude.{◌≡◌, ◌≤◌, ℕ, true, List, length, Some, None, Ok, map}
use Rattle.std.specs.List.{list_all}
use Rattle.sh_tree.specs.declared.limits.TheConstants.{MAX_COMMANDS}
use Rattle.sh_tree.specs.declared.tree.Script.{Script}
use Rattle.sh_tree.specs.standard.language.Bytes.{is_name}
use Rattle.sh_tree.specs.standard.language.Reading.{Reads, ReadsWithin}
use Rattle.sh_tree.specs.standard.program.Syntax.{Text}
use Rattle.sh_tree.specs.standard.program.Trees.{script_of}
use Rattle.sh_reads.specs.Spots.{EachOnce}
use Rattle.sh_runs.specs.Admitted.{is_admitted}
use Rattle.sh_runs.specs.Calls.{table_of}
use Rattle.sh_runs.specs.Numbering.{is_numbered}
use Rattle.sh_runs.specs.Rows.{gives_fields}
use Rattle.sh_runs.specs.Sites.{site_of}
use Rattle.sh_runs.specs.Surroundings.{Located, outside, items_located}
use Rattle.sh_runs.specs.standard.runs.Environment.{Environment, Frame}
use Rattle.sh_runs.specs.standard.runs.Rows.{has_row}
use Rattle.sh_runs.specs.standard.runs.Worlds.{Process, World, Move, run, start_world}
use Rattle.sh_domain.specs.Facts.{Declared}
use Rattle.sh_domain.specs.Forms.{is_variable}
use Rattle.sh_domain.specs.Inclusions.{is_formed}
use Rattle.sh_domain.specs.Names.{Numbers}

-- whatever text is read as whatever tree
abbrev pub ReadIsFormed : Type 0
ReadIsFormed = (b : List ℕ) (t : Script) → Reads b t → is_formed (script_of b t) ≡ true

-- so each word of a simple command that has a static text gives a field
abbrev pub ReadGivesFields : Type 0
ReadGivesFields = (b : List ℕ) (t : Script) → Reads b t → gives_fields (script_of b t) ≡ true

-- and if it is admitted, no run of it, from a start without functions, comes to a utility without a
-- row
abbrev pub ReadHasRows : Type 0
ReadHasRows =
    (b : List ℕ) (t : Script) → Reads b t → is_admitted (script_of b t) ≡ true
    → (e : Environment) (f : Frame) (moves : List Move) (w : World)
    → ((name : Text) → e.functions name ≡ None) → run moves (start_world e f (script_of b t)) ≡ Some w
    → (n : ℕ) (r : Process) → w.processes n ≡ Some r → has_row r.work ≡ true

abbrev pub command_number : Located → ℕ
command_number l = (site_of l).number

-- no two of its commands have one number
abbrev pub ReadNumbersDiffer : Type 0
ReadNumbersDiffer = (b : List ℕ) (t : Script) → Reads b t → EachOnce (map command_number (items_located outside (script_of b t)))

-- and the test of that holds
abbrev pub ReadIsNumbered : Type 0
ReadIsNumbered = (b : List ℕ) (t : Script) → Reads b t → is_numbered (script_of b t) ≡ true

-- Within the limits the call table has no more commands than a script may have.
abbrev pub ReadHasFewCommands : Type 0
ReadHasFewCommands = (b : List ℕ) (t : Script) → ReadsWithin b t → length (table_of b t).rows ≤ MAX_COMMANDS

-- If each declared name is a name, each that is numbered is one or `!`.
abbrev pub ReadNamesVariables : Type 0
ReadNamesVariables =
    (b : List ℕ) (t : Script) (d : Declared) (names : List Text) → Reads b t → list_all is_name d.names ≡ true → Numbers b t d (Ok names)
    → list_all is_variable names ≡ true
