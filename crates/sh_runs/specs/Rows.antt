-- Runs of admitted programs, whose words give fields, come to no utility without a row.
-- POSIX.1-2024, XCU 2.9.1.4 (command search and execution), 2.15 (special built-in utilities), 3
-- (command).
use Rattle.std.specs.Prelude.{◌≡◌, ℕ, Bool, true, not, ◌||◌, List, None, Some, is_some}
use Rattle.std.specs.List.{list_all}
use Rattle.sh_tree.specs.standard.program.Syntax as p
use Rattle.sh_tree.specs.standard.program.Syntax.{Text}
use Rattle.sh_tree.specs.standard.program.Words.{operands_in, static_of, words_in}
use Rattle.sh_runs.specs.Counts.{some_gives_field}
use Rattle.sh_runs.specs.Surroundings.{Located, outside, items_located}
use Rattle.sh_runs.specs.Admitted.{is_admitted}
use Rattle.sh_runs.specs.standard.runs.Environment.{Environment, Frame}
use Rattle.sh_runs.specs.standard.runs.Rows.{has_row}
use Rattle.sh_runs.specs.standard.runs.Worlds.{Process, World, Move, run, start_world}

-- Words that give fields

unfoldable pub text_gives_field : p.Word → Bool
text_gives_field w = not (is_some (static_of w)) || some_gives_field w

-- each word of a simple command that has a static text gives a field, as each word that is read
-- from a text does
unfoldable pub kind_gives_fields : p.Kind → Bool
kind_gives_fields (p.Simple es) = list_all text_gives_field (words_in (operands_in es))
kind_gives_fields _ = true

unfoldable pub command_gives_fields : p.Command → Bool
command_gives_fields (p.command number at kind rs) = kind_gives_fields kind

abbrev pub gives_fields : p.Items → Bool
gives_fields t = list_all (λ (l : Located). command_gives_fields l.command) (items_located outside t)

-- In no run of an admitted program, from a start without functions, does the work of a process come
-- to a utility without a row.
abbrev pub RowsAreThere : Type 0
RowsAreThere =
    (t : p.Items) (e : Environment) (f : Frame) (moves : List Move) (w : World) → is_admitted t ≡ true → gives_fields t ≡ true
    → ((name : Text) → e.functions name ≡ None) → run moves (start_world e f t) ≡ Some w
    → (n : ℕ) (r : Process) → w.processes n ≡ Some r → has_row r.work ≡ true
