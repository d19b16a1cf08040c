-- Clauses of private functions: the rows and the definitions that a walk finds.
-- POSIX.1-2024, XCU 2.9.1 (simple commands), 2.9.5 (function definitions).
use Rattle.std.specs.Prelude.{ℕ, List, [], ◌∷◌, ◌++◌, map, Option, option_map}
use Rattle.std.specs.List.{filter_map}
use Rattle.sh_tree.specs.declared.tree.Command.{Command, out-Command}
use Rattle.sh_tree.specs.standard.program.Syntax.{Text}
use Rattle.sh_tree.specs.standard.Tree.{text_of}
use Rattle.sh_runs.specs.Calls.{Row, Functions, defined, row_of}
use Rattle.sh_table.specs.KeptTable.{row_in, with_definition}
use Rattle.sh_runs.specs.Sites.{Form, Site, site_of, statics}
use Rattle.sh_runs.specs.Surroundings.{Located}
use Rattle.sh_table.specs.Walks.{form_in}
use Rattle.sh_table.specs.declared.functions.Definition as declared
use Rattle.sh_table.specs.declared.table.Row as row

-- a command's number, and the name that it defines
abbrev pub Definition : Type 0
Definition = ℕ × Text

pub record Found : Type 0 where
  pub rows : List Row
  pub definitions : List Definition

abbrev pub definition_at : ℕ → Form → Option Definition
definition_at n f = option_map (λ t. (n, t)) (defined f)

-- what a command defines
unfoldable pub definition_of : Site → Option Definition
definition_of s = definition_at s.number s.form

-- with one command more
unfoldable pub with_command : Found → Located → Found
with_command k l = record { rows = k.rows ++ row_of (site_of l) ∷ []; definitions = k.definitions ++ filter_map definition_of (site_of l ∷ []) }

-- the functions with one definition more
abbrev pub with_defined : Functions → Definition → Functions
with_defined f d = with_definition f d.1 d.0

-- what is kept

abbrev pub definition_in : List ℕ → declared.Definition → Definition
definition_in b d = (d.number, text_of b d.name)

abbrev pub found_in : List ℕ → List row.Row → List declared.Definition → Found
found_in b rs ds = record { rows = map (row_in b) rs; definitions = map (definition_in b) ds }

-- what is read off one command

unfoldable pub row_at : List ℕ → Command → Row
row_at b c = ((out-Command c).number, statics (form_in b (out-Command c).kind))

unfoldable pub defined_by : List ℕ → Command → Option Definition
defined_by b c = definition_at (out-Command c).number (form_in b (out-Command c).kind)
