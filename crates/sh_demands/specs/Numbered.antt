-- The numbered names of a script are enough for the demands.
-- POSIX.1-2024, XCU 2.5.3 (shell variables), 2.6 (word expansions).
use Rattle.std.specs.Prelude.{◌≡◌, ℕ, true, List}
use Rattle.std.specs.List.{list_all}
use Rattle.sh_tree.specs.declared.tree.Script.{Script}
use Rattle.sh_tree.specs.standard.program.Syntax.{Text}
use Rattle.sh_tree.specs.standard.program.Trees.{script_of}
use Rattle.sh_runs.specs.standard.runs.Environment.{is_one_of}
use Rattle.sh_domain.specs.Entries.{script_entered}
use Rattle.sh_domain.specs.Facts.{Declared}
use Rattle.sh_domain.specs.Names.{IsNumbering}
use Rattle.sh_demands.specs.Within.{command_within}

-- Each name that a command of the script may set in its words is one of those that are numbered of
-- it.
pub record NamesReach : Type 0 where
  pub within : (b : List ℕ) (t : Script) (d : Declared) (names : List Text) → IsNumbering b t d names
      → list_all (λ e. command_within (is_one_of names) e.command) (script_entered (script_of b t)) ≡ true
