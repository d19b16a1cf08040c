-- What the walk reports of a whole script are its demands.
-- POSIX.1-2024, XCU 2.6 (word expansions), 2.9 (shell commands), 2.13 (shell execution
-- environment).
use Rattle.std.specs.Prelude.{◌≡◌, ◌≤◌, ℕ, true, false, List, ◌++◌, length}
use Rattle.std.specs.List.{list_all}
use Rattle.sh_tree.specs.declared.limits.TheConstants.{MAX_NAMES}
use Rattle.sh_tree.specs.declared.place.Place.{Place}
use Rattle.sh_tree.specs.declared.tree.Script.{Script}
use Rattle.sh_tree.specs.standard.program.Syntax.{Text}
use Rattle.sh_tree.specs.standard.program.Trees.{script_of}
use Rattle.sh_runs.specs.Calls.{table_of}
use Rattle.sh_runs.specs.Numbering.{is_numbered}
use Rattle.sh_runs.specs.standard.runs.Environment.{is_one_of}
use Rattle.sh_domain.specs.declared.certificate.Certificate as kept
use Rattle.sh_domain.specs.Demands.{demands}
use Rattle.sh_domain.specs.Entries.{script_entered}
use Rattle.sh_domain.specs.Facts.{Facts, Declared}
use Rattle.sh_domain.specs.Names.{IsNumbering}
use Rattle.sh_demands.specs.Places.{source_of, command_places}
use Rattle.sh_demands.specs.Told.{items_told}
use Rattle.sh_demands.specs.Within.{command_within}
use Rattle.sh_gains.specs.Claims.{kept_claims}

-- The names of a script, whatever names are declared, no more than may be.
pub record AreNamesOf (b : List ℕ) (t : Script) (names : List Text) : Type 0 where
  pub declared : Declared
  pub numbered : IsNumbering b t declared names
  pub few : length names ≤ MAX_NAMES

-- Let no two commands have one number, and each name that a command may set be numbered. Then the
-- walk reports the unmet places, in their order.
pub record DemandsAreTold : Type 0 where
  pub told : (start : Facts) (b : List ℕ) (t : Script) (names : List Text) (c : kept.Certificate)
      → is_numbered (script_of b t) ≡ true
      → list_all (λ e. command_within (is_one_of names) e.command) (script_entered (script_of b t)) ≡ true
      → (ps : List Place)
      → items_told (command_places (source_of names c (table_of b t))) false ps (script_of b t) ≡ ps ++ demands start (kept_claims b t names c) (script_of b t)
