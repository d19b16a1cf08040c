-- Where a broken constraint is, and a certificate while it is lowered, of a script.
-- The standard has no such rules: what is claimed of a place has to be known there in every run.
use Rattle.std.specs.Prelude.{◌≡◌, ℕ, Bool, true, List, [], ◌∷◌, ◌++◌, length}
use Rattle.sh_tree.specs.standard.program.Syntax.{Text}
use Rattle.sh_tree.specs.standard.program.Trees.{script_of}
use Rattle.sh_domain.specs.declared.certificate.Certificate as kept
use Rattle.sh_domain.specs.Facts.{Facts}
use Rattle.sh_domain.specs.Faults.{broken}
use Rattle.sh_domain.specs.Names.{number_of}
use Rattle.sh_domain.specs.Reading.{AreLoops}
use Rattle.sh_domain.specs.Rules.{Constraint, Within, Counted, script_bounds}
use Rattle.sh_domain.specs.Views.{Certificate}
use Rattle.sh_domain.specs.Admitted.{claims_in, functions_in}
use Rattle.sh_drafts.specs.declared.target.Target.{Target}
use Rattle.sh_drafts.specs.declared.place.Place.{Place}
use Rattle.sh_drafts.specs.declared.subject.Subject.{Subject}
use Rattle.sh_drafts.specs.Gathered.{is_at, is_number}
use Rattle.sh_drafts.specs.Places.{place_of}
use Rattle.sh_drafts.specs.Stated.{asked_bounds}
use Rattle.sh_drafts.specs.Turns.{sheet_by}
use Rattle.sh_drafts.specs.Working.{IsWorking}
use Rattle.sh_drafts.specs.Starts.{start_of}

-- a constraint requires something of the place, or of the function of the index
unfoldable pub stands_at : List Text → Place → ℕ → Constraint → Bool
stands_at functions p i (Within slot n rule v) = is_at (place_of functions slot) p
stands_at functions p i (Counted function n loss) = is_number (number_of functions function) i

-- it is kept, if it requires something there
pub record IsKeptAt (functions : List Text) (start : Facts) (c : Certificate) (p : Place) (i : ℕ) (k : Constraint) : Type 0 where
  pub kept : stands_at functions p i k ≡ true → broken start c k ≡ []

-- one of the constraints requires something there, and is broken
pub record BrokenAt (functions : List Text) (start : Facts) (c : Certificate) (ks : List Constraint) (p : Place) (i : ℕ) : Type 0 where
  pub constraint : Constraint
  pub front : List Constraint
  pub back : List Constraint
  pub one : ks ≡ front ++ (constraint ∷ back)
  pub there : stands_at functions p i constraint ≡ true
  pub breaks : ¬ (broken start c constraint ≡ [])

module _ (s : Subject) where
  -- a certificate that is lowered, with as many commands and functions as the script has, and heads
  -- at its loops
  pub record IsOfScript (c : kept.Certificate) : Type 0 where
    pub loops : List Bool
    pub are_loops : AreLoops s.tree.now loops
    pub working : IsWorking s.names.now loops (length (functions_in s.script.now s.tree.now)) c

  -- it breaks a flow rule that requires something of the place or of the function
  abbrev pub IsBroken : kept.Certificate → Target → Type 0
  IsBroken c target =
      BrokenAt (functions_in s.script.now s.tree.now) (start_of s) (claims_in s.script.now s.tree.now (sheet_by s.names.now c)) (asked_bounds s.stated (script_bounds (script_of s.script.now s.tree.now))) target.place target.function
