-- The places of which the flow rules of a script require something are those of its certificates.
-- The standard has no such thing: what is surely set (XCU 2.5) round each command and each
-- function.
use Rattle.std.specs.Prelude.{◌≡◌, ℕ, Bool, true, List, length, Some, is_some}
use Rattle.sh_tree.specs.declared.tree.Script.{Script}
use Rattle.sh_tree.specs.standard.program.Syntax.{Text}
use Rattle.sh_tree.specs.standard.program.Trees.{script_of}
use Rattle.sh_domain.specs.declared.certificate.Certificate.{Certificate}
use Rattle.sh_domain.specs.Facts.{Declared}
use Rattle.sh_domain.specs.Inclusions.{Each}
use Rattle.sh_domain.specs.Names.{number_of}
use Rattle.sh_domain.specs.Reading.{AreLoops}
use Rattle.sh_domain.specs.Rules.{Constraint, Within, Counted, script_bounds}
use Rattle.sh_domain.specs.Views.{Slot}
use Rattle.sh_domain.specs.Admitted.{IsAdmitted, functions_in}
use Rattle.sh_drafts.specs.declared.place.Place.{Place}
use Rattle.sh_drafts.specs.Places.{place_of}
use Rattle.sh_drafts.specs.Working.{IsWorking, claims, dropped}

-- the slot has a place, if the functions have these names, and the certificate claims something of
-- it
pub record HasPlace (functions : List Text) (c : Certificate) (slot : Slot) : Type 0 where
  pub place : Place
  pub at : place_of functions slot ≡ Some place
  pub there : is_some (claims c place) ≡ true

-- the function has an index, and the certificate says what it drops
pub record HasDrops (functions : List Text) (c : Certificate) (function : Text) : Type 0 where
  pub index : ℕ
  pub at : number_of functions function ≡ Some index
  pub there : is_some (dropped c index) ≡ true

unfoldable pub AsksThere : List Text → Certificate → Constraint → Type 0
AsksThere functions c (Within slot n rule v) = HasPlace functions c slot
AsksThere functions c (Counted function n loss) = HasDrops functions c function

-- Let a certificate have as many commands and functions as the script, and heads at its loops. Then
-- it has each place of which a rule requires something.
abbrev pub RulesAskThere : Type 0
RulesAskThere =
    (b : List ℕ) (d : Declared) (t : Script) (names : List Text) (loops : List Bool) (c : Certificate) → IsAdmitted b d t names → AreLoops t loops
    → IsWorking names loops (length (functions_in b t)) c → Each (AsksThere (functions_in b t) c) (script_bounds (script_of b t))
