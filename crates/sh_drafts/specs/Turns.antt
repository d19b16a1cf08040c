-- Turns of the search for the greatest certificate.
-- The standard has no such thing: a certificate is lowered until it keeps all flow rules.
use Rattle.std.specs.Prelude.{◌≡◌, ℕ, ◌<◌, Bool, true, false, List, [], length, flat_map, Option, Some}
use Rattle.sh_tree.specs.standard.program.Syntax.{Text}
use Rattle.sh_runs.specs.standard.runs.Environment.{is_one_of}
use Rattle.sh_domain.specs.declared.certificate.Certificate.{Certificate}
use Rattle.sh_domain.specs.Certificates.{in_byte_order, sheet_of}
use Rattle.sh_domain.specs.Facts.{Facts, facts}
use Rattle.sh_domain.specs.Faults.{broken}
use Rattle.sh_domain.specs.Knowledge.{AreNumbered, at_number}
use Rattle.sh_domain.specs.Names.{number_of}
use Rattle.sh_domain.specs.Order.{IsWithin, IsBelow}
use Rattle.sh_domain.specs.Reading.{claim_fits}
use Rattle.sh_domain.specs.Rules.{Constraint}
use Rattle.sh_domain.specs.Sheets.{Sheet, certificate_of}
use Rattle.sh_drafts.specs.Facts as number
use Rattle.sh_drafts.specs.Kept.{IsNamed}
use Rattle.sh_drafts.specs.declared.place.Place.{Place}
use Rattle.sh_drafts.specs.Gathered.{Gathered}
use Rattle.sh_drafts.specs.Numbers.{by_name}
use Rattle.sh_drafts.specs.Places.{claim_there, drops_there, is_stated_part}
use Rattle.sh_drafts.specs.Working.{AreBelow, IsWorking, claims, dropped, height}

-- only numbered names were gathered
pub record AreNumbers (names : ℕ) (g : Gathered) : Type 0 where
  pub known : IsNamed names g.known
  pub sets : AreBelow names g.sets

-- a certificate claims no more at the place than is known there, and the function drops no less
-- than was gathered
pub record Stands (names : List Text) (other : Sheet) (g : Gathered) : Type 0 where
  pub place : IsWithin (facts (claim_there other (Some g.place))) (by_name names g.known)
  pub vars : (x : Text) → at_number g.sets.vars (number_of names x) ≡ true → is_one_of (drops_there other (Some g.function)).vars x ≡ true
  pub functions : (x : Text) → at_number g.sets.functions (number_of names x) ≡ true → is_one_of (drops_there other (Some g.function)).functions x ≡ true

-- of these names
abbrev pub sheet_by : List Text → Certificate → Sheet
sheet_by names c = sheet_of (in_byte_order names) c

-- nothing was gathered of claims that are stated
pub record IsQuiet (g : Gathered) : Type 0 where
  pub known : is_stated_part g.place.part ≡ true → g.known ≡ number.NotReached
  pub vars : (k : ℕ) → g.sets.vars k ≡ false
  pub functions : (k : ℕ) → g.sets.functions k ≡ false

-- what is claimed where claims are stated stays, and what functions drop
pub record StatedStays (old new : Certificate) : Type 0 where
  pub claims : (p : Place) → is_stated_part p.part ≡ true → claims new p ≡ claims old p
  pub drops : (i : ℕ) → dropped new i ≡ dropped old i

-- A certificate is lowered by what was gathered, and stays above each one that holds.
pub record IsSunk (names : List Text) (loops : List Bool) (m : ℕ) (old new : Certificate) (g : Gathered) (changed : Bool) : Type 0 where
  pub stays : changed ≡ false → new ≡ old
  pub working : IsWorking names loops m new
  pub less : changed ≡ true → height (length names) (length loops) m new < height (length names) (length loops) m old
  pub stated : IsQuiet g → StatedStays old new
  pub above : AreNumbered names → (defined : List Text) (d : Sheet) → Stands names d g → IsBelow (certificate_of defined d) (certificate_of defined (sheet_by names old))
      → IsBelow (certificate_of defined d) (certificate_of defined (sheet_by names new))

-- The certificate keeps all constraints, or is lowered; claims what is stated, if any is; and stays
-- above each one that keeps them.
pub record IsTurn (names : List Text) (loops : List Bool) (m : ℕ) (start : Facts) (defined : List Text) (stated : Bool) (ks : List Constraint) (old new : Certificate) (kept : Bool) : Type 0 where
  pub working : IsWorking names loops m new
  pub rules : kept ≡ true → flat_map (broken start (certificate_of defined (sheet_by names new))) ks ≡ []
  pub stays : stated ≡ true → StatedStays old new
  pub less : kept ≡ false → height (length names) (length loops) m new < height (length names) (length loops) m old
  pub above : (d : Sheet) → ((o : Option Place) → claim_fits names (claim_there d o) ≡ true) → flat_map (broken start (certificate_of defined d)) ks ≡ []
      → IsBelow (certificate_of defined d) (certificate_of defined (sheet_by names old)) → IsBelow (certificate_of defined d) (certificate_of defined (sheet_by names new))
