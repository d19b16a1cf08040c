-- A certificate that may be lowered, and one that was.
-- The standard has no such thing: a certificate is lowered until it keeps all flow rules.
use Rattle.std.specs.Prelude.{◌≡◌, ℕ, ◌≤◌, List, Bool, true, [], length, map, flat_map, Option}
use Rattle.std.specs.List.Sorted.{IsPermutation}
use Rattle.sh_tree.specs.Commands.{commands_of}
use Rattle.sh_tree.specs.standard.program.Trees.{script_of}
use Rattle.sh_domain.specs.declared.certificate.Certificate as kept
use Rattle.sh_domain.specs.Faults.{broken}
use Rattle.sh_domain.specs.Order.{IsBelow}
use Rattle.sh_domain.specs.Reading.{claim_fits}
use Rattle.sh_domain.specs.Rules.{Constraint, script_bounds}
use Rattle.sh_domain.specs.Sheets.{Sheet}
use Rattle.sh_domain.specs.Admitted.{IsAdmitted, claims_in, functions_in}
use Rattle.sh_drafts.specs.declared.place.Place.{Place}
use Rattle.sh_drafts.specs.declared.subject.Subject.{Subject}
use Rattle.sh_drafts.specs.Places.{claim_there}
use Rattle.sh_drafts.specs.Stated.{ClaimsStated, asked_bounds}
use Rattle.sh_drafts.specs.Turns.{StatedStays, sheet_by}
use Rattle.sh_drafts.specs.Working.{IsWorking, height}
use Rattle.sh_drafts.specs.Starts.{start_of}

module _ (s : Subject) where
  -- What a certificate stays above

  -- the constraints that are required
  abbrev pub asked_of : List Constraint
  asked_of = asked_bounds s.stated (script_bounds (script_of s.script.now s.tree.now))

  -- a sheet of names of the script that claims what is stated, and keeps all rules that are
  -- required
  pub record Keeps (other : Sheet) : Type 0 where
    pub fit : (o : Option Place) → claim_fits s.names.now (claim_there other o) ≡ true
    pub stated : ClaimsStated s.names.now (functions_in s.script.now s.tree.now) s.stated s.compact.now (claims_in s.script.now s.tree.now other)
    pub rules : flat_map (broken (start_of s) (claims_in s.script.now s.tree.now other)) asked_of ≡ []

  -- each of those is below the certificate
  abbrev pub IsOver : kept.Certificate → Type 0
  IsOver c = (other : Sheet) → Keeps other → IsBelow (claims_in s.script.now s.tree.now other) (claims_in s.script.now s.tree.now (sheet_by s.names.now c))

  -- While it is lowered

  -- a certificate that may be lowered, with a row by which others are looked up
  pub record IsReady (c : kept.Certificate) (probed : ℕ) : Type 0 where
    pub admitted : IsAdmitted s.script.now s.policy.now s.tree.now s.names.now
    pub loops : List Bool
    pub functions : ℕ
    pub working : IsWorking s.names.now loops functions c
    pub over : IsOver c
    pub probe : probed ≡ length s.names.now
    pub commands : IsPermutation (commands_of s.tree.now) (map (λ c. c.now) s.commands.now)

  -- it is lowered, or stays, claims what was stated, and stays above each certificate that keeps
  -- the rules
  pub record IsSwept (old new : kept.Certificate) (probed : ℕ) : Type 0 where
    pub working : (loops : List Bool) (m : ℕ) → IsWorking s.names.now loops m old → IsWorking s.names.now loops m new
    pub no_more : (loops : List Bool) (m : ℕ) → IsWorking s.names.now loops m old → height (length s.names.now) (length loops) m new ≤ height (length s.names.now) (length loops) m old
    pub over : IsOver new
    pub stays : s.stated ≡ true → StatedStays old new
    pub probe : probed ≡ length s.names.now

  -- it keeps all rules that are required, claims what was stated, and stays above each certificate
  -- that does
  pub record IsSettled (loops : List Bool) (m : ℕ) (old new : kept.Certificate) : Type 0 where
    pub working : IsWorking s.names.now loops m new
    pub rules : flat_map (broken (start_of s) (claims_in s.script.now s.tree.now (sheet_by s.names.now new))) asked_of ≡ []
    pub over : IsOver new
    pub stays : s.stated ≡ true → StatedStays old new
