-- What is reported of places.
-- shset's own; the standard has none.
use Rattle.std.specs.Prelude.{◌≡◌, ℕ, List, []}
use Rattle.sh_tree.specs.declared.place.Place.{Place}
use Rattle.sh_answers.specs.Findings.{AreFindings}
use Rattle.sh_answers.specs.declared.verdict.Verdict.{Verdict}
use Rattle.sh_answers.specs.declared.verdict.Verdict.TheVariants.{Pass, Fail, Forged}

-- A pass if there is no place, and otherwise the findings.
abbrev pub TellsPlaces : List ℕ → List Place → Verdict → Type 0
TellsPlaces b ps Pass = ps ≡ []
TellsPlaces b ps (Fail r) = AreFindings b ps r.findings.items
TellsPlaces b ps (Forged k f) = ⊥
