-- Clauses of private functions: the places that a walk has reported, as far as memory went.
-- The standard has no such thing: places of unmet demands.
use Rattle.std.specs.Prelude.{◌≡◌, ◌<◌, ℕ, Bool, true, false, List, length}
use Rattle.sh_tree.specs.declared.place.Code.{Code}
use Rattle.sh_tree.specs.declared.place.Place.{Place}
use Rattle.sh_tree.specs.standard.program.Syntax.{Text}
use Rattle.sh_demands.specs.declared.reports.Reports.{Reports}
use Rattle.sh_demands.specs.Judged.{Judged}
use Rattle.sh_gains.specs.Knowing.{Knowing}

abbrev pub place : ℕ → Code → Text → Place
place at code subject = record { at = at; code = code; subject = subject }

-- all places are kept; or memory ran out, and there are some
unfoldable pub AreKept : (is_short : Bool) → (kept ps : List Place) → Type 0
AreKept false kept ps = kept ≡ ps
AreKept true kept ps = 0 < length ps

-- the same, and the k-th place is the `start`-th of those that are kept
unfoldable pub AreKeptSince : (is_short : Bool) → List Place → (start k : ℕ) → List Place → Type 0
AreKeptSince false kept start k ps = (kept ≡ ps) × (start ≡ k)
AreKeptSince true kept start k ps = 0 < length ps

abbrev pub HasReported : Reports → List Place → Type 0
HasReported r ps = AreKept r.is_short r.places.items ps

abbrev pub HasReportedSince : Reports → (start k : ℕ) → List Place → Type 0
HasReportedSince r start k ps = AreKeptSince r.is_short r.places.items start k ps

-- Whatever was reported before, this is reported after it.
abbrev pub Adds : (old new : Reports) → (List Place → List Place) → Type 0
Adds old new step = (ps : List Place) → HasReported old ps → HasReported new (step ps)

abbrev pub AddsSince : (start : ℕ) → (old new : Reports) → (ℕ → List Place → List Place) → Type 0
AddsSince start old new step = (k : ℕ) (ps : List Place) → HasReportedSince old start k ps → HasReportedSince new start k (step k ps)

-- What is reported if nothing was since then.
abbrev pub AddsFirst : (start : ℕ) → (old new : Reports) → (List Place → List Place) → Type 0
AddsFirst start old new step = (ps : List Place) → HasReportedSince old start (length ps) ps → HasReportedSince new start (length ps) (step ps)

-- what is known, and what was reported
pub record HasJudged (k : Knowing) (r : Reports) (s : Judged) : Type 0 where
  pub known : k ≡ s.known
  pub reported : HasReported r s.places

abbrev pub Judges : Knowing → Reports → Knowing → Reports → (Judged → Judged) → Type 0
Judges k old l new step = (s : Judged) → HasJudged k old s → HasJudged l new (step s)
