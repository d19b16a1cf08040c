-- When nothing is left to be lowered at a place and a function.
-- The standard has no such thing: what is claimed of a place has to be known there in every run.
use Rattle.std.specs.Prelude.{◌≡◌, ℕ, ◌≤◌, Bool, Some}
use Rattle.sh_domain.specs.declared.certificate.Certificate as kept
use Rattle.sh_drafts.specs.Facts as number
use Rattle.sh_drafts.specs.declared.place.Place.{Place}
use Rattle.sh_drafts.specs.Gathered.{Gathered}
use Rattle.sh_drafts.specs.Working.{Sets, AreWithin, claims, dropped, joined, names_of}

-- the claim of a place is within what is known there, if what is left of it by that may be written
pub record ClaimStays (c : kept.Certificate) (p : Place) (known : number.Facts) (may : Sets) : Type 0 where
  pub within : (f : number.Facts) → claims c p ≡ Some f → AreWithin (names_of (number.meet f known)) may → number.IsWithin f known

-- no more parameters than these are claimed of the place, if any run comes there
pub record CountStays (c : kept.Certificate) (p : Place) (args : ℕ) : Type 0 where
  pub few : (v f : ℕ → Bool) (a : ℕ) → claims c p ≡ Some (number.Known v f a) → a ≤ args

-- the function of an index may drop these, if they may be written with those that it may drop
pub record DropsStay (c : kept.Certificate) (i : ℕ) (sets may : Sets) : Type 0 where
  pub within : (s : Sets) → dropped c i ≡ Some s → AreWithin (joined sets s) may → AreWithin sets s

-- nothing of what was gathered is to be lowered, but what may not be written
pub record IsIdle (c : kept.Certificate) (may : Sets) (g : Gathered) : Type 0 where
  pub claim : ClaimStays c g.place g.known may
  pub drops : DropsStay c g.function g.sets may
