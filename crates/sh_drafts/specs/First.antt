-- The certificate that claims everything.
-- The standard has no such thing: no run comes to any place, and no function drops a name.
use Rattle.std.specs.Prelude.{◌≡◌, ℕ, ◌+◌, ◌<◌, ◌≤◌, Bool, true, false, List, Option, Some, None, slice_get, unwrap_or}
use Rattle.sh_domain.specs.declared.certificate.Certificate.{Certificate}
use Rattle.sh_domain.specs.declared.certificate.Facts as value
use Rattle.sh_domain.specs.declared.certificate.Facts.TheVariants as value_kind
use Rattle.sh_drafts.specs.Facts.{Facts, NotReached}
use Rattle.sh_drafts.specs.declared.place.Place.{Place}
use Rattle.sh_drafts.specs.Working.{Sets, claims, dropped}

unfoldable pub head_if : Bool → Option value.Facts
head_if true = Some value_kind.NotReached
head_if false = None

-- the heads of the first loops, by the numbers of their commands
pub record AreHeads (loops : List Bool) (n : ℕ) (heads : ℕ → Option value.Facts) : Type 0 where
  pub none : heads 0 ≡ None
  pub far : (i : ℕ) → i < n → heads (i + 1) ≡ head_if (unwrap_or (slice_get loops i) false)
  pub past : (i : ℕ) → n ≤ i → heads (i + 1) ≡ None

-- no run comes to any place
pub record ClaimsAll (c : Certificate) : Type 0 where
  pub each : (p : Place) (f : Facts) → claims c p ≡ Some f → f ≡ NotReached

-- no function drops a name
pub record DropsNothing (c : Certificate) : Type 0 where
  pub vars : (i : ℕ) (s : Sets) → dropped c i ≡ Some s → (k : ℕ) → s.vars k ≡ false
  pub functions : (i : ℕ) (s : Sets) → dropped c i ≡ Some s → (k : ℕ) → s.functions k ≡ false
