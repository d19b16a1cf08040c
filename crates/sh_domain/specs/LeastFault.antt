-- What the least fault of a list is.
-- The standard has no such rules: if several are broken, the first command of the text is reported,
-- with the first of the rules that it breaks.
use Rattle.std.specs.Prelude.{◌≡◌, false, List, [], MatchOption}
use Rattle.std.specs.List.{Contains}
use Rattle.sh_domain.specs.Faults.{Fault, precedes, least}

-- the fault is in the list, and none there precedes it
pub record IsLeast (f : Fault) (fs : List Fault) : Type 0 where
  pub told : Contains fs f
  pub first : (g : Fault) → Contains fs g → precedes g f ≡ false

-- A list that has faults has one least fault, which is reported. If none is reported, there is
-- none.
pub record LeastIsTold : Type 0 where
  pub told : (fs : List Fault) → MatchOption (least fs) (fs ≡ []) (λ f. IsLeast f fs)
  pub one : (fs : List Fault) (f g : Fault) → IsLeast f fs → IsLeast g fs → f ≡ g
