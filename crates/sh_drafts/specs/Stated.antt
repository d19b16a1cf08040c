-- What is required if a compact certificate states what is claimed at each turn of a loop and round
-- a function.
-- The standard has no such rules: what is claimed of a place has to be known there in every run.
use Rattle.std.specs.Prelude.{◌≡◌, Bool, true, false, not, List, filter}
use Rattle.sh_tree.specs.standard.program.Syntax.{Text}
use Rattle.sh_domain.specs.Certificates.{in_byte_order}
use Rattle.sh_domain.specs.Filled.{is_stated}
use Rattle.sh_domain.specs.Rules.{Constraint, Within, Counted}
use Rattle.sh_domain.specs.Views.{Certificate, Slot}
use Rattle.sh_domain.specs.declared.compact.Compact.{Compact}
use Rattle.sh_domain.specs.Compacts.{compact_claims, stated_by}

-- the claim of a slot may be lowered, if claims are stated or not
unfoldable pub is_free : Bool → Slot → Bool
is_free false slot = true
is_free true slot = not (is_stated slot)

-- if claims are stated, nothing is required of them, nor of what functions drop
unfoldable pub is_asked : Bool → Constraint → Bool
is_asked stated (Within slot n rule v) = is_free stated slot
is_asked stated (Counted function n loss) = not stated

abbrev pub asked_bounds : Bool → List Constraint → List Constraint
asked_bounds stated ks = filter (is_asked stated) ks

-- What is stated

-- the certificate claims that where it is stated
pub record Claims (stated c : Certificate) : Type 0 where
  pub claims : (slot : Slot) → is_stated slot ≡ true → c.claim slot ≡ stated.claim slot
  pub drops : (function : Text) → c.drops function ≡ stated.drops function

-- by the compact certificate, if claims are stated and these are the names and the functions of the
-- script
unfoldable pub ClaimsStated : (names functions : List Text) → Bool → Compact → Certificate → Type 0
ClaimsStated names functions false k c = Unit {0}
ClaimsStated names functions true k c = Claims (stated_by functions (compact_claims (in_byte_order names) k)) c
