-- A certificate whose rows are those in use alone, each at a new place.
-- The standard has no such thing: facts name rows of the numbers of names.
use Rattle.std.specs.Prelude.{◌≡◌, ℕ, ◌<◌, ◌≤◌, Bool, List, length, Option, Some, is_some, slice_get}
use Rattle.sh_rows.specs.declared.bits.BitRow.{BitRow}
use Rattle.sh_tree.specs.standard.program.Syntax.{Text}
use Rattle.sh_domain.specs.declared.certificate.Certificate.{Certificate}
use Rattle.sh_domain.specs.declared.certificate.Drops.{Drops}
use Rattle.sh_domain.specs.declared.certificate.Entry.{Entry}
use Rattle.sh_domain.specs.declared.certificate.Facts as value
use Rattle.sh_domain.specs.declared.certificate.FunctionEntry.{FunctionEntry}
use Rattle.sh_domain.specs.declared.rows.RowId.{RowId}
use Rattle.sh_domain.specs.KeptRows.{KeptRows, Stay, holds_at}
use Rattle.sh_drafts.specs.declared.place.Place.{Place}
use Rattle.sh_drafts.specs.declared.used.Used.{Used}
use Rattle.sh_drafts.specs.Kept.{fact_of, IsPlaced}
use Rattle.sh_drafts.specs.Working.{claims, dropped, IsWorking}

-- it claims the same at each place, functions drop the same, and it may be lowered if the other may
pub record IsSame (old new : Certificate) : Type 0 where
  pub claims : (p : Place) → claims new p ≡ claims old p
  pub drops : (i : ℕ) → dropped new i ≡ dropped old i
  pub working : (names : List Text) (loops : List Bool) (functions : ℕ) → IsWorking names loops functions old → IsWorking names loops functions new

-- Clauses of private functions, from the rows that there were to those in use

module _ (old new : List BitRow) where
  -- a row in use has the numbers of one that there was
  pub record IsRow (i j : RowId) : Type 0 where
    pub there : j.index < length new
    pub numbers : (k : ℕ) → holds_at new j.index k ≡ holds_at old i.index k

  -- facts in rows in use claim what others claimed
  pub record IsMoved (f g : value.Facts) : Type 0 where
    pub placed : IsPlaced (length new) g
    pub same : fact_of new g ≡ fact_of old f

  pub record EntryMoved (e f : Entry) : Type 0 where
    pub before : IsMoved e.before f.before
    pub zero : IsMoved e.zero f.zero
    pub nonzero : IsMoved e.nonzero f.nonzero

  pub record DropsMoved (d e : Drops) : Type 0 where
    pub vars : IsRow d.vars e.vars
    pub functions : IsRow d.functions e.functions

  pub record FunctionMoved (e f : FunctionEntry) : Type 0 where
    pub before : IsMoved e.before f.before
    pub drops : DropsMoved e.drops f.drops
    pub zero : IsMoved e.zero f.zero
    pub nonzero : IsMoved e.nonzero f.nonzero

  -- of a number
  pub record HeadMoved (e f : ℕ × value.Facts) : Type 0 where
    pub number : f.0 ≡ e.0
    pub facts : IsMoved e.1 f.1

-- each place that is noted has the row that there was
pub record IsNoted (old : KeptRows) (u : Used) : Type 0 where
  pub count : u.rows.count ≡ old.count
  pub places : length u.places.items ≡ length old.rows
  pub each : (i : ℕ) (j : RowId) → slice_get u.places.items i ≡ Some (Some j) → IsRow old.rows u.rows.rows (record { index = i }) j

-- rows were added to those in use
pub record IsUsed (old : KeptRows) (before after : Used) : Type 0 where
  pub noted : IsNoted old after
  pub stay : Stay before.rows.rows after.rows.rows

module _ {A : Type 0} (R : A → A → Type 0) where
  -- both are there or none, and so related
  pub record Agree (o p : Option A) : Type 0 where
    pub there : is_some p ≡ is_some o
    pub each : (x y : A) → o ≡ Some x → p ≡ Some y → R x y

  -- the items before an index are so related, and the others stay
  pub record AreDone (n : ℕ) (old new : List A) : Type 0 where
    pub count : length new ≡ length old
    pub done : (i : ℕ) → i < n → Agree (slice_get old i) (slice_get new i)
    pub rest : (i : ℕ) → n ≤ i → slice_get new i ≡ slice_get old i
