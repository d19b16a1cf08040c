-- Numbers at the places of a script, and equations that they solve.
-- POSIX.1-2024, XCU 2.5.1 (positional parameters), 2.15 (set, shift).
use Rattle.std.specs.Prelude.{◌≡◌, ℕ, ◌<◌, ◌≤◌, max, Option, Some, None, length, get_or, IfSome}
use Rattle.std.specs.List.{All}
use Rattle.sh_counts.specs.declared.equations.Change.{Change}
use Rattle.sh_counts.specs.declared.equations.Count.{Count}
use Rattle.sh_counts.specs.declared.equations.Equations.{Equations}
use Rattle.sh_counts.specs.Equations.{Holds, made, worth}
use Rattle.sh_tally.specs.declared.places.Places.{Places}
use Rattle.sh_tally.specs.declared.views.View.{View}
use Rattle.sh_tally.specs.declared.views.Views.{Views}

-- the count that is claimed at a place, if any run comes there
abbrev pub claimed : Places → ℕ → Option ℕ
claimed places i = get_or places.counts.now i None

-- what a count is at most at first
unfoldable pub count_at_first : Option ℕ → ℕ
count_at_first None = 65535
count_at_first (Some a) = a

-- Numbers that are these at the places solve the equations.
pub record IsTallied (places : Places) (u : ℕ → ℕ) (es : Equations) : Type 0 where
  pub v : ℕ → ℕ
  pub few : (i : ℕ) → v i ≤ 65535
  pub below : (i : ℕ) → v i ≤ worth es.most.items i
  -- whatever numbers those counts get that are added later
  pub holds : (w : ℕ → ℕ) → ((i : ℕ) → i < length es.most.items → w i ≡ v i) → All (Holds w) es.all.items
  pub same : (i : ℕ) → i < length places.counts.now → v i ≡ u i
  pub sized : length places.counts.now ≤ length es.most.items

-- such numbers solve the new equations, if such numbers solve the old ones
abbrev pub Tallies : Places → (ℕ → ℕ) → Equations → Equations → Type 0
Tallies places u old new = IsTallied places u old → IsTallied places u new

-- if runs come to both places, the number at the first is at most what the change makes of what the
-- view sees
abbrev pub Bounds : Places → (ℕ → ℕ) → Count → Change → View → Type 0
Bounds places u place change w =
    (a b : ℕ) → claimed places place.index ≡ Some a → claimed places w.source.index ≡ Some b → u place.index ≤ made change (max (u w.source.index) w.least)

-- so do both views bound it
pub record AreBounds (places : Places) (u : ℕ → ℕ) (place : Count) (change : Change) (known : Views) : Type 0 where
  pub first : IfSome known.first (Bounds places u place change)
  pub second : IfSome known.second (Bounds places u place change)
