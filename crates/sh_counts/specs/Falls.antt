-- Clauses of private functions: counts that fall.
-- The standard has no such thing: how equations over counts are solved.
use Rattle.std.specs.Prelude.{◌≡◌, ℕ, ◌<◌, ◌≤◌, List, length}
use Rattle.std.specs.List.{All}
use Rattle.sh_counts.specs.declared.circles.Way.{Way}
use Rattle.sh_counts.specs.declared.equations.Equation.{Equation}
use Rattle.sh_counts.specs.declared.equations.Equations.{Equations}
use Rattle.sh_counts.specs.declared.falling.Falling.{Falling}
use Rattle.sh_counts.specs.Equations.{Holds, Solution, worth}
use Rattle.sh_counts.specs.Ways.{made_by}

-- the equation holds in each solution
abbrev pub Follows : Equations → Equation → Type 0
Follows es e = (v : ℕ → ℕ) → Solution es v → Holds v e

-- no solution is above the counts
pub record IsSound (es : Equations) (counts : List ℕ) : Type 0 where
  pub above : (v : ℕ → ℕ) → Solution es v → (i : ℕ) → v i ≤ worth counts i

-- what was sound is sound
abbrev pub StaysSound : Equations → Falling → Falling → Type 0
StaysSound es old new = IsSound es old.counts.items → IsSound es new.counts.items

-- no count is greater than before
pub record Fell (old new : List ℕ) : Type 0 where
  pub sized : length new ≡ length old
  pub below : (i : ℕ) → worth new i ≤ worth old i

-- each equation of a count that is there holds
abbrev pub IsSettled : List ℕ → List Equation → Type 0
IsSettled counts equations = All (λ e. e.count < length counts → Holds (worth counts) e) equations

-- in each solution the count `to` is at most what the way makes of the count `from`
abbrev pub Leads : Equations → Way → ℕ → ℕ → Type 0
Leads es way to from = (v : ℕ → ℕ) → Solution es v → v to ≤ made_by way.times way.plus way.minus way.least way.most (v from)
