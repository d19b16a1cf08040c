-- Equations over numbers of positional parameters, and the greatest numbers that solve them.
-- POSIX.1-2024, XCU 2.5.1 (positional parameters), 2.15 (set, shift).
use Rattle.std.specs.Prelude.{◌≡◌, ℕ, ◌+◌, ◌-◌, ◌*◌, ◌<◌, ◌≤◌, min, max, List, length, get_or}
use Rattle.std.specs.List.{All}
use Rattle.sh_counts.specs.declared.equations.Change.{Change}
use Rattle.sh_counts.specs.declared.equations.Change.TheVariants.{Raise, Shift, Words}
use Rattle.sh_counts.specs.declared.equations.Equation.{Equation}
use Rattle.sh_counts.specs.declared.equations.Equations.{Equations}

-- what the change makes of a count
unfoldable pub made : Change → ℕ → ℕ
made (Raise least) count = max count least
made (Shift gone) count = count - gone
made (Words ones parameters) count = min 65535 (ones + parameters * count)

-- with these numbers the count is at most what the equation makes of its source
abbrev pub Holds : (ℕ → ℕ) → Equation → Type 0
Holds v e = v e.count ≤ made e.change (v e.source)

-- the number at a place of a list of counts; what is not there is not bounded
abbrev pub worth : List ℕ → ℕ → ℕ
worth counts i = get_or counts i 65535

-- numbers that may be counts, each at most what it is at first, that solve all equations
pub record Solution (es : Equations) (v : ℕ → ℕ) : Type 0 where
  pub few : (i : ℕ) → v i ≤ 65535
  pub below : (i : ℕ) → v i ≤ worth es.most.items i
  pub solves : All (Holds v) es.all.items

-- the greatest numbers that solve the equations. An equation of a count that is not there bounds
-- none
pub record IsGreatest (es : Equations) (counts : List ℕ) : Type 0 where
  pub sized : length counts ≡ length es.most.items
  pub above : (v : ℕ → ℕ) → Solution es v → (i : ℕ) → v i ≤ worth counts i
  pub below : (i : ℕ) → worth counts i ≤ worth es.most.items i
  pub solves : All (λ e. e.count < length counts → Holds (worth counts) e) es.all.items
