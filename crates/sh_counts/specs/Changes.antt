-- What equations are after a count was changed.
-- POSIX.1-2024, XCU 2.5.1 (positional parameters), 2.15 (set, shift).
use Rattle.std.specs.Prelude.{◌≡◌, ◌⊎◌, ◌++◌, ◌∷◌, [], length}
use Rattle.sh_counts.specs.declared.equations.Change.{Change}
use Rattle.sh_counts.specs.declared.equations.Change.TheVariants.{Raise}
use Rattle.sh_counts.specs.declared.equations.Count.{Count}
use Rattle.sh_counts.specs.declared.equations.Equation.{Equation}
use Rattle.sh_counts.specs.declared.equations.Equations.{Equations}

-- the same unknown counts and equations
pub record Same (old new : Equations) : Type 0 where
  pub most : new.most.items ≡ old.most.items
  pub all : new.all.items ≡ old.all.items

-- the count is a new one
pub record IsFresh (old new : Equations) (count : Count) : Type 0 where
  pub index : count.index ≡ length old.most.items
  pub most : new.most.items ≡ old.most.items ++ 65535 ∷ []

abbrev pub equation : Count → Count → Change → Equation
equation count source change = record { count = count.index; source = source.index; change = change }

-- the count is what the change makes of the source: the source itself, or a new one with its
-- equation
abbrev pub Changes : Equations → Equations → Count → Change → Count → Type 0
Changes old new source change count =
    ((change ≡ Raise 0) × (count ≡ source) × Same old new)
    ⊎ (IsFresh old new count × (new.all.items ≡ old.all.items ++ equation count source change ∷ []))
