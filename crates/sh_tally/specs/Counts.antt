-- How many positional parameters there are at most, by one view.
-- POSIX.1-2024, XCU 2.5.1 (positional parameters), 2.15 (set, shift).
use Rattle.std.specs.Prelude.{ℕ, ◌≤◌, ◌-◌, max, List, [], ◌∷◌, ◌++◌, Option, Some, None}
use Rattle.sh_domain.specs.Facts.{Facts, NotReached, Known, facts}
use Rattle.sh_domain.specs.Operands.{total}
use Rattle.sh_domain.specs.Order.{seen_facts}
use Rattle.sh_domain.specs.Views.{Certificate, Slot, Step, Gain, Define, Lose, Count, Shift, Call, At, Seen, counted_by}

-- a run comes there, and at most so many parameters are sure
unfoldable pub HasAtMost : ℕ → Facts → Type 0
HasAtMost n NotReached = ⊥
HasAtMost n (Known v f a) = a ≤ n

-- what a step makes of a count
unfoldable pub made_by : Step → ℕ → ℕ
made_by (Gain g) a = max a g.args
made_by (Count n) a = counted_by n a
made_by (Shift n) a = a - n
made_by (Define f) a = a
made_by (Lose names) a = a
made_by (Call f return names) a = a

unfoldable pub all_made : List Step → ℕ → ℕ
all_made [] a = a
all_made (x ∷ xs) a = all_made xs (made_by x a)

-- `shift` by so many, or by a number that is not known
unfoldable pub shift_step : Option ℕ → Step
shift_step (Some n) = Shift n
shift_step None = Count (total [])

-- a run comes to the end of a step if one comes to it: of a call, if the function may return
unfoldable pub Passes : Certificate → Step → Type 0
Passes c (Call f return names) = (n : ℕ) × HasAtMost n (facts (c.claim return))
Passes c (Gain g) = Unit {0}
Passes c (Define f) = Unit {0}
Passes c (Lose names) = Unit {0}
Passes c (Count n) = Unit {0}
Passes c (Shift n) = Unit {0}

unfoldable pub AllPass : Certificate → List Step → Type 0
AllPass c [] = Unit {0}
AllPass c (x ∷ xs) = Passes c x × AllPass c xs

-- What is seen somewhere has at most the count that one of its views makes.
abbrev pub ViewsBoundCounts : Type 0
ViewsBoundCounts =
    (d : Facts) (c : Certificate) (slot : Slot) (xs : List Step) (front back : Seen) (n : ℕ) → HasAtMost n (facts (c.claim slot)) → AllPass c xs
    → HasAtMost (all_made xs n) (seen_facts d c (front ++ (record { source = At slot; steps = xs } ∷ back)))
