-- What a whole read is.
-- shset's own reading and writing; the standard says nothing of it.
use Rattle.std.specs.Prelude.{◌≡◌, ℕ, ◌<◌, ◌≤◌, List, length, Option, ◌⊎◌, Some, None, take}
use Rattle.std.specs.Io.KnownBytes.{Consumes, IsAtEnd}
use Rattle.sh_answers.specs.declared.ends.Counts.{Counts}
use Rattle.sh_answers.specs.Ends.{BoreOnly, MovedNothing}

-- n bytes were read, and reading stopped at the one call that gave none or at as many as are asked
-- for at most
abbrev pub IsReadWhole : Counts → Counts → Option (List ℕ) → ℕ → ℕ → Type 0
IsReadWhole old new left limit n = (MovedNothing old new × (n < limit) × IsAtEnd left) ⊎ (BoreOnly old new × (n ≡ limit))

-- the reader's bytes are known, and b are those that it is asked for at most
abbrev pub Had : Option (List ℕ) → ℕ → List ℕ → Type 0
Had None limit b = ⊥
Had (Some xs) limit b = b ≡ take limit xs

-- the bytes taken are those that were read, and reading stopped as a whole read does
abbrev pub TookWhole : Counts → Counts → Option (List ℕ) → Option (List ℕ) → ℕ → Type 0
TookWhole old new before left limit = (b : List ℕ) × Consumes before left b × IsReadWhole old new left limit (length b)

-- reads were interrupted, no more than a read bears, or nothing was counted
abbrev pub BoreAll : Counts → Counts → Type 0
BoreAll old new = BoreOnly old new ⊎ MovedNothing old new

-- at most so many bytes were taken
abbrev pub TookAtMost : Option (List ℕ) → Option (List ℕ) → ℕ → Type 0
TookAtMost old new limit = (b : List ℕ) × (length b ≤ limit) × Consumes old new b
