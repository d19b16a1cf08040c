-- Clauses of private functions: the numbers of the names in byte order, in blocks of 64.
-- The standard has no such thing: how the names that a function may drop are found.
use Rattle.std.specs.Prelude.{◌≡◌, ℕ, ◌*◌, ◌<◌, List, take, drop, slice_get}
use Rattle.std.specs.Option.{ForSome}
use Rattle.sh_rows.specs.Numbers.{has_number}
use Rattle.sh_domain.specs.declared.number_set.NumberSet.{NumberSet}
use Rattle.sh_domain.specs.NumberSets.{numbers_of}

-- the numbers of a block
abbrev pub block_of : ℕ → List ℕ → List ℕ
block_of i numbers = take 64 (drop (64 * i) numbers)

-- the set of each block has its numbers
abbrev pub AreHeld : List ℕ → List NumberSet → Type 0
AreHeld numbers sets = (i : ℕ) → i < 64 → ForSome (slice_get sets i) (λ s. (k : ℕ) → numbers_of s k ≡ has_number k (block_of i numbers))
