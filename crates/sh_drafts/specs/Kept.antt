-- What rows, and facts that name rows, claim.
-- The standard has no such thing: facts about names as the code keeps them.
use Rattle.std.specs.Prelude.{◌≡◌, ℕ, ◌<◌, Bool, true, List, Option, Some, None}
use Rattle.sh_rows.specs.declared.bits.BitRow.{BitRow}
use Rattle.sh_domain.specs.KeptRows.{holds_at}
use Rattle.sh_domain.specs.declared.certificate.Facts as value
use Rattle.sh_domain.specs.declared.certificate.Facts.TheVariants as value_kind
use Rattle.sh_domain.specs.NumberSets.{numbers_of}
use Rattle.sh_drafts.specs.declared.sight.Sight.{Sight}
use Rattle.sh_drafts.specs.Facts.{Facts, NotReached, Known}

-- what is seen, by its sets
abbrev pub sight_facts : Sight → Facts
sight_facts s = Known (numbers_of s.vars) (numbers_of s.functions) s.args

unfoldable pub seen_of : Option Sight → Facts
seen_of None = NotReached
seen_of (Some s) = sight_facts s

-- only names below a number are known
pub record AreNamed (names : ℕ) (v f : ℕ → Bool) : Type 0 where
  pub vars : (x : ℕ) → v x ≡ true → x < names
  pub functions : (x : ℕ) → f x ≡ true → x < names

unfoldable pub IsNamed : ℕ → Facts → Type 0
IsNamed names NotReached = Unit {0}
IsNamed names (Known v f a) = AreNamed names v f

-- facts by the places of their rows
unfoldable pub fact_of : List BitRow → value.Facts → Facts
fact_of rows value_kind.NotReached = NotReached
fact_of rows (value_kind.Known v f a) = Known (holds_at rows v.index) (holds_at rows f.index) a

-- both rows are there
unfoldable pub IsPlaced : ℕ → value.Facts → Type 0
IsPlaced n value_kind.NotReached = Unit {0}
IsPlaced n (value_kind.Known v f a) = (v.index < n) × (f.index < n)
