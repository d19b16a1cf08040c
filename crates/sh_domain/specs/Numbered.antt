-- Clauses of private functions: what a name with its number means, and what comes next in a row of
-- names.
-- The standard has no such thing: names with their numbers, for the text of a certificate.
use Rattle.std.specs.Prelude.{◌≡◌, ◌<◌, ℕ, Bool, true, false, List, [], ◌∷◌, get_or, length, map, codes, Option, IfSome}
use Rattle.std.specs.List.{All}
use Rattle.sh_tree.specs.declared.limits.TheConstants.{MAX_NAMES}
use Rattle.sh_tree.specs.standard.program.Syntax.{Text}
use Rattle.sh_domain.specs.declared.numbered.Numbered.{Numbered}
use Rattle.sh_domain.specs.Certificates.{in_byte_order}
use Rattle.sh_domain.specs.Names.{number_of}

abbrev pub pair_of : Numbered → ℕ × Text
pair_of n = (n.number, n.name.now)

-- a number, and the name that it has among these
abbrev pub pair_in : List Text → ℕ → ℕ × Text
pair_in names k = (k, get_or names k [])

-- the numbers of these names, in rising byte order
pub record IsByteOrder (names : List Text) (numbers : List ℕ) : Type 0 where
  pub ordered : map (pair_in names) numbers ≡ in_byte_order names
  pub below : All (λ k. k < length names) numbers

-- what is kept of these names: their numbers in rising byte order, and the number of `!`
pub record AreKept (names : List Text) (numbers : List ℕ) (job : Option ℕ) : Type 0 where
  pub ordered : IsByteOrder names numbers
  pub found : job ≡ number_of names (codes "!")
  pub below : IfSome job (λ n. n < MAX_NAMES)

-- a name after others, with a comma unless it is the first
unfoldable pub next_name : Bool → Text → Text
next_name true t = t
next_name false t = 44 ∷ t

-- the same, or nothing if the name is not wanted
unfoldable pub next_if : (wanted is_first : Bool) → Text → Text
next_if true is_first t = next_name is_first t
next_if false is_first t = []

unfoldable pub is_none : List Text → Bool
is_none [] = true
is_none (t ∷ ts) = false
