-- Facts and names by the numbers of names, and back.
-- The standard has no such thing: what is surely set (XCU 2.5), of the names that are numbered.
use Rattle.std.specs.Prelude.{ℕ, Bool, false, List, filter, map, Option, Some, None, slice_get}
use Rattle.sh_tree.specs.standard.program.Syntax.{Text}
use Rattle.sh_runs.specs.standard.runs.Environment.{is_one_of}
use Rattle.sh_domain.specs.Facts.{Claim, Claimed, Unreached, Facts, NotReached, Known}
use Rattle.sh_domain.specs.Knowledge.{at_number}
use Rattle.sh_domain.specs.Names.{number_of}
use Rattle.sh_domain.specs.Operands.{Names, no_names}
use Rattle.sh_drafts.specs.Facts as number
use Rattle.sh_drafts.specs.Working.{Sets}

-- the test of a name, which fails if there is none
unfoldable pub name_passes : (Text → Bool) → Option Text → Bool
name_passes v None = false
name_passes v (Some t) = v t

unfoldable pub by_number : List Text → Facts → number.Facts
by_number names NotReached = number.NotReached
by_number names (Known v f a) = number.Known (λ k. name_passes v (slice_get names k)) (λ k. name_passes f (slice_get names k)) a

unfoldable pub by_name : List Text → number.Facts → Facts
by_name names number.NotReached = NotReached
by_name names (number.Known v f a) = Known (λ t. at_number v (number_of names t)) (λ t. at_number f (number_of names t)) a

-- the numbers of names
abbrev pub numbers_in : List Text → Names → Sets
numbers_in names d = record { vars = λ k. name_passes (is_one_of d.vars) (slice_get names k); functions = λ k. name_passes (is_one_of d.functions) (slice_get names k) }

-- no run comes there if nothing is kept
unfoldable pub named : List Text → Option number.Facts → Facts
named names None = NotReached
named names (Some f) = by_name names f

-- whether a name is dropped, by its number
unfoldable pub is_dropped : (Sets → ℕ → Bool) → List Text → Option Sets → Text → Bool
is_dropped part names None t = false
is_dropped part names (Some s) t = at_number (part s) (number_of names t)

-- the claim of these, of names in this order
unfoldable pub claim_by : List (ℕ × Text) → Option number.Facts → Claim
claim_by order None = Unreached
claim_by order (Some number.NotReached) = Unreached
claim_by order (Some (number.Known v f a)) = Claimed (map (λ x. x.1) (filter (λ x. v x.0) order)) (map (λ x. x.1) (filter (λ x. f x.0) order)) a

-- and the names that are dropped
unfoldable pub names_by : List (ℕ × Text) → Option Sets → Names
names_by order None = no_names
names_by order (Some s) = record { vars = map (λ x. x.1) (filter (λ x. s.vars x.0) order); functions = map (λ x. x.1) (filter (λ x. s.functions x.0) order) }
