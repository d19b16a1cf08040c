-- The counts of positional parameters that a certificate claims, in the order of the tally: five for
-- each number.
-- POSIX.1-2024, XCU 2.5.1 (positional parameters).
use Rattle.std.specs.Prelude.{◌≡◌, ℕ, zero, suc, ◌-◌, ◌/◌, ◌%◌, Bool, true, false, not, List, Option, Some, None, get_or, option_and_then}
use Rattle.sh_tree.specs.standard.program.Syntax.{Text}
use Rattle.sh_domain.specs.declared.certificate.Certificate as kept
use Rattle.sh_domain.specs.declared.certificate.Facts as value
use Rattle.sh_domain.specs.declared.certificate.Facts.TheVariants as value_kind
use Rattle.sh_domain.specs.Facts.{facts}
use Rattle.sh_domain.specs.KeptRows.{holds_at}
use Rattle.sh_domain.specs.Knowledge.{at_number}
use Rattle.sh_domain.specs.Names.{number_of}
use Rattle.sh_domain.specs.Admitted.{functions_in}
use Rattle.sh_domain.specs.Sheets.{Sheet}
use Rattle.sh_domain.specs.Views.{Slot}
use Rattle.sh_counts.specs.Equations.{worth}
use Rattle.sh_tally.specs.Counts.{HasAtMost}
use Rattle.sh_drafts.specs.declared.place.Part.{Part}
use Rattle.sh_drafts.specs.declared.place.Part.TheVariants.{Before, Zero, Nonzero, Head, Entered, ReturnZero, ReturnNonzero}
use Rattle.sh_drafts.specs.declared.place.Place.{Place}
use Rattle.sh_drafts.specs.declared.subject.Subject.{Subject}
use Rattle.sh_drafts.specs.Places.{at, claim_there, kept_at, place_of}
use Rattle.sh_drafts.specs.Ready.{Keeps}

-- the part of a function by its rank
unfoldable pub end_by : ℕ → Part
end_by zero = Entered
end_by (suc zero) = ReturnZero
end_by (suc (suc n)) = ReturnNonzero

-- the part of a command or of a function by its number and rank
unfoldable pub part_by : ℕ → ℕ → Part
part_by n zero = Before
part_by n (suc zero) = Zero
part_by n (suc (suc zero)) = Nonzero
part_by n (suc (suc (suc zero))) = Head
part_by n (suc (suc (suc (suc r)))) = end_by (n % 3)

-- commands have numbers from 1, and a function has three numbers
unfoldable pub index_by : Part → ℕ → ℕ
index_by Before n = n - 1
index_by Zero n = n - 1
index_by Nonzero n = n - 1
index_by Head n = n - 1
index_by Entered n = n / 3
index_by ReturnZero n = n / 3
index_by ReturnNonzero n = n / 3

abbrev pub ranked_place : ℕ → ℕ → Place
ranked_place number rank = at (part_by number rank) (index_by (part_by number rank) number)

-- the place of a count
abbrev pub count_place : ℕ → Place
count_place i = ranked_place (i / 5) (i % 5)

-- how many parameters are claimed, if any run comes there
unfoldable pub args_of : value.Facts → Option ℕ
args_of value_kind.NotReached = None
args_of (value_kind.Known v f a) = Some a

abbrev pub args_at : kept.Certificate → Place → Option ℕ
args_at c p = option_and_then args_of (kept_at c p)

-- these counts are claimed
abbrev pub AreClaimed : kept.Certificate → List (Option ℕ) → Type 0
AreClaimed c claimed = (i a : ℕ) → get_or claimed i None ≡ Some a → args_at c (count_place i) ≡ Some a

-- no certificate that keeps the rules has more at this place, if it is that of a slot
abbrev pub HasAtMostThere : Subject → ℕ → Place → Type 0
HasAtMostThere s n p = (other : Sheet) → Keeps s other → (slot : Slot) → place_of (functions_in s.script.now s.tree.now) slot ≡ Some p → HasAtMost n (facts (claim_there other (Some p)))

-- nor at a place of which a count is claimed
abbrev pub AreOverAll : Subject → List (Option ℕ) → List ℕ → Type 0
AreOverAll s claimed counts = (i a : ℕ) → get_or claimed i None ≡ Some a → HasAtMostThere s (worth counts i) (count_place i)

-- whether a function may be undefined, if this is claimed of these names
unfoldable pub may_lack : List Text → kept.Certificate → Text → value.Facts → Bool
may_lack names c f value_kind.NotReached = false
may_lack names c f (value_kind.Known vars functions args) = not (at_number (holds_at c.rows.rows functions.index) (number_of names f))

-- the function of this index may be undefined before the command n, as is claimed there
pub record IsUnsure (s : Subject) (c : kept.Certificate) (n i : ℕ) : Type 0 where
  pub claim : value.Facts
  pub there : kept_at c (at Before (n - 1)) ≡ Some claim
  pub lacks : (f : Text) → number_of s.table.now.functions.names f ≡ Some i → may_lack s.names.now c f claim ≡ true

abbrev pub AreUnsure : Subject → kept.Certificate → List (Option ℕ) → Type 0
AreUnsure s c unsure = (n i : ℕ) → get_or unsure n None ≡ Some i → IsUnsure s c n i
