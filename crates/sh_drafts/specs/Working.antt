-- A certificate while it is lowered, and what it claims by numbers.
-- The standard has no such thing: what is surely set (XCU 2.5), by the numbers of names.
use Rattle.std.specs.Prelude.{◌≡◌, ℕ, zero, suc, ◌+◌, ◌<◌, ◌==◌, nat_eq, Bool, true, false, not, ◌&&◌, ◌||◌, nat_lt, List, length, Option, Some, None, option_map, slice_get, unwrap_or, is_some}
use Rattle.indexmap.specs.IndexMap.{get}
use Rattle.sh_tree.specs.standard.program.Syntax.{Text}
use Rattle.sh_domain.specs.declared.certificate.Certificate.{Certificate}
use Rattle.sh_domain.specs.declared.certificate.Drops.{Drops}
use Rattle.sh_domain.specs.declared.certificate.Facts as value
use Rattle.sh_domain.specs.KeptRows.{KeptRows, holds_at}
use Rattle.sh_domain.specs.RoundTrips.{FactsPass, SetsPass}
use Rattle.sh_drafts.specs.Facts.{Facts, NotReached, Known, IsWithin, meet}
use Rattle.sh_drafts.specs.Kept.{fact_of, IsPlaced}
use Rattle.sh_drafts.specs.Ranks.{IsNumbered, rank}
use Rattle.sh_drafts.specs.declared.place.Part.TheVariants.{Before, Zero, Nonzero, Head, Entered, ReturnZero, ReturnNonzero}
use Rattle.sh_drafts.specs.declared.place.Place.{Place}
use Rattle.sh_drafts.specs.Places.{same, at, kept_at, drops_at}

-- By numbers

-- what is claimed at a place
unfoldable pub claims : Certificate → Place → Option Facts
claims c p = option_map (fact_of c.rows.rows) (kept_at c p)

-- the variables and the functions that a function may drop
pub record Sets : Type 0 where
  pub vars : ℕ → Bool
  pub functions : ℕ → Bool

abbrev pub sets_of : KeptRows → Drops → Sets
sets_of rows d = record { vars = holds_at rows.rows d.vars.index; functions = holds_at rows.rows d.functions.index }

unfoldable pub dropped : Certificate → ℕ → Option Sets
dropped c i = option_map (sets_of c.rows) (drops_at c i)

abbrev pub joined : Sets → Sets → Sets
joined s z = record { vars = λ k. z.vars k || s.vars k; functions = λ k. z.functions k || s.functions k }

-- the names of facts
unfoldable pub names_of : Facts → Sets
names_of NotReached = record { vars = λ k. false; functions = λ k. false }
names_of (Known v f a) = record { vars = v; functions = f }

-- all of the first are of the second
pub record AreWithin (s z : Sets) : Type 0 where
  pub vars : (k : ℕ) → s.vars k ≡ true → z.vars k ≡ true
  pub functions : (k : ℕ) → s.functions k ≡ true → z.functions k ≡ true

-- only numbers below this one
pub record AreBelow (names : ℕ) (s : Sets) : Type 0 where
  pub vars : (k : ℕ) → s.vars k ≡ true → k < names
  pub functions : (k : ℕ) → s.functions k ≡ true → k < names

-- While it is lowered

-- facts of numbered names, in rows that are there, of variables and of functions
pub record IsFine (names : List Text) (rows : KeptRows) (f : value.Facts) : Type 0 where
  pub placed : IsPlaced (length rows.rows) f
  pub numbered : IsNumbered (length names) (fact_of rows.rows f)
  pub passes : FactsPass names rows f

pub record AreFine (names : List Text) (rows : KeptRows) (d : Drops) : Type 0 where
  pub vars : d.vars.index < length rows.rows
  pub functions : d.functions.index < length rows.rows
  pub below : AreBelow (length names) (sets_of rows d)
  pub passes : SetsPass names rows d.vars d.functions

-- as many commands and functions as the script has, heads at its loops alone, and all facts fine
pub record IsWorking (names : List Text) (loops : List Bool) (functions : ℕ) (c : Certificate) : Type 0 where
  pub count : c.rows.count ≡ length names
  pub commands : length c.entries.items ≡ length loops
  pub defined : length c.functions.items ≡ functions
  pub heads : (i : ℕ) → is_some (get nat_eq c.heads (i + 1)) ≡ unwrap_or (slice_get loops i) false
  pub low : get nat_eq c.heads 0 ≡ None
  pub facts : (p : Place) (f : value.Facts) → kept_at c p ≡ Some f → IsFine names c.rows f
  pub drops : (i : ℕ) (d : Drops) → drops_at c i ≡ Some d → AreFine names c.rows d

-- Lowering

-- The claim of a place is put to its meet with what is known there, if it is there and not within
-- that; nothing else is claimed otherwise.
pub record IsLowered (old new : Certificate) (p : Place) (known : Facts) (changed : Bool) : Type 0 where
  pub stays : changed ≡ false → new ≡ old
  pub there : changed ≡ true → is_some (claims old p) ≡ true
  pub fails : changed ≡ true → (f : Facts) → claims old p ≡ Some f → ¬ (IsWithin f known)
  pub here : changed ≡ true → claims new p ≡ option_map (λ f. meet f known) (claims old p)
  pub elsewhere : (q : Place) → same q p ≡ false → claims new q ≡ claims old q
  pub drops : (i : ℕ) → dropped new i ≡ dropped old i

-- The function of an index may drop these too, if it is there and may not yet.
pub record IsCounted (old new : Certificate) (i : ℕ) (sets : Sets) (changed : Bool) : Type 0 where
  pub stays : changed ≡ false → new ≡ old
  pub there : changed ≡ true → is_some (dropped old i) ≡ true
  pub fails : changed ≡ true → (s : Sets) → dropped old i ≡ Some s → ¬ (AreWithin sets s)
  pub here : changed ≡ true → dropped new i ≡ option_map (joined sets) (dropped old i)
  pub elsewhere : (j : ℕ) → (j == i) ≡ false → dropped new j ≡ dropped old j
  pub claims : (q : Place) → claims new q ≡ claims old q

-- How far it is lowered

unfoldable pub claim_rank : ℕ → Option Facts → ℕ
claim_rank names None = 0
claim_rank names (Some f) = rank names f

-- the names that may not be dropped
unfoldable pub left_of : ℕ → Sets → Facts
left_of names s = Known (λ k. nat_lt k names && not (s.vars k)) (λ k. nat_lt k names && not (s.functions k)) 0

unfoldable pub drops_rank : ℕ → Option Sets → ℕ
drops_rank names None = 0
drops_rank names (Some s) = rank names (left_of names s)

unfoldable pub command_rank : ℕ → Certificate → ℕ → ℕ
command_rank names c i = claim_rank names (claims c (at Before i)) + claim_rank names (claims c (at Zero i)) + claim_rank names (claims c (at Nonzero i)) + claim_rank names (claims c (at Head i))

unfoldable pub function_rank : ℕ → Certificate → ℕ → ℕ
function_rank names c i =
    claim_rank names (claims c (at Entered i)) + claim_rank names (claims c (at ReturnZero i)) + claim_rank names (claims c (at ReturnNonzero i)) + drops_rank names (dropped c i)

unfoldable pub total : (ℕ → ℕ) → ℕ → ℕ
total f zero = 0
total f (suc n) = total f n + f n

-- of so many names, commands and functions
abbrev pub height : (names commands functions : ℕ) → Certificate → ℕ
height names n m c = total (command_rank names c) n + total (function_rank names c) m
