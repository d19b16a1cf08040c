-- The places of which a certificate claims something, by the indices of commands and functions.
-- The standard has no such thing: what is surely set (XCU 2.5) round each command and each
-- function.
use Rattle.std.specs.Prelude.{◌≡◌, ℕ, ◌+◌, ◌-◌, ◌==◌, nat_eq, Bool, true, false, ◌&&◌, if◌then◌else◌, List, length, Option, Some, None, option_map, option_and_then, slice_get, unwrap_or}
use Rattle.indexmap.specs.IndexMap.{get}
use Rattle.sh_tree.specs.standard.program.Syntax.{Text}
use Rattle.sh_domain.specs.declared.certificate.Certificate.{Certificate}
use Rattle.sh_domain.specs.declared.certificate.Drops.{Drops}
use Rattle.sh_domain.specs.declared.certificate.Entry.{Entry}
use Rattle.sh_domain.specs.declared.certificate.Facts as value
use Rattle.sh_domain.specs.declared.certificate.FunctionEntry.{FunctionEntry}
use Rattle.sh_domain.specs.Facts.{Claim, Unreached}
use Rattle.sh_domain.specs.Names.{number_of}
use Rattle.sh_domain.specs.Operands.{Names, no_names}
use Rattle.sh_domain.specs.Sheets.{Sheet, nowhere, uncalled}
use Rattle.sh_domain.specs.Views as views
use Rattle.sh_domain.specs.Views.{Slot}
use Rattle.sh_drafts.specs.declared.place.Part.{Part}
use Rattle.sh_drafts.specs.declared.place.Part.TheVariants.{Before, Zero, Nonzero, Head, Entered, ReturnZero, ReturnNonzero}
use Rattle.sh_drafts.specs.declared.place.Place.{Place}

unfoldable pub rank : Part → ℕ
rank Before = 0
rank Zero = 1
rank Nonzero = 2
rank Head = 3
rank Entered = 4
rank ReturnZero = 5
rank ReturnNonzero = 6

abbrev pub same : Place → Place → Bool
same p q = (p.index == q.index) && (rank p.part == rank q.part)

abbrev pub at : Part → ℕ → Place
at part i = record { part = part; index = i }

-- The place of a slot, if the functions have these names; a function that is none of them has none.
unfoldable pub place_of : List Text → Slot → Option Place
place_of functions (views.Before n) = Some (at Before (n - 1))
place_of functions (views.AfterZero n) = Some (at Zero (n - 1))
place_of functions (views.AfterNonzero n) = Some (at Nonzero (n - 1))
place_of functions (views.Head n) = Some (at Head (n - 1))
place_of functions (views.Entry f) = option_map (at Entered) (number_of functions f)
place_of functions (views.ReturnsZero f) = option_map (at ReturnZero) (number_of functions f)
place_of functions (views.ReturnsNonzero f) = option_map (at ReturnNonzero) (number_of functions f)

-- the parts for which a compact certificate states what is claimed
unfoldable pub is_stated_part : Part → Bool
is_stated_part Before = false
is_stated_part Zero = false
is_stated_part Nonzero = false
is_stated_part Head = true
is_stated_part Entered = true
is_stated_part ReturnZero = true
is_stated_part ReturnNonzero = true

-- What a sheet claims there

unfoldable pub part_claim : Sheet → ℕ → Part → Claim
part_claim s i Before = (unwrap_or (slice_get s.commands i) nowhere).before
part_claim s i Zero = (unwrap_or (slice_get s.commands i) nowhere).zero
part_claim s i Nonzero = (unwrap_or (slice_get s.commands i) nowhere).nonzero
part_claim s i Head = unwrap_or (unwrap_or (slice_get s.commands i) nowhere).head Unreached
part_claim s i Entered = (unwrap_or (slice_get s.functions i) uncalled).before
part_claim s i ReturnZero = (unwrap_or (slice_get s.functions i) uncalled).zero
part_claim s i ReturnNonzero = (unwrap_or (slice_get s.functions i) uncalled).nonzero

unfoldable pub claim_there : Sheet → Option Place → Claim
claim_there s None = Unreached
claim_there s (Some p) = part_claim s p.index p.part

-- what the function of an index drops
unfoldable pub drops_there : Sheet → Option ℕ → Names
drops_there s None = no_names
drops_there s (Some i) = (unwrap_or (slice_get s.functions i) uncalled).drops

-- What a kept certificate has there

unfoldable pub is_of_command : Part → Bool
is_of_command Before = true
is_of_command Zero = true
is_of_command Nonzero = true
is_of_command Head = false
is_of_command Entered = false
is_of_command ReturnZero = false
is_of_command ReturnNonzero = false

unfoldable pub is_of_function : Part → Bool
is_of_function Before = false
is_of_function Zero = false
is_of_function Nonzero = false
is_of_function Head = false
is_of_function Entered = true
is_of_function ReturnZero = true
is_of_function ReturnNonzero = true

unfoldable pub entry_part : Entry → Part → Option value.Facts
entry_part e Before = Some e.before
entry_part e Zero = Some e.zero
entry_part e Nonzero = Some e.nonzero
entry_part e Head = None
entry_part e Entered = None
entry_part e ReturnZero = None
entry_part e ReturnNonzero = None

unfoldable pub function_part : FunctionEntry → Part → Option value.Facts
function_part e Before = None
function_part e Zero = None
function_part e Nonzero = None
function_part e Head = None
function_part e Entered = Some e.before
function_part e ReturnZero = Some e.zero
function_part e ReturnNonzero = Some e.nonzero

unfoldable pub entry_with : Part → value.Facts → Entry → Entry
entry_with Before f e = record e { before = f }
entry_with Zero f e = record e { zero = f }
entry_with Nonzero f e = record e { nonzero = f }
entry_with Head f e = e
entry_with Entered f e = e
entry_with ReturnZero f e = e
entry_with ReturnNonzero f e = e

unfoldable pub function_with : Part → value.Facts → FunctionEntry → FunctionEntry
function_with Before f e = e
function_with Zero f e = e
function_with Nonzero f e = e
function_with Head f e = e
function_with Entered f e = record e { before = f }
function_with ReturnZero f e = record e { zero = f }
function_with ReturnNonzero f e = record e { nonzero = f }

-- the head of a loop is under its number
unfoldable pub kept_at : Certificate → Place → Option value.Facts
kept_at c p =
    if is_of_command p.part then option_and_then (λ e. entry_part e p.part) (slice_get c.entries.items p.index)
    else if is_of_function p.part then option_and_then (λ e. function_part e p.part) (slice_get c.functions.items p.index)
    else get nat_eq c.heads (p.index + 1)

abbrev pub drops_at : Certificate → ℕ → Option Drops
drops_at c i = option_map (λ (e : FunctionEntry). e.drops) (slice_get c.functions.items i)

-- These facts are put at a place, and nothing else is changed.
pub record IsPut (old new : Certificate) (p : Place) (f : value.Facts) : Type 0 where
  pub here : kept_at new p ≡ Some f
  pub elsewhere : (q : Place) → same q p ≡ false → kept_at new q ≡ kept_at old q
  pub drops : (i : ℕ) → drops_at new i ≡ drops_at old i
  pub rows : new.rows ≡ old.rows
  pub entries : length new.entries.items ≡ length old.entries.items
  pub functions : length new.functions.items ≡ length old.functions.items
  pub low : get nat_eq new.heads 0 ≡ get nat_eq old.heads 0

-- These drops are put at the function of an index.
pub record IsDropped (old new : Certificate) (i : ℕ) (d : Drops) : Type 0 where
  pub here : drops_at new i ≡ Some d
  pub elsewhere : (j : ℕ) → (j == i) ≡ false → drops_at new j ≡ drops_at old j
  pub facts : (q : Place) → kept_at new q ≡ kept_at old q
  pub heads : (k : ℕ) → get nat_eq new.heads k ≡ get nat_eq old.heads k
  pub rows : new.rows ≡ old.rows
  pub entries : length new.entries.items ≡ length old.entries.items
  pub functions : length new.functions.items ≡ length old.functions.items

-- Clauses of private functions: the facts of one part are put into the entry of an index.

pub record EntryPut (old new : List Entry) (i : ℕ) (part : Part) (f : value.Facts) : Type 0 where
  pub here : slice_get new i ≡ option_map (entry_with part f) (slice_get old i)
  pub elsewhere : (j : ℕ) → (j == i) ≡ false → slice_get new j ≡ slice_get old j
  pub entries : length new ≡ length old

pub record FunctionPut (old new : List FunctionEntry) (i : ℕ) (part : Part) (f : value.Facts) : Type 0 where
  pub here : slice_get new i ≡ option_map (function_with part f) (slice_get old i)
  pub elsewhere : (j : ℕ) → (j == i) ≡ false → slice_get new j ≡ slice_get old j
  pub entries : length new ≡ length old
