-- The certificate that claims what is stated, and everything elsewhere.
-- The standard has no such thing: no run comes to any place of which nothing is stated.
use Rattle.std.specs.Prelude.{◌≡◌, ℕ, ◌+◌, ◌≤◌, ◌<◌, nat_eq, nat_lt, Bool, true, false, ◌&&◌, if◌then◌else◌, Option, Some, None, is_some, option_map, option_and_then, slice_get, List}
use Rattle.indexmap.specs.IndexMap.{get}
use Rattle.sh_tree.specs.standard.program.Syntax.{Text}
use Rattle.sh_domain.specs.declared.certificate.Certificate.{Certificate}
use Rattle.sh_domain.specs.declared.certificate.Facts as value
use Rattle.sh_domain.specs.declared.certificate.FunctionEntry.{FunctionEntry}
use Rattle.sh_domain.specs.declared.compact.Compact.{Compact}
use Rattle.sh_drafts.specs.declared.place.Place.{Place}
use Rattle.sh_drafts.specs.Facts.{Facts, NotReached}
use Rattle.sh_drafts.specs.Kept.{fact_of}
use Rattle.sh_drafts.specs.Places.{function_part, is_of_command, is_of_function, is_stated_part}
use Rattle.sh_drafts.specs.Working.{Sets, claims, dropped, names_of, sets_of}
use Rattle.sh_drafts.specs.Writable.{IsWritten}

-- what is stated at a place, at no other than those of so many commands
unfoldable pub stated_at : Compact → Place → Option value.Facts
stated_at k p =
    if is_of_function p.part then option_and_then (λ e. function_part e p.part) (slice_get k.functions.items p.index)
    else if is_of_command p.part then None
    else if nat_lt p.index k.commands then get nat_eq k.heads (p.index + 1)
    else None

abbrev pub states : Compact → Place → Option Facts
states k p = option_map (fact_of k.rows.rows) (stated_at k p)

-- what is stated that the function of an index drops
abbrev pub drops_stated : Compact → ℕ → Option Sets
drops_stated k i = option_map (λ (e : FunctionEntry). sets_of k.rows e.drops) (slice_get k.functions.items i)

-- The facts that are stated are of names that a text of a certificate may have.
pub record IsStateable (names : List Text) (k : Compact) : Type 0 where
  pub facts : (p : Place) (f : Facts) → states k p ≡ Some f → IsWritten names (names_of f)
  pub drops : (i : ℕ) (s : Sets) → drops_stated k i ≡ Some s → IsWritten names s

-- The certificate has a claim at each place with a stated one, and at no other of these parts. It
-- has drops of each function with stated ones.
pub record HasStated (k : Compact) (c : Certificate) : Type 0 where
  pub claims : (p : Place) → is_stated_part p.part ≡ true → is_some (claims c p) ≡ is_some (states k p)
  pub drops : (i : ℕ) → is_some (dropped c i) ≡ is_some (drops_stated k i)

-- It claims what is stated at the places that are done, and everything elsewhere; and the first
-- functions drop what is stated, and no others drop anything.
pub record IsBegunAt (k : Compact) (done : Place → Bool) (first : ℕ) (c : Certificate) : Type 0 where
  pub there : (p : Place) → done p ≡ true → claims c p ≡ states k p
  pub left : (p : Place) (f : Facts) → done p ≡ false → claims c p ≡ Some f → f ≡ NotReached
  pub drops : (i : ℕ) → i < first → dropped c i ≡ drops_stated k i
  pub dropless : (i : ℕ) (s : Sets) → first ≤ i → dropped c i ≡ Some s → (j : ℕ) → (s.vars j ≡ false) × (s.functions j ≡ false)
  pub has : HasStated k c

-- the heads below an index
unfoldable pub heads_below : ℕ → Place → Bool
heads_below n p = is_stated_part p.part && (if is_of_function p.part then false else nat_lt p.index n)

-- all heads, and the functions below an index
unfoldable pub functions_below : ℕ → Place → Bool
functions_below n p = is_stated_part p.part && (if is_of_function p.part then nat_lt p.index n else true)

-- It claims what is stated, and everything elsewhere.
pub record IsBegun (k : Compact) (c : Certificate) : Type 0 where
  pub there : (p : Place) → is_stated_part p.part ≡ true → claims c p ≡ states k p
  pub others : (p : Place) (f : Facts) → is_stated_part p.part ≡ false → claims c p ≡ Some f → f ≡ NotReached
  pub drops : (i : ℕ) → dropped c i ≡ drops_stated k i
