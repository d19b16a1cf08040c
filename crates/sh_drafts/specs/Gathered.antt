-- What is gathered of all that the flow rules require of a certificate: whether it is kept, what is
-- known at one place, and what one function has to drop. Also of which other place and function
-- they require more than is kept.
-- The standard has no such rules: what is claimed of a place has to be known there in every run.
use Rattle.std.specs.Prelude.{ℕ, nat_lt, ◌==◌, Bool, true, false, ◌&&◌, ◌||◌, if◌then◌else◌, List, fold, Option, Some, None, option_map, option_and_then, unwrap_or}
use Rattle.sh_tree.specs.standard.program.Syntax.{Text}
use Rattle.sh_domain.specs.Facts.{Facts, Claim, within}
use Rattle.sh_domain.specs.Faults.{are_among}
use Rattle.sh_domain.specs.Names.{number_of}
use Rattle.sh_domain.specs.Operands.{Names}
use Rattle.sh_domain.specs.Rules.{Constraint, Within, Counted}
use Rattle.sh_domain.specs.Views.{Certificate, Slot, view_facts, lost}
use Rattle.sh_drafts.specs.Facts as number
use Rattle.sh_drafts.specs.declared.place.Place.{Place}
use Rattle.sh_drafts.specs.Numbers.{by_number, numbers_in}
use Rattle.sh_drafts.specs.Places.{at, same, place_of}
use Rattle.sh_drafts.specs.Working.{Sets, joined}

-- all is kept so far; what is known at the place; what the function of the index has to drop; the
-- last of the other places and functions of which something is not kept
pub record Gathered : Type 0 where
  pub kept : Bool
  pub place : Place
  pub known : number.Facts
  pub function : ℕ
  pub sets : Sets
  pub next_place : Place
  pub next_function : ℕ

unfoldable pub is_at : Option Place → Place → Bool
is_at None p = false
is_at (Some q) p = same q p

unfoldable pub is_number : Option ℕ → ℕ → Bool
is_number None i = false
is_number (Some k) i = k == i

-- the index, if a script may have a command or a function of it
unfoldable pub fitting : ℕ → Option ℕ
fitting i = if nat_lt i 65536 then Some i else None

unfoldable pub fitting_place : Place → Option Place
fitting_place p = option_map (at p.part) (fitting p.index)

-- this one is next, if there is one, unless it is passed over
unfoldable pub next_of : {A : Type 0} → Bool → Option A → A → A
next_of true o n = n
next_of false o n = unwrap_or o n

abbrev pub next_place_of : Option Place → Bool → Gathered → Place
next_place_of o kept g = next_of (kept || is_at o g.place) (option_and_then fitting_place o) g.next_place

abbrev pub next_function_of : Option ℕ → Bool → Gathered → ℕ
next_function_of o kept g = next_of (kept || is_number o g.function) (option_and_then fitting o) g.next_function

-- the names of a script, and of its functions
module _ (names functions : List Text) where
  -- a slot that claims this may claim no more than these facts
  unfoldable pub bounded : Slot → Claim → Facts → Gathered → Gathered
  bounded slot c k g = record {
    kept = g.kept && within c k;
    place = g.place;
    known = if is_at (place_of functions slot) g.place then number.meet g.known (by_number names k) else g.known;
    function = g.function;
    sets = g.sets;
    next_place = next_place_of (place_of functions slot) (within c k) g;
    next_function = g.next_function;
  }

  -- a function that may drop these drops those
  unfoldable pub counted : Text → Names → Names → Gathered → Gathered
  counted f may lost g = record {
    kept = g.kept && are_among lost may;
    place = g.place;
    known = g.known;
    function = g.function;
    sets = if is_number (number_of functions f) g.function then joined (numbers_in names lost) g.sets else g.sets;
    next_place = g.next_place;
    next_function = next_function_of (number_of functions f) (are_among lost may) g;
  }

  -- one constraint after the other
  unfoldable pub gathered : Facts → Certificate → Gathered → Constraint → Gathered
  gathered start c g (Within slot n rule v) = bounded slot (c.claim slot) (view_facts start c v) g
  gathered start c g (Counted f n loss) = counted f (c.drops f) (lost start c n loss) g

  abbrev pub all_gathered : Facts → Certificate → Gathered → List Constraint → Gathered
  all_gathered start c g ks = fold (gathered start c) g ks
