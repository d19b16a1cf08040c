-- What is known at two places, and what a function has to drop, by all that the flow rules require
-- at a command.
-- The standard has no such rules: what is claimed of a place has to be known there in every run.
use Rattle.std.specs.Prelude.{◌≡◌, ℕ, true, if◌then◌else◌, List, Option}
use Rattle.std.proofs.Common.{ap}
use Rattle.sh_tree.specs.standard.program.Syntax.{Text}
use Rattle.sh_domain.specs.Facts.{Facts}
use Rattle.sh_domain.specs.Names.{number_of}
use Rattle.sh_domain.specs.Operands.{Names, no_names}
use Rattle.sh_domain.specs.Sheets.{Sheet}
use Rattle.sh_domain.specs.Views.{Slot}
use Rattle.sh_drafts.specs.Facts as number
use Rattle.sh_drafts.specs.Kept.{seen_of}
use Rattle.sh_rules.specs.Asking.{Asking, both_names}
use Rattle.sh_drafts.specs.declared.place.Place.{Place}
use Rattle.sh_sweeps.specs.declared.sides.Sides.{Sides}
use Rattle.sh_drafts.specs.Gathered.{Gathered, counted, is_at, is_number}
use Rattle.sh_drafts.specs.Gathering.{drops_nothing, drops_both}
use Rattle.sh_drafts.specs.Numbers.{by_number, numbers_in}
use Rattle.sh_drafts.specs.Places.{place_of}
use Rattle.sh_drafts.specs.Turns.{AreNumbers, IsQuiet, Stands}
use Rattle.sh_sweeps.specs.Asked.{gathered_of}
use Rattle.sh_drafts.specs.Working.{Sets, joined}

-- what is known at a place and at another; what the function of the index has to drop
pub record Sided : Type 0 where
  pub place : Place
  pub known : number.Facts
  pub other : Place
  pub beside : number.Facts
  pub function : ℕ
  pub sets : Sets

-- beside what was gathered for a place, this is known at another
abbrev pub with_beside : Gathered → Place → number.Facts → Sided
with_beside g p f = record { place = g.place; known = g.known; other = p; beside = f; function = g.function; sets = g.sets }

unfoldable pub sided_of : Sides → Sided
sided_of s = with_beside (gathered_of s.gather) s.place (seen_of s.known)

-- one of the places by itself, as if all was kept
abbrev pub alone_at : Place → number.Facts → Sided → Gathered
alone_at p f g = record { kept = true; place = p; known = f; function = g.function; sets = g.sets; next_place = p; next_function = g.function }

abbrev pub first_of : Sided → Gathered
first_of g = alone_at g.place g.known g

abbrev pub second_of : Sided → Gathered
second_of g = alone_at g.other g.beside g

-- only numbered names were gathered
pub record AreNumbersBeside (names : ℕ) (g : Sided) : Type 0 where
  pub first : AreNumbers names (first_of g)
  pub second : AreNumbers names (second_of g)

-- a certificate claims no more at either place than is known there, and the function drops no less
-- than was gathered
pub record StandsBeside (names : List Text) (other : Sheet) (g : Sided) : Type 0 where
  pub first : Stands names other (first_of g)
  pub second : Stands names other (second_of g)

-- nothing was gathered of claims that are stated
pub record IsQuietBeside (g : Sided) : Type 0 where
  pub first : IsQuiet (first_of g)
  pub second : IsQuiet (second_of g)

-- One thing more

module _ (names functions : List Text) where
  abbrev pub known_at : Option Place → Place → Facts → number.Facts → number.Facts
  known_at o p k f = if is_at o p then number.meet f (by_number names k) else f

  -- a slot may claim no more than these facts
  unfoldable pub bounded_at : Slot → Facts → Sided → Sided
  bounded_at slot k g = record g {
    known = known_at (place_of functions slot) g.place k g.known;
    beside = known_at (place_of functions slot) g.other k g.beside;
  }

  -- a function drops these
  unfoldable pub counted_of : Text → Names → Sided → Sided
  counted_of f lost g = record g { sets = if is_number (number_of functions f) g.function then joined (numbers_in names lost) g.sets else g.sets }

  pub counts_nothing : (f : Text) (g : Sided) → counted_of f no_names g ≡ g
  unfolding counted_of counted
  counts_nothing f g = ap (λ (h : Gathered). record g { sets = h.sets }) (drops_nothing names functions f no_names (first_of g))

  pub counts_both : (f : Text) (a b : Names) (g : Sided) → counted_of f (both_names a b) g ≡ counted_of f b (counted_of f a g)
  unfolding counted_of counted
  counts_both f a b g = ap (λ (h : Gathered). record g { sets = h.sets }) (drops_both names functions f no_names a.vars b.vars a.functions b.functions (first_of g))

-- what is gathered of two places and of a function
abbrev pub siding : Asking Sided
siding = record {
  bound = λ x slot f k g. bounded_at x.names x.functions slot k g;
  drop = λ x function f lost g. counted_of x.names x.functions function lost g;
  drops_nothing = λ x function f g. counts_nothing x.names x.functions function g;
  drops_both = λ x function f a b g. counts_both x.names x.functions function a b g;
}
