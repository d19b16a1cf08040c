-- Which views of what is known somewhere the tally looks at.
-- POSIX.1-2024, XCU 2.5.1 (positional parameters).
use Rattle.std.specs.Prelude.{◌≡◌, ℕ, ◌+◌, ◌*◌, ◌≤◌, max, List, ◌∷◌, ◌++◌, Option, Some, None, option_map, IfSome}
use Rattle.sh_tree.specs.standard.program.Syntax.{Text}
use Rattle.sh_domain.specs.Names.{number_of}
use Rattle.sh_domain.specs.Views as views
use Rattle.sh_domain.specs.Views.{Certificate, Slot, Seen, Before, AfterZero, AfterNonzero, Head, Entry, ReturnsZero, ReturnsNonzero, At, if_zero, if_nonzero}
use Rattle.sh_tally.specs.declared.places.End.{End}
use Rattle.sh_tally.specs.declared.places.End.TheVariants as end
use Rattle.sh_tally.specs.declared.places.Part.{Part}
use Rattle.sh_tally.specs.declared.places.Part.TheVariants as part
use Rattle.sh_tally.specs.declared.views.After.{After}
use Rattle.sh_tally.specs.declared.views.View.{View}
use Rattle.sh_tally.specs.declared.views.Views.{Views}
use Rattle.sh_tally.specs.Counts.{AllPass, all_made}

unfoldable pub part_place : Part → ℕ
part_place part.Before = 0
part_place part.Zero = 1
part_place part.Nonzero = 2
part_place part.Head = 3

unfoldable pub end_place : End → ℕ
end_place end.Entered = 0
end_place end.Zero = 1
end_place end.Nonzero = 2

abbrev pub command_index : Part → ℕ → ℕ
command_index p number = number * 5 + part_place p

abbrev pub function_index : End → ℕ → ℕ
function_index e function = (function * 3 + end_place e) * 5 + 4

-- The index of the count of a slot, if the functions have these names.
unfoldable pub index_of : List Text → Slot → Option ℕ
index_of functions (Before n) = Some (command_index part.Before n)
index_of functions (AfterZero n) = Some (command_index part.Zero n)
index_of functions (AfterNonzero n) = Some (command_index part.Nonzero n)
index_of functions (Head n) = Some (command_index part.Head n)
index_of functions (Entry f) = option_map (function_index end.Entered) (number_of functions f)
index_of functions (ReturnsZero f) = option_map (function_index end.Zero) (number_of functions f)
index_of functions (ReturnsNonzero f) = option_map (function_index end.Nonzero) (number_of functions f)

module _ (functions : List Text) where
  -- the view is of a slot, and its steps have no call and leave at most the greater of the slot's
  -- count and the least one
  pub record Shows (h : View) (v : views.View) : Type 0 where
    pub slot : Slot
    pub source : v.source ≡ At slot
    pub place : index_of functions slot ≡ Some h.source.index
    pub passes : (c : Certificate) → AllPass c v.steps
    pub made : (n : ℕ) → all_made v.steps n ≤ max n h.least

  -- it shows one view of what is seen
  pub record Sees (q : Seen) (h : View) : Type 0 where
    pub view : views.View
    pub front : Seen
    pub back : Seen
    pub one : q ≡ front ++ (view ∷ back)
    pub shows : Shows h view

  -- both of them do, if they are there
  pub record See (q : Seen) (known : Views) : Type 0 where
    pub first : IfSome known.first (Sees q)
    pub second : IfSome known.second (Sees q)

  -- by the status
  pub record SeeAfter (o : views.After) (known : After) : Type 0 where
    pub zero : See (if_zero o) known.zero
    pub nonzero : See (if_nonzero o) known.nonzero

-- The view stays after expansions that leave at least so many parameters, or none is left.
unfoldable pub RaisedView : ℕ → Option View → Option View → Type 0
RaisedView n old None = Unit {0}
RaisedView n None (Some k) = ⊥
RaisedView n (Some h) (Some k) = (k.source ≡ h.source) × (max h.least n ≤ k.least)

pub record Raised (n : ℕ) (old new : Views) : Type 0 where
  pub first : RaisedView n old.first new.first
  pub second : RaisedView n old.second new.second
