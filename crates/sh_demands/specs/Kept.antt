-- Clauses of private functions: the subjects of places in a set.
-- The standard has no such thing: places of unmet demands.
use Rattle.std.specs.Prelude.{◌≡◌, ◌≤◌, ℕ, Bool, List, Vec, drop, length, take}
use Rattle.std.specs.Global.{Global}
use Rattle.std.specs.List.{list_any}
use Rattle.std.specs.Str.{bytes_eq}
use Rattle.sh_tree.specs.declared.place.Place.{Place}
use Rattle.sh_tree.specs.standard.program.Syntax.{Text}
use Rattle.sh_demands.specs.declared.reports.Subjects.{Subjects}

-- whether a text is in the set
abbrev pub holds : List (Vec ℕ Global) → Text → Bool
holds keys t = list_any (λ v. bytes_eq t v.items) keys

-- a text is in the set iff one of so many first places is about it
pub record AreTold (keys : List (Vec ℕ Global)) (count : ℕ) (ps : List Place) : Type 0 where
  pub within : count ≤ length ps
  pub subjects : (t : Text) → holds keys t ≡ list_any (λ x. bytes_eq x.subject t) (take count ps)

-- the same, of the places from the set's first one on
abbrev pub IsTold : Subjects → List Place → Type 0
IsTold told ps = AreTold told.subjects.keys told.count (drop told.start ps)
