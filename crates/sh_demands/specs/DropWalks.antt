-- Clauses of private functions: the places of names that a command may drop, by the pieces that
-- name them.
-- POSIX.1-2024, XCU 2.9.1 (simple commands), 2.15 (unset).
use Rattle.std.specs.Prelude.{ℕ, Bool, true, false, ◌&&◌, if◌then◌else◌, List, [], ◌∷◌, ◌++◌, fold, Option, Some, None, slice_get}
use Rattle.sh_tree.specs.declared.place.Place.{Place}
use Rattle.sh_tree.specs.declared.tree.Element.{Element}
use Rattle.sh_tree.specs.declared.tree.Kind.{Kind}
use Rattle.sh_tree.specs.standard.language.Bytes.{is_name}
use Rattle.sh_tree.specs.Lists.{element_from, elements_from}
use Rattle.sh_tree.specs.standard.program.Syntax as p
use Rattle.sh_tree.specs.standard.program.Syntax.{Text}
use Rattle.sh_tree.specs.standard.program.Trees.{kind_of}
use Rattle.sh_runs.specs.Profile.{Static}
use Rattle.sh_table.specs.WordTexts.{text_in}
use Rattle.sh_table.specs.declared.word_text.WordText.{WordText}
use Rattle.sh_runs.specs.standard.runs.Environment.{is_one_of}
use Rattle.sh_domain.specs.Demands.{drop_at, is_reached}
use Rattle.sh_domain.specs.Facts.{Facts, claims, Variable}
use Rattle.sh_demands.specs.Drops.{once_told, all_told, unseen}
use Rattle.sh_demands.specs.Places.{Source, known_before, sharing, reached_sharing, shared}

-- the name, if it is wanted
unfoldable pub told_if : Bool → (k at : ℕ) → List Place → Text → List Place
told_if wanted k at ps t = if wanted then once_told k at ps t else ps

-- a static text that is a name
unfoldable pub variable_told : (k at : ℕ) → List Place → Static → List Place
variable_told k at ps None = ps
variable_told k at ps (Some t) = told_if (is_name t) k at ps t

-- one that is the name of a function
unfoldable pub function_told : List Text → (k at : ℕ) → List Place → Static → List Place
function_told functions k at ps None = ps
function_told functions k at ps (Some t) = told_if (is_name t && is_one_of functions t) k at ps t

abbrev pub variable_step : List ℕ → (k at : ℕ) → List Place → WordText → List Place
variable_step b k at ps w = variable_told k at ps (text_in b w)

abbrev pub function_step : List ℕ → List Text → (k at : ℕ) → List Place → WordText → List Place
function_step b functions k at ps w = function_told functions k at ps (text_in b w)

-- the variables, then the functions
unfoldable pub removed_told : List ℕ → List Text → (variables functions : Bool) → (k at : ℕ) → List Place → List WordText → List Place
removed_told b names true true k at ps ws = fold (function_step b names k at) (fold (variable_step b k at) ps ws) ws
removed_told b names true false k at ps ws = fold (variable_step b k at) ps ws
removed_told b names false true k at ps ws = fold (function_step b names k at) ps ws
removed_told b names false false k at ps ws = ps

-- a place of the name of a number, if it is wanted
unfoldable pub drop_if : Bool → (at : ℕ) → Option Text → List Place
drop_if true at (Some t) = drop_at at t ∷ []
drop_if true at None = []
drop_if false at o = []

abbrev pub plain_step : List Text → (ℕ → Bool) → (at : ℕ) → List Place → ℕ → List Place
plain_step names is_wanted at ps n = ps ++ drop_if (is_wanted n) at (slice_get names n)

-- the name of a prefix assignment
unfoldable pub unseen_told : Facts → (k at : ℕ) → List Place → Text → List Place
unseen_told f k at ps t = if claims f (Variable t) then ps else once_told k at ps t

unfoldable pub prefix_step : List ℕ → Facts → (k at : ℕ) → List Place → Element → List Place
prefix_step b f k at ps e = all_told k at ps (unseen f (element_from b e p.no_elements))

-- a simple command, if some run comes to it
unfoldable pub elements_step : List ℕ → Source → (n at : ℕ) → List Place → List Element → List Place
elements_step b s n at ps es = if is_reached (known_before s n).facts then sharing s n at ps (elements_from b es) else ps

-- a command of a tree to which some run may come
unfoldable pub reached_step : List ℕ → Source → (n at : ℕ) → List Place → Kind → List Place
reached_step b s n at ps k = reached_sharing s n at ps (kind_of b k)

-- one that may be in a part of a pipeline
unfoldable pub shared_step : List ℕ → Source → Bool → (n at : ℕ) → List Place → Kind → List Place
shared_step b s shares n at ps k = shared s shares n at ps (kind_of b k)
