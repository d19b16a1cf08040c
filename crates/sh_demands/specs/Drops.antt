-- The names that a simple command may drop, by the static texts of its words, and their places, one
-- for each name.
-- POSIX.1-2024, XCU 2.9.1 (simple commands), 2.9.5 (functions), 2.15 (unset), 3 (getopts).
use Rattle.std.specs.Prelude.{ℕ, not, if◌then◌else◌, List, [], ◌∷◌, ◌++◌, codes, drop, filter, fold}
use Rattle.std.specs.List.{list_any}
use Rattle.std.specs.Str.{bytes_eq}
use Rattle.sh_tree.specs.declared.known.KnownName.TheVariants as known
use Rattle.sh_tree.specs.declared.place.Place.{Place}
use Rattle.sh_tree.specs.standard.language.Bytes.{is_name}
use Rattle.sh_tree.specs.standard.program.Syntax as p
use Rattle.sh_tree.specs.standard.program.Syntax.{Text}
use Rattle.sh_runs.specs.Profile.{Static}
use Rattle.sh_runs.specs.declared.kind.Kind.{Kind}
use Rattle.sh_runs.specs.declared.kind.Kind.TheVariants as kind
use Rattle.sh_runs.specs.standard.runs.Environment.{is_one_of}
use Rattle.sh_runs.specs.standard.runs.Operands.{unset_operands}
use Rattle.sh_domain.specs.Demands.{drop_at}
use Rattle.sh_domain.specs.Facts.{Facts, claims, Variable}
use Rattle.sh_domain.specs.Operands.{Names, removed}
use Rattle.sh_domain.specs.Table.{prefixes}
use Rattle.sh_gains.specs.Statics.{listed}

-- the places with that of a name more, unless one of those from the k-th on is about it
unfoldable pub once_told : (k at : ℕ) → List Place → Text → List Place
once_told k at ps t = if list_any (λ x. bytes_eq x.subject t) (drop k ps) then ps else ps ++ drop_at at t ∷ []

-- each of these names
abbrev pub all_told : (k at : ℕ) → List Place → List Text → List Place
all_told k at ps ts = fold (once_told k at) ps ts

abbrev pub optarg : List Text
optarg = codes "OPTARG" ∷ []

-- `unset` of these operands: variables, and then those functions that the script has
abbrev pub unset_drops : List Text → List Text → List Text
unset_drops functions us =
    (removed (unset_operands us).0 (filter is_name (unset_operands us).1)).vars
    ++ filter (is_one_of functions) (removed (unset_operands us).0 (filter is_name (unset_operands us).1)).functions

-- a utility, by its operands
unfoldable pub utility_drops : List Text → Kind → List Static → List Text
utility_drops functions (kind.Special known.Unset) ts = unset_drops functions (listed ts)
utility_drops functions kind.Getopts ts = optarg
utility_drops functions _ ts = []

-- the built-in utility `getopts` runs if no function of the name is defined
unfoldable pub builtin_drops : Text → List Text
builtin_drops t = if bytes_eq t (codes "getopts") then optarg else []

-- the names of prefix assignments that are not known to be set
unfoldable pub unseen : Facts → p.Elements → List Text
unseen f es = filter (λ x. not (claims f (Variable x))) (prefixes es)

-- a call of a function of this name that may drop these names
abbrev pub call_drops : Names → Text → Facts → p.Elements → List Text
call_drops d t f es = (d.vars ++ d.functions) ++ (builtin_drops t ++ unseen f es)
