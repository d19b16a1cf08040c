-- Options, by the static texts of operands in their order; an operand that has none keeps its
-- place.
-- POSIX.1-2024, XBD 12.2 (options), XCU 2.15 (set, unset).
use Rattle.std.specs.Prelude.{ℕ, suc, ◌+◌, ◌==◌, Bool, true, false, ◌&&◌, if◌then◌else◌, List, [], ◌∷◌, drop, Option, Some, None, option_map}
use Rattle.std.specs.List.{list_all}
use Rattle.sh_tree.specs.standard.program.Syntax.{Text}
use Rattle.sh_runs.specs.Profile.{Static}
use Rattle.sh_runs.specs.standard.runs.Operands.{Removal, OfVariables, OfFunctions, OfEither, OfAny, ends_options, is_dashed, is_set_option, ends_in_o}
use Rattle.sh_operands.specs.declared.options.Letters.{Letters}

-- The letters of the options of `unset`: whether there are some, and whether all are `v`, or `f`

abbrev pub no_letters : Letters
no_letters = record { any = false; only_variables = true; only_functions = true }

-- those so far, with the ones of an option
unfoldable pub with_option : Letters → Text → Letters
with_option l t = record {
  any = true;
  only_variables = l.only_variables && list_all (λ c. c == 118) (drop 1 t);
  only_functions = l.only_functions && list_all (λ c. c == 102) (drop 1 t);
}

-- what `unset` removes
unfoldable pub removal_in : Letters → Removal
removal_in l = if l.any then (if l.only_variables then OfVariables else (if l.only_functions then OfFunctions else OfAny)) else OfEither

unfoldable pub takes_variables : Removal → Bool
takes_variables OfFunctions = false
takes_variables _ = true

unfoldable pub takes_functions : Removal → Bool
takes_functions OfVariables = false
takes_functions _ = true

-- with those of all options in front, and the operands after these
unfoldable pub unset_behind : Letters → List Static → Letters × List Static
unset_behind l [] = (l, [])
unset_behind l (None ∷ ts) = unset_behind l ts
unset_behind l (Some t ∷ ts) =
    if ends_options t then (l, ts) else (if is_dashed t then unset_behind (with_option l t) ts else (l, Some t ∷ ts))

-- Where the positional words of `set` begin, if there are some or `--` precedes them: so many
-- operands on from here; whether an option takes the next operand

unfoldable pub positional_at : Bool → List Static → Option ℕ
positional_at takes [] = None
positional_at true (t ∷ ts) = option_map suc (positional_at false ts)
positional_at false (None ∷ ts) = Some 0
positional_at false (Some t ∷ ts) =
    if ends_options t then Some 1 else (if is_set_option t then option_map suc (positional_at (ends_in_o t) ts) else Some 0)

-- the same, if so many precede
unfoldable pub positional_from : ℕ → Bool → List Static → Option ℕ
positional_from k takes [] = None
positional_from k true (t ∷ ts) = positional_from (k + 1) false ts
positional_from k false (None ∷ ts) = Some k
positional_from k false (Some t ∷ ts) =
    if ends_options t then Some (k + 1) else (if is_set_option t then positional_from (k + 1) (ends_in_o t) ts else Some k)
