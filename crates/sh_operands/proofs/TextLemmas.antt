-- Options by the static texts of operands are those of the texts alone.
use Rattle.std.proofs.Common.{◌≡◌, ℕ, suc, ◌+◌, ◌==◌, Bool, true, false, not, ◌&&◌, ◌||◌, if◌then◌else◌, List, [], ◌∷◌, ◌++◌, drop, Option, Some, None, option_map, refl, sym, ap, ap₂, ◌∙◌, arith, true≢false}
use Rattle.std.specs.List.{list_all}
use Rattle.sh_tree.specs.standard.program.Syntax.{Text}
use Rattle.sh_runs.specs.Profile.{Static}
use Rattle.sh_runs.specs.standard.runs.Operands.{Removal, OfVariables, OfFunctions, OfEither, OfAny, removal_of, unset_from, ends_options, is_dashed, is_set_option, ends_in_o}
use Rattle.sh_operands.specs.declared.options.Letters.{Letters}
use Rattle.sh_operands.specs.Meaning.{listed}
use Rattle.sh_operands.specs.Texts.{no_letters, with_option, removal_in, takes_variables, takes_functions, unset_behind, positional_at, positional_from}

taken_variables : (l : Letters) → (not l.any || l.only_variables || not l.only_functions) ≡ takes_variables (removal_in l)
unfolding takes_variables removal_in
taken_variables l = go l.any l.only_variables l.only_functions
  where
    go : (a v f : Bool) → (not a || v || not f) ≡ takes_variables (if a then (if v then OfVariables else (if f then OfFunctions else OfAny)) else OfEither)
    go false v f = refl
    go true true f = refl
    go true false true = refl
    go true false false = refl

pub variables_without : (l : Letters) → l.any ≡ false → true ≡ takes_variables (removal_in l)
variables_without l a = ap (λ b. not b || l.only_variables || not l.only_functions) (sym a) ∙ taken_variables l

or_only : (a o : Bool) → (a || true || o) ≡ true
or_only true o = refl
or_only false o = refl

pub variables_only : (l : Letters) → l.only_variables ≡ true → true ≡ takes_variables (removal_in l)
variables_only l v = sym (or_only (not l.any) (not l.only_functions)) ∙ ap (λ b. not l.any || b || not l.only_functions) (sym v) ∙ taken_variables l

pub variables_otherwise : (l : Letters) → l.any ≡ true → l.only_variables ≡ false → not l.only_functions ≡ takes_variables (removal_in l)
variables_otherwise l a v = ap₂ (λ x y. not x || y || not l.only_functions) (sym a) (sym v) ∙ taken_variables l

pub ruleset variables_taken = (variables_without, variables_only, variables_otherwise)

taken_functions : (l : Letters) → not (l.any && l.only_variables) ≡ takes_functions (removal_in l)
unfolding takes_functions removal_in
taken_functions l = go l.any l.only_variables l.only_functions
  where
    go : (a v f : Bool) → not (a && v) ≡ takes_functions (if a then (if v then OfVariables else (if f then OfFunctions else OfAny)) else OfEither)
    go false v f = refl
    go true true f = refl
    go true false true = refl
    go true false false = refl

pub functions_without : (l : Letters) → l.any ≡ false → true ≡ takes_functions (removal_in l)
functions_without l a = ap (λ b. not (b && l.only_variables)) (sym a) ∙ taken_functions l

pub functions_otherwise : (l : Letters) → l.any ≡ true → not l.only_variables ≡ takes_functions (removal_in l)
functions_otherwise l a = ap (λ b. not (b && l.only_variables)) (sym a) ∙ taken_functions l

pub ruleset functions_taken = (functions_without, functions_otherwise)

-- where the positional words of `set` begin

shifted_by : (k : ℕ) (o : Option ℕ) → option_map (λ i. (k + 1) + i) o ≡ option_map (λ i. k + i) (option_map suc o)
shifted_by k None = refl
shifted_by k (Some i) = let e : (k + 1) + i ≡ k + suc i = omega arith in ap Some e

none_on : (k : ℕ) → Some k ≡ option_map (λ i. k + i) (Some 0)
none_on k = let e : k ≡ k + 0 = omega arith in ap Some e

from_there : (k : ℕ) (takes : Bool) (ts : List Static) → positional_from k takes ts ≡ option_map (λ i. k + i) (positional_at takes ts)
unfolding positional_from positional_at
from_there k true [] = refl
from_there k false [] = refl
from_there k true (t ∷ ts) = from_there (k + 1) false ts ∙ shifted_by k (positional_at false ts)
from_there k false (None ∷ ts) = none_on k
from_there k false (Some t ∷ ts) = go (from_there (k + 1) (ends_in_o t) ts) (ends_options t) (is_set_option t)
  where
    go : positional_from (k + 1) (ends_in_o t) ts ≡ option_map (λ i. (k + 1) + i) (positional_at (ends_in_o t) ts) → (e s : Bool)
        → (if e then Some (k + 1) else (if s then positional_from (k + 1) (ends_in_o t) ts else Some k))
        ≡ option_map (λ i. k + i) (if e then Some 1 else (if s then option_map suc (positional_at (ends_in_o t) ts) else Some 0))
    go h true s = refl
    go h false true = h ∙ shifted_by k (positional_at (ends_in_o t) ts)
    go h false false = none_on k

zero_on : (o : Option ℕ) → option_map (λ i. 0 + i) o ≡ o
zero_on None = refl
zero_on (Some i) = let e : 0 + i ≡ i = omega arith in ap Some e

pub from_start : (ts : List Static) → positional_from 0 false ts ≡ positional_at false ts
from_start ts = from_there 0 false ts ∙ zero_on (positional_at false ts)

-- `unset`

abbrev letters_of : Text → Letters
letters_of [] = no_letters
letters_of (c ∷ cs) = record { any = true; only_variables = list_all (λ d. d == 118) (c ∷ cs); only_functions = list_all (λ d. d == 102) (c ∷ cs) }

removal_told : (cs : Text) → removal_of cs ≡ removal_in (letters_of cs)
unfolding removal_of removal_in
removal_told [] = refl
removal_told (c ∷ cs) = refl

all_both : (p : ℕ → Bool) (xs ys : List ℕ) → list_all p (xs ++ ys) ≡ (list_all p xs && list_all p ys)
all_both p [] ys = refl
all_both p (x ∷ xs) ys = ap (λ b. p x && b) (all_both p xs ys) ∙ grouped (p x) (list_all p xs) (list_all p ys)
  where
    grouped : (a b c : Bool) → (a && (b && c)) ≡ ((a && b) && c)
    grouped true b c = refl
    grouped false b c = refl

-- an option has letters
option_told : (cs t : Text) → is_dashed t ≡ true → letters_of (cs ++ drop 1 t) ≡ with_option (letters_of cs) t
unfolding is_dashed with_option
option_told cs [] h = absurd (true≢false (sym h))
option_told cs (d ∷ []) h = absurd (true≢false (sym h))
option_told [] (d ∷ e ∷ es) h = refl
option_told (c ∷ cs) (d ∷ e ∷ es) h =
    ap₂ (λ v f. record { any = true; only_variables = v; only_functions = f })
    (all_both (λ x. x == 118) (c ∷ cs) (e ∷ es)) (all_both (λ x. x == 102) (c ∷ cs) (e ∷ es))

abbrev told : Letters × List Static → Removal × List Text
told p = (removal_in p.0, listed p.1)

pub unset_told : (cs : Text) (ts : List Static)
    → unset_from cs (listed ts) ≡ (removal_in (unset_behind (letters_of cs) ts).0, listed (unset_behind (letters_of cs) ts).1)
unfolding unset_from unset_behind
unset_told cs [] = ap (λ r. (r, [])) (removal_told cs)
unset_told cs (None ∷ ts) = unset_told cs ts
unset_told cs (Some t ∷ ts) = go (unset_told (cs ++ drop 1 t) ts) (ends_options t) (is_dashed t) refl
  where
    go : unset_from (cs ++ drop 1 t) (listed ts) ≡ told (unset_behind (letters_of (cs ++ drop 1 t)) ts) → (e d : Bool) → is_dashed t ≡ d
        → (if e then (removal_of cs, listed ts) else (if d then unset_from (cs ++ drop 1 t) (listed ts) else (removal_of cs, t ∷ listed ts)))
        ≡ told (if e then (letters_of cs, ts) else (if d then unset_behind (with_option (letters_of cs) t) ts else (letters_of cs, Some t ∷ ts)))
    go u true d h = ap (λ r. (r, listed ts)) (removal_told cs)
    go u false true h = u ∙ ap (λ l. told (unset_behind l ts)) (option_told cs t h)
    go u false false h = ap (λ r. (r, t ∷ listed ts)) (removal_told cs)
