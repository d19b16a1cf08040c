-- The functions of a call table are those that the demands speak of: the names that the commands of
-- the script define.
use Rattle.std.proofs.Common.{◌≡◌, ℕ, Bool, true, false, not, ◌&&◌, ◌||◌, cond, if◌then◌else◌, List, [], ◌∷◌, ◌++◌, map, fold, Option, Some, None, refl, sym, ap, ap₂, ◌∙◌, nat_lt}
use Rattle.std.specs.List.{cons_option, filter_map, list_all}
use Rattle.std.specs.Str.{bytes_eq}
use Rattle.std.proofs.lemmas.List.Folds.{list_any-append}
use Rattle.std.proofs.lemmas.Slice.Eq.{bytes_eq-Decides}
use Rattle.sh_tree.specs.standard.program.Syntax as p
use Rattle.sh_tree.specs.standard.program.Syntax.{Text}
use Rattle.sh_runs.specs.Calls.{defined, with_name, names_of}
use Rattle.sh_runs.specs.Sites.{Site, site_of, form_of, placed, by_number, sites_of}
use Rattle.sh_runs.specs.Surroundings.{Surroundings, Located, outside, items_located}
use Rattle.sh_runs.specs.standard.runs.Environment.{is_one_of}
use Rattle.sh_domain.specs.Entries.{Entered, script_entered}
use Rattle.sh_domain.specs.Rules.{defined_by, functions_of}
use Rattle.sh_gains.proofs.LocatedLemmas.{script_listed}

-- whether the name is that one
abbrev is_it : Text → Option Text → Bool
is_it t None = false
is_it t (Some u) = bytes_eq u t

either : (a b : Bool) → (a || not b) ≡ not (not a && b)
either true b = refl
either false b = refl

-- a name among those that some of these give
named : {A : Type 0} (f : A → Option Text) (t : Text) (xs : List A) → is_one_of (filter_map f xs) t ≡ not (list_all (λ x. not (is_it t (f x))) xs)
named f t [] = refl
named f t (x ∷ xs) = go (named f t xs) (f x)
  where
    go : is_one_of (filter_map f xs) t ≡ not (list_all (λ y. not (is_it t (f y))) xs) → (o : Option Text)
        → is_one_of (cons_option o (filter_map f xs)) t ≡ not (not (is_it t o) && list_all (λ y. not (is_it t (f y))) xs)
    go h None = h
    go h (Some u) = ap (λ b. bytes_eq u t || b) h ∙ either (bytes_eq u t) (list_all (λ y. not (is_it t (f y))) xs)

-- the order of the commands does not matter

turned : (a b c : Bool) → (a && (b && c)) ≡ (b && (a && c))
turned true b c = refl
turned false true c = refl
turned false false c = refl

placed_all : (f : Site → Bool) (s : Site) (ss : List Site) → list_all f (placed s ss) ≡ (f s && list_all f ss)
unfolding placed
placed_all f s [] = refl
placed_all f s (x ∷ xs) = go (nat_lt x.number s.number) (placed_all f s xs)
  where
    go : (b : Bool) → list_all f (placed s xs) ≡ (f s && list_all f xs) → list_all f (cond b (x ∷ placed s xs) (s ∷ x ∷ xs)) ≡ (f s && (f x && list_all f xs))
    go true h = ap (λ y. f x && y) h ∙ turned (f x) (f s) (list_all f xs)
    go false h = refl

sorted_all : (f : Site → Bool) (ss : List Site) → list_all f (by_number ss) ≡ list_all f ss
unfolding by_number
sorted_all f [] = refl
sorted_all f (s ∷ ss) = placed_all f s (by_number ss) ∙ ap (λ y. f s && y) (sorted_all f ss)

-- names in turn

grouped : (a b c : Bool) → ((a || b) || c) ≡ (a || (b || c))
grouped true b c = refl
grouped false b c = refl

with_none : (a : Bool) → (a || false) ≡ a
with_none true = refl
with_none false = refl

-- a name that is there may be added once more
again : (names : List Text) (u t : Text) → is_one_of names u ≡ true → is_one_of names t ≡ (is_one_of names t || bytes_eq u t)
again names u t h = go (bytes_eq u t) refl
  where
    true_last : (b : Bool) → b ≡ true → b ≡ (b || true)
    true_last true e = refl
    true_last false e = e

    go : (b : Bool) → bytes_eq u t ≡ b → is_one_of names t ≡ (is_one_of names t || b)
    go true e = true_last (is_one_of names t) (ap (is_one_of names) (sym ((bytes_eq-Decides u t).0 e)) ∙ h)
    go false e = sym (with_none (is_one_of names t))

one_more : (names : List Text) (u t : Text) → is_one_of (with_name names u) t ≡ (is_one_of names t || bytes_eq u t)
unfolding with_name
one_more names u t = go (is_one_of names u) refl
  where
    go : (b : Bool) → is_one_of names u ≡ b → is_one_of (if b then names else names ++ u ∷ []) t ≡ (is_one_of names t || bytes_eq u t)
    go true e = again names u t e
    go false e = list_any-append (λ n. bytes_eq n t) names (u ∷ []) ∙ ap (λ b. is_one_of names t || b) (with_none (bytes_eq u t))

all_more : (names xs : List Text) (t : Text) → is_one_of (fold with_name names xs) t ≡ (is_one_of names t || is_one_of xs t)
all_more names [] t = sym (with_none (is_one_of names t))
all_more names (x ∷ xs) t =
    all_more (with_name names x) xs t
    ∙ ap (λ b. b || is_one_of xs t) (one_more names x t)
    ∙ grouped (is_one_of names t) (bytes_eq x t) (is_one_of xs t)

-- what a command defines

form_same : (k : p.Kind) (n at : ℕ) (rs : p.Redirects) → defined (form_of k) ≡ defined_by (p.command n at k rs)
unfolding defined form_of defined_by
form_same (p.Define name body) n at rs = refl
form_same k n at rs = refl

site_same : (l : Located) → defined (site_of l).form ≡ defined_by l.command
unfolding site_of
site_same l = go l.surroundings l.command
  where
    go : (x : Surroundings) (c : p.Command) → defined (site_of (record { command = c; surroundings = x })).form ≡ defined_by c
    go x (p.command n at k rs) = form_same k n at rs

sites_same : (t : Text) (ls : List Located)
    → list_all (λ (s : Site). not (is_it t (defined s.form))) (map site_of ls) ≡ list_all (λ (l : Located). not (is_it t (defined_by l.command))) ls
sites_same t [] = refl
sites_same t (l ∷ ls) = ap₂ (λ a b. a && b) (ap (λ o. not (is_it t o)) (site_same l)) (sites_same t ls)

-- of a program
pub functions_same : (t : p.Items) (name : Text) → is_one_of (names_of (sites_of t)) name ≡ is_one_of (functions_of (script_entered t)) name
unfolding names_of sites_of
functions_same t name =
    let located = items_located outside t in
    let test : p.Command → Bool = λ c. not (is_it name (defined_by c)) in
    all_more [] (filter_map (λ (s : Site). defined s.form) (by_number (map site_of located))) name
    ∙ named (λ (s : Site). defined s.form) name (by_number (map site_of located))
    ∙ ap not
    (sorted_all (λ (s : Site). not (is_it name (defined s.form))) (map site_of located)
    ∙ sites_same name located
    ∙ script_listed test t)
    ∙ sym (named (λ (e : Entered). defined_by e.command) name (script_entered t))
