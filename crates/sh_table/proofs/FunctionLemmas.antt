-- The functions of commands, a command at a time.
use Rattle.std.proofs.Common.{◌≡◌, ℕ, suc, ◌<◌, ◌≤◌, Bool, true, false, cond, ◌||◌, if◌then◌else◌, List, [], ◌∷◌, ◌++◌, length, drop, get_or, map, fold, Option, Some, None, option_map, refl, sym, ap, ap₂, ◌∙◌, subst, arith, Vec, Global}
use Rattle.std.proofs.Math.ListN.{set}
use Rattle.std.proofs.Math.Path.{fun_ext}
use Rattle.std.specs.List.{cons_option, filter, filter_map, list_any, position_from}
use Rattle.std.specs.Str.{bytes_eq}
use Rattle.std.proofs.lemmas.List.{append-nil, append_assoc, drop_all, get_or-map, map-append, map-set, length-map}
use Rattle.std.proofs.lemmas.List.Elements.{filter-append, filter_map-append}
use Rattle.std.proofs.lemmas.List.Folds.{list_any-append}
use Rattle.std.proofs.lemmas.List.Sums.{fold-append}
use Rattle.std.proofs.lemmas.Slice.Eq.{bytes_eq-Decides}
use Rattle.sh_tree.specs.standard.program.Syntax.{Text}
use Rattle.sh_runs.specs.Calls.{Functions, defined, defines, with_name, names_of, definitions_of, functions_of}
use Rattle.sh_table.specs.KeptTable.{functions_in, with_number, with_definition}
use Rattle.sh_table.specs.Found.{definition_at, definition_of, definition_in, with_defined}
use Rattle.sh_table.specs.declared.functions.Definition as declared
use Rattle.sh_runs.specs.Sites.{Form, Simple, Defines, Other, Site}
use Rattle.sh_runs.specs.standard.runs.Environment.{is_one_of}
use Rattle.sh_runs.proofs.PositionLemmas.{place, place_later, held_at, not_held, bytes_eq_swap}

-- One number more

number_at : (names : List Text) (ds : List (List ℕ)) (t : Text) (n i : ℕ) → place names t ≡ Some i → length names ≤ length ds → set ds i (get_or ds i [] ++ n ∷ []) ≡ with_number names ds t n
unfolding with_number
number_at [] ds t n i e l = cc
number_at (u ∷ us) [] t n i e l = absurd (omega (arith, l))
number_at (u ∷ us) (d ∷ ds) t n i e l = go (λ j h. number_at us ds t n j h (omega (arith, l))) (bytes_eq u t) e
  where
    More : Type 0
    More = (j : ℕ) → place us t ≡ Some j → set ds j (get_or ds j [] ++ n ∷ []) ≡ with_number us ds t n

    later : More → (o : Option ℕ) → place us t ≡ o → option_map suc o ≡ Some i → set (d ∷ ds) i (get_or (d ∷ ds) i [] ++ n ∷ []) ≡ d ∷ with_number us ds t n
    later more None h k = cc
    later more (Some j) h k = let at : i ≡ suc j = cc in rw at (ap (λ es. d ∷ es) (more j h))

    go : More → (x : Bool) → cond x (Some 0) (position_from (λ name. bytes_eq name t) 1 us) ≡ Some i
        → set (d ∷ ds) i (get_or (d ∷ ds) i [] ++ n ∷ []) ≡ cond x ((d ++ n ∷ []) ∷ ds) (d ∷ with_number us ds t n)
    go more true h = let at : i ≡ 0 = cc in rw at refl
    go more false h = later more (place us t) refl (sym (place_later t 0 us) ∙ h)

number_behind : (names : List Text) (ds : List (List ℕ)) (t : Text) (n : ℕ) → is_one_of names t ≡ false → length names ≤ length ds → with_number names ds t n ≡ ds ++ (n ∷ []) ∷ []
unfolding with_number
number_behind [] ds t n e l = refl
number_behind (u ∷ us) [] t n e l = absurd (omega (arith, l))
number_behind (u ∷ us) (d ∷ ds) t n e l = go (λ h. number_behind us ds t n h (omega (arith, l))) (bytes_eq u t) e
  where
    go : (is_one_of us t ≡ false → with_number us ds t n ≡ ds ++ (n ∷ []) ∷ []) → (x : Bool) → (x || is_one_of us t) ≡ false → cond x ((d ++ n ∷ []) ∷ ds) (d ∷ with_number us ds t n) ≡ d ∷ (ds ++ (n ∷ []) ∷ [])
    go more true h = cc
    go more false h = ap (λ es. d ∷ es) (more h)

-- What is kept with one more

abbrev items_of : List (Vec ℕ Global) → List (List ℕ)
items_of vs = map (λ v. v.items) vs

pub put_more : (t : Text) (n i : ℕ) (keys ds : List (Vec ℕ Global)) (old new d : Vec ℕ Global) → place (items_of keys) t ≡ Some i → length keys ≤ length ds → i < length ds → old ≡ get_or ds i d
    → new.items ≡ old.items ++ n ∷ [] → functions_in keys (set ds i new) ≡ with_definition (functions_in keys ds) t n
unfolding with_definition with_name
put_more t n i keys ds old new d e l within at more =
    let there = held_at (items_of keys) t i e in
    let keys_long : length (items_of keys) ≡ length keys = length-map keys (λ (v : Vec ℕ Global). v.items) in
    let long : length (items_of ds) ≡ length ds = length-map ds (λ (v : Vec ℕ Global). v.items) in
    let same : get_or (items_of ds) i [] ≡ old.items = get_or-map (λ (v : Vec ℕ Global). v.items) ds i d [] within ∙ ap (λ (v : Vec ℕ Global). v.items) (sym at) in
    let numbers : items_of (set ds i new) ≡ with_number (items_of keys) (items_of ds) t n =
    map-set (λ (v : Vec ℕ Global). v.items) ds i new ∙ ap (set (items_of ds) i) (more ∙ ap (λ ns. ns ++ n ∷ []) (sym same))
    ∙ number_at (items_of keys) (items_of ds) t n i e (omega (arith, keys_long, long, l)) in
    rw there (ap (λ ns. record { names = items_of keys; definitions = ns }) numbers)

pub put_first : (t : Text) (n : ℕ) (keys new_keys ds new_ds : List (Vec ℕ Global)) (own numbers : Vec ℕ Global) → own.items ≡ t → numbers.items ≡ n ∷ []
    → new_keys ≡ (if list_any (λ (v : Vec ℕ Global). bytes_eq own.items v.items) keys then keys else keys ++ own ∷ []) → new_ds ≡ ds ++ numbers ∷ [] → place (items_of keys) t ≡ None
    → length keys ≤ length ds → functions_in new_keys new_ds ≡ with_definition (functions_in keys ds) t n
unfolding with_definition with_name
put_first t n keys new_keys ds new_ds own numbers same one k d e l =
    let new : is_one_of (items_of keys) t ≡ false = not_held (items_of keys) t 0 e in
    let keys_long : length (items_of keys) ≡ length keys = length-map keys (λ (v : Vec ℕ Global). v.items) in
    let long : length (items_of ds) ≡ length ds = length-map ds (λ (v : Vec ℕ Global). v.items) in
    let other : list_any (λ (v : Vec ℕ Global). bytes_eq own.items v.items) keys ≡ false = ap (λ u. list_any (λ (v : Vec ℕ Global). bytes_eq u v.items) keys) same ∙ any_swap t keys ∙ new in
    let names : items_of new_keys ≡ items_of keys ++ t ∷ [] =
    ap items_of (k ∙ ap (λ c. if c then keys else keys ++ own ∷ []) other) ∙ map-append (λ (v : Vec ℕ Global). v.items) keys (own ∷ []) ∙ ap (λ u. items_of keys ++ u ∷ []) same in
    let all : items_of new_ds ≡ with_number (items_of keys) (items_of ds) t n =
    ap items_of d ∙ map-append (λ (v : Vec ℕ Global). v.items) ds (numbers ∷ []) ∙ ap (λ u. items_of ds ++ u ∷ []) one
    ∙ sym (number_behind (items_of keys) (items_of ds) t n new (omega (arith, keys_long, long, l))) in
    rw new (ap₂ (λ us ns. record { names = us; definitions = ns }) names all)
  where
    any_swap : (u : Text) (vs : List (Vec ℕ Global)) → list_any (λ v. bytes_eq u v.items) vs ≡ is_one_of (items_of vs) u
    any_swap u [] = refl
    any_swap u (v ∷ vs) = rw (bytes_eq_swap v.items u, any_swap u vs) refl

-- All commands

abbrev Distinct : List Text → Type 0
Distinct [] = Unit {0}
Distinct (u ∷ us) = (is_one_of us u ≡ false) × Distinct us

held_with : (names : List Text) (t u : Text) → is_one_of (with_name names t) u ≡ (is_one_of names u || bytes_eq t u)
unfolding with_name
held_with names t u = go (is_one_of names t) refl
  where
    same : (x y : Bool) → is_one_of names t ≡ true → is_one_of names u ≡ x → bytes_eq t u ≡ y → x ≡ (x || y)
    same true y h k e = refl
    same false false h k e = refl
    same false true h k e = let one : t ≡ u = (bytes_eq-Decides t u).0 e in let both : is_one_of names u ≡ true = subst (λ w. is_one_of names w ≡ true) one h in cc

    none : (x : Bool) → (x || (bytes_eq t u || false)) ≡ (x || bytes_eq t u)
    none true = refl
    none false = other (bytes_eq t u)
      where
        other : (y : Bool) → (y || false) ≡ y
        other true = refl
        other false = refl

    go : (x : Bool) → is_one_of names t ≡ x → is_one_of (if x then names else names ++ t ∷ []) u ≡ (is_one_of names u || bytes_eq t u)
    go true h = same (is_one_of names u) (bytes_eq t u) h refl refl
    go false h = list_any-append (λ name. bytes_eq name u) names (t ∷ []) ∙ none (is_one_of names u)

distinct_behind : (names : List Text) (t : Text) → is_one_of names t ≡ false → Distinct names → Distinct (names ++ t ∷ [])
distinct_behind [] t h d = (refl, tt)
distinct_behind (u ∷ us) t h d = go (λ k. distinct_behind us t k d.1) (bytes_eq u t) refl h
  where
    go : (is_one_of us t ≡ false → Distinct (us ++ t ∷ [])) → (x : Bool) → bytes_eq u t ≡ x → (x || is_one_of us t) ≡ false → Distinct (u ∷ (us ++ t ∷ []))
    go more true e k = cc
    go more false e k =
        let back : bytes_eq t u ≡ false = bytes_eq_swap t u ∙ e in
        let first : is_one_of us u ≡ false = d.0 in
        (list_any-append (λ name. bytes_eq name u) us (t ∷ []) ∙ rw (first, back) refl, more k)

distinct_with : (names : List Text) (t : Text) → Distinct names → Distinct (with_name names t)
unfolding with_name
distinct_with names t d = go (is_one_of names t) refl
  where
    go : (x : Bool) → is_one_of names t ≡ x → Distinct (if x then names else names ++ t ∷ [])
    go true h = d
    go false h = distinct_behind names t h d

distinct_fold : (names ts : List Text) → Distinct names → Distinct (fold with_name names ts)
distinct_fold names [] d = d
distinct_fold names (t ∷ ts) d = distinct_fold (with_name names t) ts (distinct_with names t d)

distinct_names : (ss : List Site) → Distinct (names_of ss)
unfolding names_of
distinct_names ss = distinct_fold [] (filter_map (λ s. defined s.form) ss) tt

held_fold : (names ts : List Text) (u : Text) → is_one_of names u ≡ true → is_one_of (fold with_name names ts) u ≡ true
held_fold names [] u h = h
held_fold names (t ∷ ts) u h = held_fold (with_name names t) ts u (held_with names t u ∙ rw h refl)

-- a name that is none of those defined has no definition

or_true : (x : Bool) → (x || true) ≡ true
or_true true = refl
or_true false = refl

abbrev all_defined : List Site → List Text
all_defined ss = filter_map (λ s. defined s.form) ss

abbrev defining : Text → List Site → List Site
defining u ss = filter (λ s. defines u s.form) ss

none_fold : (names : List Text) (ss : List Site) (u : Text) → is_one_of (fold with_name names (all_defined ss)) u ≡ false → defining u ss ≡ []
unfolding defined defines
none_fold names [] u h = refl
none_fold names (s ∷ ss) u h = go (λ ns k. none_fold ns ss u k) s.form h
  where
    More : Type 0
    More = (ns : List Text) → is_one_of (fold with_name ns (all_defined ss)) u ≡ false → defining u ss ≡ []

    step : More → (t : Text) → is_one_of (fold with_name (with_name names t) (all_defined ss)) u ≡ false → (x : Bool) → bytes_eq u t ≡ x → cond x (s ∷ defining u ss) (defining u ss) ≡ []
    step more t k true e =
        let back : bytes_eq t u ≡ true = bytes_eq_swap t u ∙ e in
        let here : is_one_of (with_name names t) u ≡ true = held_with names t u ∙ rw back (or_true (is_one_of names u)) in
        let there = held_fold (with_name names t) (all_defined ss) u here in cc
    step more t k false e = more (with_name names t) k

    go : More → (f : Form) → is_one_of (fold with_name names (cons_option (defined f) (all_defined ss))) u ≡ false → cond (defines u f) (s ∷ defining u ss) (defining u ss) ≡ []
    go more (Simple ws) k = more names k
    go more (Defines t) k = step more t k (bytes_eq u t) refl
    go more Other k = more names k

none_defined : (ss : List Site) (u : Text) → is_one_of (names_of ss) u ≡ false → definitions_of ss u ≡ []
unfolding names_of definitions_of
none_defined ss u h = ap (map (λ (s : Site). s.number)) (none_fold [] ss u h)

-- with one more command

definitions_more : (ss : List Site) (s : Site) (u t : Text) → s.form ≡ Defines t → definitions_of (ss ++ s ∷ []) u ≡ definitions_of ss u ++ (if bytes_eq u t then s.number ∷ [] else [])
unfolding definitions_of defines
definitions_more ss s u t e =
    ap (map (λ (x : Site). x.number)) (filter-append (λ (x : Site). defines u x.form) ss (s ∷ []))
    ∙ map-append (λ (x : Site). x.number) (defining u ss) (defining u (s ∷ []))
    ∙ ap (λ ns. map (λ (x : Site). x.number) (defining u ss) ++ ns) (last s.form e)
  where
    number_of : (x : Bool) → map (λ (y : Site). y.number) (cond x (s ∷ []) []) ≡ cond x (s.number ∷ []) []
    number_of true = refl
    number_of false = refl

    last : (f : Form) → f ≡ Defines t → map (λ (y : Site). y.number) (cond (defines u f) (s ∷ []) []) ≡ cond (bytes_eq u t) (s.number ∷ []) []
    last f h = rw h (number_of (bytes_eq u t))

others_stay : (ss : List Site) (s : Site) (t : Text) (us : List Text) → s.form ≡ Defines t → is_one_of us t ≡ false → map (definitions_of (ss ++ s ∷ [])) us ≡ map (definitions_of ss) us
others_stay ss s t [] e h = refl
others_stay ss s t (u ∷ us) e h = go (others_stay ss s t us e) (bytes_eq u t) refl h
  where
    go : (is_one_of us t ≡ false → map (definitions_of (ss ++ s ∷ [])) us ≡ map (definitions_of ss) us) → (x : Bool) → bytes_eq u t ≡ x → (x || is_one_of us t) ≡ false → definitions_of (ss ++ s ∷ []) u ∷ map (definitions_of (ss ++ s ∷ [])) us ≡ definitions_of ss u ∷ map (definitions_of ss) us
    go more true k l = cc
    go more false k l =
        let first : definitions_of (ss ++ s ∷ []) u ≡ definitions_of ss u = definitions_more ss s u t e ∙ rw k (append-nil (definitions_of ss u)) in
        ap₂ (λ d ds. d ∷ ds) first (more l)

known_more : (ss : List Site) (s : Site) (t : Text) (us : List Text) → s.form ≡ Defines t → Distinct us → is_one_of us t ≡ true
    → with_number us (map (definitions_of ss) us) t s.number ≡ map (definitions_of (ss ++ s ∷ [])) us
unfolding with_number
known_more ss s t [] e d h = cc
known_more ss s t (u ∷ us) e d h = go (known_more ss s t us e d.1) (bytes_eq u t) refl h
  where
    go : (is_one_of us t ≡ true → with_number us (map (definitions_of ss) us) t s.number ≡ map (definitions_of (ss ++ s ∷ [])) us) → (x : Bool) → bytes_eq u t ≡ x → (x || is_one_of us t) ≡ true
        → cond x ((definitions_of ss u ++ s.number ∷ []) ∷ map (definitions_of ss) us) (definitions_of ss u ∷ with_number us (map (definitions_of ss) us) t s.number)
        ≡ definitions_of (ss ++ s ∷ []) u ∷ map (definitions_of (ss ++ s ∷ [])) us
    go more true k l =
        let same : u ≡ t = (bytes_eq-Decides u t).0 k in
        let apart : is_one_of us t ≡ false = subst (λ w. is_one_of us w ≡ false) same d.0 in
        let first : definitions_of (ss ++ s ∷ []) u ≡ definitions_of ss u ++ s.number ∷ [] = definitions_more ss s u t e ∙ rw k refl in
        ap₂ (λ x xs. x ∷ xs) (sym first) (sym (others_stay ss s t us e apart))
    go more false k l =
        let first : definitions_of (ss ++ s ∷ []) u ≡ definitions_of ss u = definitions_more ss s u t e ∙ rw k (append-nil (definitions_of ss u)) in
        ap₂ (λ x xs. x ∷ xs) (sym first) (more l)

all_more : (ss : List Site) (s : Site) (t : Text) (us : List Text) → s.form ≡ Defines t → Distinct us → (is_one_of us t ≡ false → definitions_of ss t ≡ [])
    → with_number us (map (definitions_of ss) us) t s.number ≡ map (definitions_of (ss ++ s ∷ [])) (with_name us t)
unfolding with_name
all_more ss s t us e d none = go (is_one_of us t) refl
  where
    go : (x : Bool) → is_one_of us t ≡ x → with_number us (map (definitions_of ss) us) t s.number ≡ map (definitions_of (ss ++ s ∷ [])) (if x then us else us ++ t ∷ [])
    go true h = known_more ss s t us e d h
    go false h =
        let long : length (map (definitions_of ss) us) ≡ length us = length-map us (definitions_of ss) in
        let own : definitions_of (ss ++ s ∷ []) t ≡ s.number ∷ [] = definitions_more ss s t t e ∙ rw ((bytes_eq-Decides t t).1 refl, none h) refl in
        number_behind us (map (definitions_of ss) us) t s.number h (omega (arith, long))
        ∙ ap₂ (λ x y. x ++ y ∷ []) (sym (others_stay ss s t us e h)) (sym own)
        ∙ sym (map-append (definitions_of (ss ++ s ∷ [])) us (t ∷ []))

names_more : (ss : List Site) (s : Site) (t : Text) → s.form ≡ Defines t → names_of (ss ++ s ∷ []) ≡ with_name (names_of ss) t
unfolding names_of defined
names_more ss s t e =
    ap (fold with_name []) (filter_map-append (λ (x : Site). defined x.form) ss (s ∷ []))
    ∙ fold-append with_name [] (filter_map (λ (x : Site). defined x.form) ss) (filter_map (λ (x : Site). defined x.form) (s ∷ []))
    ∙ rw e refl

-- a command that defines nothing
same_more : (ss : List Site) (s : Site) → defined s.form ≡ None → functions_of (ss ++ s ∷ []) ≡ functions_of ss
unfolding functions_of names_of definitions_of defined defines
same_more ss s e =
    let names : all_defined (ss ++ s ∷ []) ≡ all_defined ss = filter_map-append (λ (x : Site). defined x.form) ss (s ∷ []) ∙ rw e (append-nil (all_defined ss)) in
    let all : definitions_of (ss ++ s ∷ []) ≡ definitions_of ss =
    fun_ext (λ u. ap (map (λ (x : Site). x.number)) (filter-append (λ (x : Site). defines u x.form) ss (s ∷ []) ∙ none u s.form e)) in
    rw names (ap (λ f. record { names = fold with_name [] (all_defined ss); definitions = map f (fold with_name [] (all_defined ss)) }) all)
  where
    none : (u : Text) (f : Form) → defined f ≡ None → defining u ss ++ cond (defines u f) (s ∷ []) [] ≡ defining u ss
    none u (Simple ws) h = append-nil (defining u ss)
    none u (Defines t) h = cc
    none u Other h = append-nil (defining u ss)

one_defined : (ss : List Site) (s : Site) (t : Text) → s.form ≡ Defines t → with_definition (functions_of ss) t s.number ≡ functions_of (ss ++ s ∷ [])
unfolding with_definition functions_of
one_defined ss s t e =
    let names = names_more ss s t e in
    let numbers = all_more ss s t (names_of ss) e (distinct_names ss) (none_defined ss t) in
    rw names (ap (λ ds. record { names = with_name (names_of ss) t; definitions = ds }) numbers)

one_more : (ss : List Site) (s : Site) → fold with_defined (functions_of ss) (filter_map definition_of (s ∷ [])) ≡ functions_of (ss ++ s ∷ [])
unfolding definition_of defined
one_more ss s = go s.form refl
  where
    go : (f : Form) → s.form ≡ f → fold with_defined (functions_of ss) (cons_option (definition_at s.number f) []) ≡ functions_of (ss ++ s ∷ [])
    go (Simple ws) e = sym (same_more ss s (ap defined e))
    go (Defines t) e = one_defined ss s t e
    go Other e = sym (same_more ss s (ap defined e))

all_functions : (before ss : List Site) → fold with_defined (functions_of before) (filter_map definition_of ss) ≡ functions_of (before ++ ss)
all_functions before [] = ap functions_of (sym (append-nil before))
all_functions before (s ∷ ss) =
    ap (fold with_defined (functions_of before)) (filter_map-append definition_of (s ∷ []) ss)
    ∙ fold-append with_defined (functions_of before) (filter_map definition_of (s ∷ [])) (filter_map definition_of ss)
    ∙ ap (λ f. fold with_defined f (filter_map definition_of ss)) (one_more before s) ∙ all_functions (before ++ s ∷ []) ss ∙ ap functions_of (append_assoc before (s ∷ []) ss)

pub functions_end : (b : List ℕ) (ds : List declared.Definition) (ss : List Site) (i : ℕ) (f g : Functions) → length ds ≤ i
    → fold with_defined g (map (definition_in b) (drop i ds)) ≡ fold with_defined f (map (definition_in b) ds) → f ≡ functions_in [] [] → map (definition_in b) ds ≡ filter_map definition_of ss
    → g ≡ functions_of ss
unfolding functions_of names_of
functions_end b ds ss i f g h e none found =
    let left : drop i ds ≡ [] = drop_all i ds h in
    let all : g ≡ fold with_defined f (map (definition_in b) ds) = rw left at e in
    all ∙ ap₂ (fold with_defined) none found ∙ all_functions [] ss
