-- The texts that are kept under a command's number are those of its words.
use Rattle.std.proofs.Common.{◌≡◌, ℕ, ◌<◌, ◌==◌, Bool, true, false, not, ◌&&◌, cond, List, [], ◌∷◌, map, refl, sym, ap, ap₂, ◌∙◌, nat_lt, arith}
use Rattle.std.proofs.lemmas.Bool.{and_parts}
use Rattle.std.proofs.lemmas.Bool.Decides.{nat_tests}
use Rattle.std.specs.List.{list_all}
use Rattle.sh_tree.specs.standard.program.Syntax as p
use Rattle.sh_tree.specs.declared.tree.Script.{Script}
use Rattle.sh_tree.specs.standard.program.Trees.{script_of}
use Rattle.sh_runs.specs.Calls.{Table, row_of, table_of, texts_with}
use Rattle.sh_table.specs.KeptTable.{row_in}
use Rattle.sh_table.specs.declared.table.Row as declared
use Rattle.sh_runs.specs.Numbering.{numbers_differ, is_numbered, precedes, numbers_rise}
use Rattle.sh_runs.specs.Profile.{Static}
use Rattle.sh_runs.specs.Sites.{Site, site_of, statics, placed, by_number, sites_of}
use Rattle.sh_runs.specs.Surroundings.{outside, items_located}

abbrev texts_of : ℕ → List Site → List Static
texts_of n ss = texts_with n (map row_of ss)

-- the order of the commands does not matter

placed_texts : (n : ℕ) (s : Site) (ss : List Site) → texts_of n (placed s ss) ≡ texts_of n (s ∷ ss)
unfolding placed texts_with row_of
placed_texts n s [] = refl
placed_texts n s (x ∷ xs) = go (placed_texts n s xs) (nat_lt x.number s.number) refl
  where
    skip : (t u : Bool) → (x.number == n) ≡ t → (s.number == n) ≡ u → nat_lt x.number s.number ≡ true
        → cond t (statics x.form) (cond u (statics s.form) (texts_of n xs)) ≡ cond u (statics s.form) (cond t (statics x.form) (texts_of n xs))
    skip true true e h less = let absurdly : true ≡ false = grind (arith, nat_tests) in cc
    skip true false e h less = refl
    skip false true e h less = refl
    skip false false e h less = refl

    go : texts_of n (placed s xs) ≡ texts_of n (s ∷ xs) → (t : Bool) → nat_lt x.number s.number ≡ t
        → texts_of n (cond t (x ∷ placed s xs) (s ∷ x ∷ xs)) ≡ cond (s.number == n) (statics s.form) (cond (x.number == n) (statics x.form) (texts_of n xs))
    go h true e = ap (λ ts. cond (x.number == n) (statics x.form) ts) h ∙ skip (x.number == n) (s.number == n) refl refl e
    go h false e = refl

sorted_texts : (n : ℕ) (ss : List Site) → texts_of n (by_number ss) ≡ texts_of n ss
unfolding by_number texts_with row_of
sorted_texts n [] = refl
sorted_texts n (s ∷ ss) = placed_texts n s (by_number ss) ∙ ap (λ ts. cond (s.number == n) (statics s.form) ts) (sorted_texts n ss)

-- each command's texts are under its number
abbrev pub Tells : (ℕ → List Static) → List Site → Type 0
Tells told [] = Unit {0}
Tells told (s ∷ ss) = (told s.number ≡ statics s.form) × Tells told ss

behind : (s : Site) (xs ss : List Site) → list_all (λ x. not (x.number == s.number)) ss ≡ true → Tells (λ n. texts_of n xs) ss → Tells (λ n. texts_of n (s ∷ xs)) ss
unfolding texts_with row_of
behind s xs [] a h = tt
behind s xs (x ∷ ss) a h =
    let parts = and_parts _ _ a in
    let first : not (x.number == s.number) ≡ true = parts.0 in
    let other : (s.number == x.number) ≡ false = grind (arith, nat_tests) in
    (rw other h.0, behind s xs ss parts.1 h.1)

apart : (ss : List Site) → numbers_differ ss ≡ true → Tells (λ n. texts_of n ss) ss
unfolding numbers_differ texts_with row_of
apart [] a = tt
apart (s ∷ ss) a =
    let parts = and_parts _ _ a in
    let itself : (s.number == s.number) ≡ true = grind (arith, nat_tests) in
    (rw itself refl, behind s ss ss parts.0 (apart ss parts.1))

same_told : (f g : ℕ → List Static) (ss : List Site) → ((n : ℕ) → f n ≡ g n) → Tells f ss → Tells g ss
same_told f g [] e h = tt
same_told f g (s ∷ ss) e h = (sym (e s.number) ∙ h.0, same_told f g ss e h.1)

pub numbered_tells : (t : p.Items) → is_numbered t ≡ true → Tells (λ n. texts_with n (map row_of (sites_of t))) (map site_of (items_located outside t))
unfolding is_numbered sites_of
numbered_tells t a =
    same_told (λ n. texts_of n (map site_of (items_located outside t))) (λ n. texts_of n (by_number (map site_of (items_located outside t)))) _ (λ n. sym (sorted_texts n _))
    (apart _ a)

-- Numbers that rise differ

abbrev numbers : List Site → List ℕ
numbers ss = map (λ s. s.number) ss

abbrev Past : ℕ → List Site → Type 0
Past n [] = Unit {0}
Past n (s ∷ ss) = (n < s.number) × Past n ss

further : (m n : ℕ) (ss : List Site) → m < n → Past n ss → Past m ss
further m n [] h p = tt
further m n (s ∷ ss) h p = (let more = p.0 in omega (arith, h, more), further m n ss h p.1)

others : (n : ℕ) (ss : List Site) → Past n ss → list_all (λ x. not (x.number == n)) ss ≡ true
others n [] p = refl
others n (s ∷ ss) p =
    let more : n < s.number = p.0 in
    let other : (s.number == n) ≡ false = grind (arith, nat_tests) in
    rw other (others n ss p.1)

rising_past : (s : Site) (ss : List Site) → numbers_rise (numbers (s ∷ ss)) ≡ true → Past s.number ss × (numbers_rise (numbers ss) ≡ true)
unfolding numbers_rise precedes
rising_past s [] h = (tt, refl)
rising_past s (x ∷ xs) h =
    let parts = and_parts _ _ h in
    let test : nat_lt s.number x.number ≡ true = parts.0 in
    let less : s.number < x.number = grind (arith, nat_tests) in
    ((less, further s.number x.number xs less (rising_past x xs parts.1).0), parts.1)

rising_differ : (ss : List Site) → numbers_rise (numbers ss) ≡ true → numbers_differ ss ≡ true
unfolding numbers_differ
rising_differ [] h = refl
rising_differ (s ∷ ss) h = let past = rising_past s ss h in rw (others s.number ss past.0) (rising_differ ss past.1)

-- the order does not matter

swapped : (a b : ℕ) → (a == b) ≡ (b == a)
swapped a b = go (a == b) (b == a) refl refl
  where
    go : (x y : Bool) → (a == b) ≡ x → (b == a) ≡ y → x ≡ y
    go true true e f = refl
    go false false e f = refl
    go true false e f = let never : true ≡ false = grind (arith, nat_tests) in cc
    go false true e f = let never : true ≡ false = grind (arith, nat_tests) in cc

placed_all : (f : Site → Bool) (s : Site) (ss : List Site) → list_all f (placed s ss) ≡ (f s && list_all f ss)
unfolding placed
placed_all f s [] = refl
placed_all f s (x ∷ xs) = go (nat_lt x.number s.number) (placed_all f s xs)
  where
    turned : (a b c : Bool) → (a && (b && c)) ≡ (b && (a && c))
    turned true b c = refl
    turned false true c = refl
    turned false false c = refl

    go : (t : Bool) → list_all f (placed s xs) ≡ (f s && list_all f xs) → list_all f (cond t (x ∷ placed s xs) (s ∷ x ∷ xs)) ≡ (f s && (f x && list_all f xs))
    go true h = ap (λ y. f x && y) h ∙ turned (f x) (f s) (list_all f xs)
    go false h = refl

placed_differ : (s : Site) (ss : List Site) → numbers_differ (placed s ss) ≡ numbers_differ (s ∷ ss)
unfolding placed numbers_differ
placed_differ s [] = refl
placed_differ s (x ∷ xs) = go (nat_lt x.number s.number) (placed_differ s xs)
  where
    turned : (b c d e : Bool) → ((b && c) && (d && e)) ≡ ((b && d) && (c && e))
    turned false c d e = refl
    turned true true d e = refl
    turned true false true e = refl
    turned true false false e = refl

    go : (t : Bool) → numbers_differ (placed s xs) ≡ (list_all (λ y. not (y.number == s.number)) xs && numbers_differ xs)
        → numbers_differ (cond t (x ∷ placed s xs) (s ∷ x ∷ xs))
        ≡ ((not (x.number == s.number) && list_all (λ y. not (y.number == s.number)) xs) && (list_all (λ y. not (y.number == x.number)) xs && numbers_differ xs))
    go true h =
        ap₂ (λ u v. u && v) (placed_all (λ y. not (y.number == x.number)) s xs) h
        ∙ ap (λ y. (not y && list_all (λ y. not (y.number == x.number)) xs) && (list_all (λ y. not (y.number == s.number)) xs && numbers_differ xs)) (swapped s.number x.number)
        ∙ turned (not (x.number == s.number)) (list_all (λ y. not (y.number == x.number)) xs) (list_all (λ y. not (y.number == s.number)) xs) (numbers_differ xs)
    go false h = refl

sorted_all : (f : Site → Bool) (ss : List Site) → list_all f (by_number ss) ≡ list_all f ss
unfolding by_number
sorted_all f [] = refl
sorted_all f (s ∷ ss) = placed_all f s (by_number ss) ∙ ap (λ y. f s && y) (sorted_all f ss)

sorted_differ : (ss : List Site) → numbers_differ (by_number ss) ≡ numbers_differ ss
unfolding by_number numbers_differ
sorted_differ [] = refl
sorted_differ (s ∷ ss) = placed_differ s (by_number ss) ∙ ap₂ (λ u v. u && v) (sorted_all (λ y. not (y.number == s.number)) ss) (sorted_differ ss)

rising_numbered : (t : p.Items) → numbers_rise (numbers (sites_of t)) ≡ true → is_numbered t ≡ true
unfolding is_numbered sites_of
rising_numbered t h = sym (sorted_differ (map site_of (items_located outside t))) ∙ rising_differ _ h

kept_numbers : (b : List ℕ) (rs : List declared.Row) → map (λ r. r.0) (map (row_in b) rs) ≡ map (λ r. r.number) rs
kept_numbers b [] = refl
kept_numbers b (r ∷ rs) = ap (λ l. r.number ∷ l) (kept_numbers b rs)

site_numbers : (ss : List Site) → map (λ r. r.0) (map row_of ss) ≡ numbers ss
unfolding row_of
site_numbers [] = refl
site_numbers (s ∷ ss) = ap (λ l. s.number ∷ l) (site_numbers ss)

-- the numbers that are kept say whether the rows of a table rise
pub rises_kept : (x : Table) (c : List ℕ) (rs : List declared.Row) → map (row_in c) rs ≡ x.rows
    → numbers_rise (map (λ q. q.number) rs) ≡ numbers_rise (map (λ q. q.0) x.rows)
rises_kept x c rs k = ap numbers_rise (sym (kept_numbers c rs) ∙ ap (map (λ q. q.0)) k)

-- the rows of a script's table rise only if no two of its commands have one number
pub rises_numbered : (x : Table) → numbers_rise (map (λ q. q.0) x.rows) ≡ true → (b : List ℕ) (t : Script) → x ≡ table_of b t → is_numbered (script_of b t) ≡ true
unfolding table_of
rises_numbered x h b t e =
    let same : map (λ q. q.0) x.rows ≡ numbers (sites_of (script_of b t)) = ap (λ z. map (λ q. q.0) z.rows) e ∙ site_numbers (sites_of (script_of b t)) in
    rising_numbered (script_of b t) (ap numbers_rise (sym same) ∙ h)
