-- The names of two rows, each once: those of the first, and those of the second that are not in the
-- first. And sets of numbers that are such rows.
use Rattle.std.proofs.Common.{◌≡◌, ℕ, zero, suc, ◌+◌, ◌<◌, Bool, true, false, not, ◌&&◌, ◌||◌, cond, if◌then◌else◌, List, [], ◌∷◌, ◌++◌, append_assoc, append-nil, filter, fold, get_or, length, map, slice_get, Some, refl, sym, subst, ap, ap₂, ◌∙◌, arith, true≢false}
use Rattle.std.specs.Cmp.{IsStrictWeakOrder}
use Rattle.std.specs.List.{All, list_all}
use Rattle.std.specs.Str.{bytes_eq}
use Rattle.std.proofs.lemmas.Bool.{and_parts}
use Rattle.std.proofs.lemmas.Cmp.{nat_list_cmp_total}
use Rattle.std.proofs.lemmas.List.{map-append}
use Rattle.std.proofs.lemmas.List.Elements.{All-head, All-tail}
use Rattle.std.proofs.lemmas.List.Folds.{list_any-append}
use Rattle.std.proofs.lemmas.List.Sorted.{ranks_by}
use Rattle.std.proofs.lemmas.List.Sums.{fold-append}
use Rattle.std.proofs.lemmas.Option.{same_Some, slice_get-get_or}
use Rattle.std.proofs.lemmas.Slice.Eq.{bytes_eq-Decides}
use Rattle.sh_tree.specs.declared.limits.TheConstants.{MAX_NAMES}
use Rattle.sh_tree.specs.declared.place.Place.{Place}
use Rattle.sh_tree.specs.standard.program.Syntax.{Text}
use Rattle.sh_runs.specs.standard.runs.Environment.{is_one_of}
use Rattle.sh_domain.specs.declared.rows.RowId.{RowId}
use Rattle.sh_domain.specs.Certificates.{in_byte_order, names_at}
use Rattle.sh_domain.specs.Demands.{drop_at, with_text}
use Rattle.sh_domain.specs.KeptRows.{KeptRows, holds_at}
use Rattle.sh_domain.specs.Knowledge.{AreNumbered, at_number}
use Rattle.sh_domain.specs.Names.{are_distinct}
use Rattle.sh_domain.specs.Numbered.{pair_in}
use Rattle.sh_domain.specs.Sheets.{precedes}
use Rattle.sh_domain.proofs.KnowledgeLemmas.{in_row}
use Rattle.sh_domain.proofs.RowReadLemmas.{rises, names_of, order_rises}
use Rattle.sh_demands.specs.Drops.{all_told}
use Rattle.sh_demands.specs.DropWalks.{drop_if, plain_step}
use Rattle.sh_demands.proofs.OnceLemmas.{all_once}

-- the number is in a row; in one and not in another
abbrev pub is_in : KeptRows → RowId → ℕ → Bool
is_in rows id n = holds_at rows.rows id.index n

abbrev pub is_only_in : KeptRows → (id other : RowId) → ℕ → Bool
is_only_in rows id other n = is_in rows id n && not (is_in rows other n)

-- Names that rise are distinct

in_order : IsStrictWeakOrder precedes
in_order = ranks_by nat_list_cmp_total (λ (t : Text). t)

before_none : (t : Text) (ts : List Text) → list_all (precedes t) ts ≡ true → is_one_of ts t ≡ false
before_none t [] a = refl
before_none t (u ∷ us) a = let p = and_parts (precedes t u) (list_all (precedes t) us) a in go (bytes_eq u t) refl p.0 (before_none t us p.1)
  where
    go : (b : Bool) → bytes_eq u t ≡ b → precedes t u ≡ true → is_one_of us t ≡ false → (b || is_one_of us t) ≡ false
    go true e q r =
        let same : u ≡ t = (bytes_eq-Decides u t).0 e in
        let back : precedes u t ≡ true = subst (λ v. precedes v t ≡ true) (sym same) (subst (λ v. precedes t v ≡ true) same q) in
        absurd (true≢false (sym back ∙ in_order.one_way t u q))
    go false e q r = r

all_filtered : (q : Text → Bool) (f : ℕ × Text → Bool) (xs : List (ℕ × Text)) → list_all q (names_of xs) ≡ true → list_all q (names_of (filter f xs)) ≡ true
all_filtered q f [] a = refl
all_filtered q f (x ∷ xs) a = let p = and_parts (q x.1) (list_all q (names_of xs)) a in go (f x) p.0 (all_filtered q f xs p.1)
  where
    go : (b : Bool) → q x.1 ≡ true → list_all q (names_of (filter f xs)) ≡ true → list_all q (names_of (cond b (x ∷ filter f xs) (filter f xs))) ≡ true
    go true h r = rw (h, r) refl
    go false h r = r

distinct_row : (f : ℕ × Text → Bool) (xs : List (ℕ × Text)) → rises (names_of xs) ≡ true → are_distinct (names_of (filter f xs)) ≡ true
unfolding rises are_distinct
distinct_row f [] r = refl
distinct_row f (x ∷ xs) r =
    let p = and_parts (list_all (precedes x.1) (names_of xs)) (rises (names_of xs)) r in
    go (f x) (before_none x.1 (names_of (filter f xs)) (all_filtered (precedes x.1) f xs p.0)) (distinct_row f xs p.1)
  where
    go : (b : Bool) → is_one_of (names_of (filter f xs)) x.1 ≡ false → are_distinct (names_of (filter f xs)) ≡ true → are_distinct (names_of (cond b (x ∷ filter f xs) (filter f xs))) ≡ true
    go true h d = rw h d
    go false h d = d

-- Distinct names after others, each once

abbrev but : List Text → List Text → List Text
but names ts = filter (λ t. not (is_one_of names t)) ts

or_parts : (a b : Bool) → (a || b) ≡ false → (a ≡ false) × (b ≡ false)
or_parts true b h = absurd (true≢false h)
or_parts false b h = (refl, h)

or_none : (a b : Bool) → b ≡ false → (a || (b || false)) ≡ a
or_none true b h = refl
or_none false b h = rw h refl

turned : (t u : Text) → bytes_eq u t ≡ false → bytes_eq t u ≡ false
turned t u h = go (bytes_eq t u) refl
  where
    go : (b : Bool) → bytes_eq t u ≡ b → b ≡ false
    go true e = absurd (true≢false (sym ((bytes_eq-Decides u t).1 (sym ((bytes_eq-Decides t u).0 e))) ∙ h))
    go false e = refl

one_more_but : (names : List Text) (t : Text) (ts : List Text) → is_one_of ts t ≡ false → but (names ++ t ∷ []) ts ≡ but names ts
one_more_but names t [] h = refl
one_more_but names t (u ∷ us) h =
    let p = or_parts (bytes_eq u t) (is_one_of us t) h in
    let same : is_one_of (names ++ t ∷ []) u ≡ is_one_of names u =
    list_any-append (λ n. bytes_eq n u) names (t ∷ []) ∙ or_none (is_one_of names u) (bytes_eq t u) (turned t u p.0) in
    ap₂ (λ (b : Bool) (vs : List Text). cond (not b) (u ∷ vs) vs) same (one_more_but names t us p.1)

not_so : (b : Bool) → not b ≡ true → b ≡ false
not_so false h = refl
not_so true h = absurd (true≢false (sym h))

each_once : (names ts : List Text) → are_distinct ts ≡ true → fold with_text names ts ≡ names ++ but names ts
unfolding are_distinct with_text
each_once names [] d = sym (append-nil names)
each_once names (t ∷ ts) d =
    let p = and_parts (not (is_one_of ts t)) (are_distinct ts) d in
    go (is_one_of names t) (each_once names ts p.1) (each_once (names ++ t ∷ []) ts p.1 ∙ append_assoc names (t ∷ []) (but (names ++ t ∷ []) ts) ∙ ap (λ us. names ++ t ∷ us) (one_more_but names t ts (not_so (is_one_of ts t) p.0)))
  where
    go : (b : Bool) → fold with_text names ts ≡ names ++ but names ts → fold with_text (names ++ t ∷ []) ts ≡ names ++ t ∷ but names ts
        → fold with_text (if b then names else names ++ t ∷ []) ts ≡ names ++ cond (not b) (t ∷ but names ts) (but names ts)
    go true h k = h
    go false h k = k

but_none : (ts : List Text) → but [] ts ≡ ts
but_none [] = refl
but_none (t ∷ ts) = ap (λ us. t ∷ us) (but_none ts)

both_once : (xs ys : List Text) → are_distinct xs ≡ true → are_distinct ys ≡ true → fold with_text [] (xs ++ ys) ≡ xs ++ but xs ys
both_once xs ys d e =
    fold-append with_text [] xs ys ∙ ap (λ ns. fold with_text ns ys) (each_once [] xs d ∙ but_none xs) ∙ each_once xs ys e

-- Names that are numbered are distinct

found : (ts : List Text) (t : Text) → is_one_of ts t ≡ true → (j : ℕ) × (slice_get ts j ≡ Some t)
found [] t e = absurd (true≢false (sym e))
found (u ∷ us) t e = go (bytes_eq u t) refl e (found us t)
  where
    go : (b : Bool) → bytes_eq u t ≡ b → (b || is_one_of us t) ≡ true → (is_one_of us t ≡ true → (j : ℕ) × (slice_get us j ≡ Some t)) → (j : ℕ) × (slice_get (u ∷ us) j ≡ Some t)
    go true s h r = (0, ap Some ((bytes_eq-Decides u t).0 s))
    go false s h r = let x = r h in (suc x.0, x.1)

behind : (front ts : List Text) (j n : ℕ) → n ≡ length front + j → slice_get (front ++ ts) n ≡ slice_get ts j
behind [] ts j n e = let same : n ≡ j = omega arith in ap (slice_get ts) same
behind (x ∷ front) ts j zero e = absurd (omega arith)
behind (x ∷ front) ts j (suc n) e = behind front ts j n (omega arith)

distinct_behind : (names front ts : List Text) → names ≡ front ++ ts → AreNumbered names → are_distinct ts ≡ true
unfolding are_distinct
distinct_behind names front [] e h = refl
distinct_behind names front (t ∷ ts) e h = rw (none (is_one_of ts t) refl) (distinct_behind names (front ++ t ∷ []) ts (e ∙ sym (append_assoc front (t ∷ []) ts)) h)
  where
    none : (b : Bool) → is_one_of ts t ≡ b → is_one_of ts t ≡ false
    none false k = k
    none true k =
        let x = found ts t k in
        let n : ℕ = length front + suc x.0 in
        let first = h.own (length front) t (ap (λ ns. slice_get ns (length front)) e ∙ behind front (t ∷ ts) 0 (length front) (omega arith)) in
        let second = h.own n t (ap (λ ns. slice_get ns n) e ∙ behind front (t ∷ ts) (suc x.0) n refl ∙ x.1) in
        let same : length front ≡ n = same_Some _ _ (sym first ∙ second) in
        absurd (omega (arith, same))

-- Rows

steps_told : (names : List Text) (f : ℕ → Bool) (at : ℕ) (ps : List Place) (ks : List ℕ) → All (λ n. n < length names) ks
    → fold (plain_step names f at) ps ks ≡ ps ++ map (drop_at at) (names_of (filter (λ x. f x.0) (map (pair_in names) ks)))
unfolding drop_if
steps_told names f at ps [] a = sym (append-nil ps)
steps_told names f at ps (k ∷ ks) a =
    steps_told names f at (plain_step names f at ps k) ks (All-tail (λ n. n < length names) k ks a)
    ∙ append_assoc ps (drop_if (f k) at (slice_get names k)) rest
    ∙ ap (λ qs. ps ++ qs) (go (f k) (slice_get-get_or names k [] (All-head (λ n. n < length names) k ks a)))
  where
    others : List (ℕ × Text)
    others = filter (λ x. f x.0) (map (pair_in names) ks)

    rest : List Place
    rest = map (drop_at at) (names_of others)

    go : (b : Bool) → slice_get names k ≡ Some (get_or names k []) → drop_if b at (slice_get names k) ++ rest ≡ map (drop_at at) (names_of (cond b (pair_in names k ∷ others) others))
    go true e = ap (λ o. drop_if true at o ++ rest) e
    go false e = refl

-- the places of some numbers, and of others
pub steps_added : (names : List Text) (f g : ℕ → Bool) (at : ℕ) (ks : List ℕ) → All (λ n. n < length names) ks → (ps : List Place)
    → fold (plain_step names g at) (fold (plain_step names f at) ps ks) ks
    ≡ ps ++ (map (drop_at at) (names_of (filter (λ x. f x.0) (map (pair_in names) ks))) ++ map (drop_at at) (names_of (filter (λ x. g x.0) (map (pair_in names) ks))))
steps_added names f g at ks a ps =
    let first = map (drop_at at) (names_of (filter (λ x. f x.0) (map (pair_in names) ks))) in
    let last = map (drop_at at) (names_of (filter (λ x. g x.0) (map (pair_in names) ks))) in
    steps_told names g at (fold (plain_step names f at) ps ks) ks a ∙ ap (λ qs. qs ++ last) (steps_told names f at ps ks a) ∙ append_assoc ps first last

but_row : (names : List Text) → AreNumbered names → (rows : KeptRows) (x y : RowId) (ks : List ℕ) → All (λ n. n < length names) ks
    → but (names_at (in_byte_order names) rows x) (names_of (filter (λ p. is_in rows y p.0) (map (pair_in names) ks))) ≡ names_of (filter (λ p. is_only_in rows y x p.0) (map (pair_in names) ks))
unfolding at_number
but_row names h rows x y [] a = refl
but_row names h rows x y (k ∷ ks) a =
    go (is_in rows y k) (is_one_of held (get_or names k [])) (is_in rows x k)
    (in_row names h rows x (get_or names k []) ∙ ap (at_number (is_in rows x)) (h.own k (get_or names k []) (slice_get-get_or names k [] (All-head (λ n. n < length names) k ks a))))
    refl (but_row names h rows x y ks (All-tail (λ n. n < length names) k ks a))
  where
    held : List Text
    held = names_at (in_byte_order names) rows x

    us : List (ℕ × Text)
    us = filter (λ p. is_in rows y p.0) (map (pair_in names) ks)

    vs : List (ℕ × Text)
    vs = filter (λ p. is_only_in rows y x p.0) (map (pair_in names) ks)

    go : (b c d : Bool) → c ≡ d → is_one_of held (get_or names k []) ≡ c → but held (names_of us) ≡ names_of vs
        → but held (names_of (cond b (pair_in names k ∷ us) us)) ≡ names_of (cond (b && not d) (pair_in names k ∷ vs) vs)
    go false c d e f r = r
    go true c true e f r = rw (f ∙ e) r
    go true c false e f r = rw (f ∙ e) (ap (λ ts. get_or names k [] ∷ ts) r)

rows_once : (names : List Text) → AreNumbered names → (rows : KeptRows) (x y : RowId) (ks : List ℕ) → map (pair_in names) ks ≡ in_byte_order names → All (λ n. n < length names) ks
    → (at : ℕ) (ps : List Place) → fold (plain_step names (is_only_in rows y x) at) (fold (plain_step names (is_in rows x) at) ps ks) ks
    ≡ all_told (length ps) at ps (names_at (in_byte_order names) rows x ++ names_at (in_byte_order names) rows y)
rows_once names h rows x y ks e a at ps =
    let held = names_at (in_byte_order names) rows x in
    let other = names_at (in_byte_order names) rows y in
    let rising = order_rises names (distinct_behind names [] names refl h) in
    let first : names_of (filter (λ p. is_in rows x p.0) (map (pair_in names) ks)) ≡ held = ap (λ (o : List (ℕ × Text)). names_of (filter (λ p. is_in rows x p.0) o)) e in
    let last : names_of (filter (λ p. is_only_in rows y x p.0) (map (pair_in names) ks)) ≡ but held other =
    sym (but_row names h rows x y ks a) ∙ ap (λ (o : List (ℕ × Text)). but held (names_of (filter (λ p. is_in rows y p.0) o))) e in
    steps_added names (is_in rows x) (is_only_in rows y x) at ks a ps
    ∙ ap₂ (λ (us vs : List Text). ps ++ (map (drop_at at) us ++ map (drop_at at) vs)) first last
    ∙ ap (λ qs. ps ++ qs) (sym (map-append (drop_at at) held (but held other)))
    ∙ ap (λ (ts : List Text). ps ++ map (drop_at at) ts)
    (sym (both_once held other (distinct_row (λ p. is_in rows x p.0) (in_byte_order names) rising) (distinct_row (λ p. is_in rows y p.0) (in_byte_order names) rising)))
    ∙ sym (all_once at ps (held ++ other))

-- Sets of numbers

-- a set each of whose numbers is in one that has none
pub none_within : (f g : ℕ → Bool) → ((k : ℕ) → g k ≡ false) → ((k : ℕ) → f k ≡ true → g k ≡ true) → (k : ℕ) → f k ≡ false
none_within f g none within k = go (f k) refl
  where
    go : (b : Bool) → f k ≡ b → f k ≡ false
    go true e = absurd (true≢false (sym (within k e) ∙ none k))
    go false e = e

same_told : (names : List Text) (f g : ℕ → Bool) (at : ℕ) → ((k : ℕ) → k < length names → f k ≡ g k) → (ks : List ℕ) → All (λ n. n < length names) ks → (ps : List Place)
    → fold (plain_step names f at) ps ks ≡ fold (plain_step names g at) ps ks
same_told names f g at same [] a ps = refl
same_told names f g at same (k ∷ ks) a ps =
    ap (λ (b : Bool). fold (plain_step names f at) (ps ++ drop_if b at (slice_get names k)) ks) (same k (All-head (λ n. n < length names) k ks a))
    ∙ same_told names f g at same ks (All-tail (λ n. n < length names) k ks a) (plain_step names g at ps k)

or_nothing : (a b : Bool) → b ≡ false → (a || b) ≡ a
or_nothing true b h = refl
or_nothing false b h = h

only_in : (a b c d : Bool) → a ≡ d → b ≡ c → (not a && b) ≡ (c && not d)
only_in true true c d e f = rw (sym e, sym f) refl
only_in true false c d e f = rw (sym e, sym f) refl
only_in false true c d e f = rw (sym e, sym f) refl
only_in false false c d e f = rw (sym e, sym f) refl

-- the set of a row, and the set of another without the numbers of the first
pub sets_once : (names : List Text) → AreNumbered names → (rows : KeptRows) (x y : RowId) (first_none first other_none other last : ℕ → Bool)
    → ((k : ℕ) → first_none k ≡ false) → ((k : ℕ) → k < MAX_NAMES → first k ≡ (is_in rows x k || first_none k))
    → ((k : ℕ) → other_none k ≡ false) → ((k : ℕ) → k < MAX_NAMES → other k ≡ (is_in rows y k || other_none k))
    → ((k : ℕ) → last k ≡ (not (first k) && other k))
    → (ks : List ℕ) → map (pair_in names) ks ≡ in_byte_order names → All (λ n. n < length names) ks
    → (at : ℕ) (ps : List Place) → fold (plain_step names last at) (fold (plain_step names first at) ps ks) ks
    ≡ all_told (length ps) at ps (names_at (in_byte_order names) rows x ++ names_at (in_byte_order names) rows y)
sets_once names h rows x y first_none first other_none other last n r o s l ks e a at ps =
    let first_same : (k : ℕ) → k < length names → first k ≡ is_in rows x k = λ k b. r k (omega (arith, h.few, b)) ∙ or_nothing (is_in rows x k) (first_none k) (n k) in
    let other_same : (k : ℕ) → k < length names → other k ≡ is_in rows y k = λ k b. s k (omega (arith, h.few, b)) ∙ or_nothing (is_in rows y k) (other_none k) (o k) in
    let last_same : (k : ℕ) → k < length names → last k ≡ is_only_in rows y x k =
    λ k b. l k ∙ only_in (first k) (other k) (is_in rows y k) (is_in rows x k) (first_same k b) (other_same k b) in
    same_told names last (is_only_in rows y x) at last_same ks a (fold (plain_step names first at) ps ks)
    ∙ ap (λ (qs : List Place). fold (plain_step names (is_only_in rows y x) at) qs ks) (same_told names first (is_in rows x) at first_same ks a ps)
    ∙ rows_once names h rows x y ks e a at ps
