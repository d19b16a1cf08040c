-- Names with their numbers, in byte order: of names that differ, one list of all is sorted.
use Rattle.std.proofs.Common.{◌≡◌, ◌⊎◌, ℕ, suc, ◌+◌, ◌<◌, ◌≤◌, Bool, true, false, not, ◌||◌, if◌then◌else◌, List, [], ◌∷◌, length, get_or, map, fold, inl, inr, refl, sym, ap₂, ◌∙◌, arith, subst, true≢false, IsPermutation}
use Rattle.std.specs.Cmp.{IsStrictWeakOrder}
use Rattle.std.specs.List.{AllByRecursion, IsDistinct, list_all}
use Rattle.std.specs.Str.{bytes_eq}
use Rattle.std.proofs.lemmas.Bool.{and_parts}
use Rattle.std.proofs.lemmas.Cmp.{nat_list_cmp_total}
use Rattle.std.proofs.lemmas.List.Elements.{All-from_recursion, recursion_from_All}
use Rattle.std.proofs.lemmas.List.Sorted.{All-permutation, IsPermutation-map, IsPermutation-sym, ranks_by}
use Rattle.std.proofs.lemmas.Map.Keys.{IsDistinct-IsPermutation}
use Rattle.sh_tree.specs.standard.program.Syntax.{Text}
use Rattle.sh_runs.specs.standard.runs.Environment.{is_one_of}
use Rattle.sh_runs.proofs.PositionLemmas.{bytes_eq_swap}
use Rattle.sh_domain.specs.declared.numbered.Numbered.{Numbered}
use Rattle.sh_domain.specs.Certificates.{in_byte_order, numbered, placed}
use Rattle.sh_domain.specs.Names.{are_distinct}
use Rattle.sh_domain.specs.Numbered.{pair_of}
use Rattle.sh_domain.specs.Sheets.{precedes}
use Rattle.sh_domain.proofs.RowReadLemmas.{folded_each, names_of, order_rises, precedes_other, rises}

in_order : IsStrictWeakOrder precedes
in_order = ranks_by nat_list_cmp_total (λ (t : Text). t)

not_itself : (t : Text) → precedes t t ≡ true → ⊥
not_itself t e = true≢false (sym e ∙ in_order.one_way t t e)

abbrev Pairs : Type 0
Pairs = List (ℕ × Text)

-- each name precedes those after it
abbrev Rises : Pairs → Type 0
Rises [] = Unit {0}
Rises (x ∷ xs) = AllByRecursion (λ y. precedes x.1 y.1 ≡ true) xs × Rises xs

weaker : (P Q : ℕ × Text → Type 0) (xs : Pairs) → ((z : ℕ × Text) → P z → Q z) → AllByRecursion P xs → AllByRecursion Q xs
weaker P Q [] f all = tt
weaker P Q (x ∷ xs) f all = (f x all.0, weaker P Q xs f all.1)

both : (P Q : ℕ × Text → Type 0) (xs : Pairs) → AllByRecursion (λ z. P z → Q z) xs → AllByRecursion P xs → AllByRecursion Q xs
both P Q [] f all = tt
both P Q (x ∷ xs) f all = (f.0 all.0, both P Q xs f.1 all.1)

-- what is true of all of one list is true of all of another
abbrev Carries : Pairs → Pairs → Type 1
Carries xs ys = (P : ℕ × Text → Type 0) → AllByRecursion P xs → AllByRecursion P ys

heads : (x y : ℕ × Text) → (y ≡ x) ⊎ (precedes x.1 y.1 ≡ true) → (x ≡ y) ⊎ (precedes y.1 x.1 ≡ true) → x ≡ y
heads x y (inl e) b = sym e
heads x y (inr l) (inl e) = e
heads x y (inr l) (inr m) = absurd (true≢false (sym m ∙ in_order.one_way x.1 y.1 l))

tails : (x : ℕ × Text) (xs ys : Pairs) → AllByRecursion (λ z. precedes x.1 z.1 ≡ true) ys → Carries (x ∷ xs) (x ∷ ys) → Carries xs ys
tails x xs ys after carries P all =
    let Behind = λ (z : ℕ × Text). precedes x.1 z.1 ≡ true → P z in
    both (λ z. precedes x.1 z.1 ≡ true) P ys (carries Behind ((λ e. absurd (not_itself x.1 e)), weaker P Behind xs (λ z p e. p) all)).1 after

-- two lists that rise, of the same names, are one
same_list : (xs ys : Pairs) → Rises xs → Rises ys → Carries xs ys → Carries ys xs → xs ≡ ys
same_list [] [] r s to back = refl
same_list [] (y ∷ ys) r s to back = absurd (to (λ z. ⊥) tt).0
same_list (x ∷ xs) [] r s to back = absurd (back (λ z. ⊥) tt).0
same_list (x ∷ xs) (y ∷ ys) r s to back =
    let here : x ≡ y =
    heads x y (to (λ z. (z ≡ x) ⊎ (precedes x.1 z.1 ≡ true)) (inl refl, weaker _ _ xs (λ z l. inr l) r.0)).0
    (back (λ z. (z ≡ y) ⊎ (precedes y.1 z.1 ≡ true)) (inl refl, weaker _ _ ys (λ z l. inr l) s.0)).0 in
    let after = subst (λ (w : ℕ × Text). AllByRecursion (λ z. precedes w.1 z.1 ≡ true) ys) (sym here) s.0 in
    let to_same = subst (λ (w : ℕ × Text). Carries (x ∷ xs) (w ∷ ys)) (sym here) to in
    let back_same = subst (λ (w : ℕ × Text). Carries (w ∷ ys) (x ∷ xs)) (sym here) back in
    ap₂ (λ (w : ℕ × Text) (ws : Pairs). w ∷ ws) here (same_list xs ys r.1 s.1 (tails x xs ys after to_same) (tails x ys xs r.0 back_same))

-- the names that are put in place are those that there were
placed_from : (P : ℕ × Text → Type 0) (ys : Pairs) (x : ℕ × Text) → AllByRecursion P (placed ys x) → P x × AllByRecursion P ys
unfolding placed
placed_from P [] x all = all
placed_from P (y ∷ ys) x all = go (precedes x.1 y.1) (placed_from P ys x) all
  where
    go : (b : Bool) → (AllByRecursion P (placed ys x) → P x × AllByRecursion P ys) → AllByRecursion P (if b then x ∷ y ∷ ys else y ∷ placed ys x) → P x × AllByRecursion P (y ∷ ys)
    go true rest all = all
    go false rest all = let others = rest all.1 in (others.0, (all.0, others.1))

folded_from : (P : ℕ × Text → Type 0) (ys xs : Pairs) → AllByRecursion P (fold placed ys xs) → AllByRecursion P ys × AllByRecursion P xs
folded_from P ys [] all = (all, tt)
folded_from P ys (x ∷ xs) all =
    let rest = folded_from P (placed ys x) xs all in
    let before = placed_from P ys x rest.0 in
    (before.1, (before.0, rest.1))

-- and they rise
all_from_list : (t : Text) (xs : Pairs) → list_all (precedes t) (names_of xs) ≡ true → AllByRecursion (λ y. precedes t y.1 ≡ true) xs
all_from_list t [] all = tt
all_from_list t (x ∷ xs) all = let p = and_parts (precedes t x.1) (list_all (precedes t) (names_of xs)) all in (p.0, all_from_list t xs p.1)

rises_so : (xs : Pairs) → rises (names_of xs) ≡ true → Rises xs
unfolding rises
rises_so [] r = tt
rises_so (x ∷ xs) r = let p = and_parts (list_all (precedes x.1) (names_of xs)) (rises (names_of xs)) r in (all_from_list x.1 xs p.0, rises_so xs p.1)

-- Names that are sorted
abbrev Differ : Pairs → Type 0
Differ = IsDistinct (λ (x y : ℕ × Text). bytes_eq x.1 y.1)

none_alike : (t : Text) (k : ℕ) (ts : List Text) → is_one_of ts t ≡ false → AllByRecursion (λ (y : ℕ × Text). bytes_eq t y.1 ≡ false) (numbered k ts)
unfolding numbered
none_alike t k [] none = tt
none_alike t k (u ∷ ts) none = (bytes_eq_swap t u ∙ front (bytes_eq u t) (is_one_of ts t) none, none_alike t (k + 1) ts (rest (bytes_eq u t) (is_one_of ts t) none))
  where
    front : (a b : Bool) → (a || b) ≡ false → a ≡ false
    front false b e = refl
    front true b e = e

    rest : (a b : Bool) → (a || b) ≡ false → b ≡ false
    rest false b e = e
    rest true b e = absurd (true≢false e)

apart_numbered : (k : ℕ) (ts : List Text) → are_distinct ts ≡ true → Differ (numbered k ts)
unfolding numbered are_distinct IsDistinct
apart_numbered k [] d = tt
apart_numbered k (t ∷ ts) d =
    let p = and_parts (not (is_one_of ts t)) (are_distinct ts) d in
    (none_alike t (k + 1) ts (not_so (is_one_of ts t) p.0), apart_numbered (k + 1) ts p.1)
  where
    not_so : (b : Bool) → not b ≡ true → b ≡ false
    not_so true e = absurd (true≢false (sym e))
    not_so false e = refl

abbrev Follow : ℕ × Text → Pairs → Type 0
Follow x xs = AllByRecursion (λ y. precedes y.1 x.1 ≡ false) xs

follow_on : (x y : ℕ × Text) (zs : Pairs) → precedes y.1 x.1 ≡ false → Follow y zs → Follow x zs
follow_on x y zs e f = weaker _ _ zs (λ z g. in_order.chain z.1 y.1 x.1 g e) f

abbrev Ordered : Pairs → Type 0
Ordered [] = Unit {0}
Ordered (x ∷ xs) = Follow x xs × Ordered xs

abbrev IsSortedByName : List Numbered → Type 0
IsSortedByName xs = (k : ℕ) (d : Numbered) → 0 ≤ k → k + 1 < length xs → precedes (get_or xs (k + 1) d).name.now (get_or xs k d).name.now ≡ false

ordered_from : (xs : List Numbered) → IsSortedByName xs → Ordered (map pair_of xs)
ordered_from [] up = tt
ordered_from (x ∷ []) up = (tt, tt)
ordered_from (x ∷ y ∷ zs) up =
    let rest = ordered_from (y ∷ zs) (λ k d low lt.
    let next : suc k + 1 ≡ suc (k + 1) = omega arith in
    subst (λ m. precedes (get_or (x ∷ y ∷ zs) m d).name.now (get_or (y ∷ zs) k d).name.now ≡ false) next (up (suc k) d (omega arith) (omega (arith, lt)))) in
    let first : precedes y.name.now x.name.now ≡ false = up 0 x (omega arith) (omega arith) in
    ((first, follow_on (pair_of x) (pair_of y) (map pair_of zs) first rest.0), rest)

rises_from : (xs : Pairs) → Ordered xs → Differ xs → Rises xs
unfolding IsDistinct
rises_from [] o d = tt
rises_from (x ∷ xs) o d =
    (both (λ y. bytes_eq x.1 y.1 ≡ false) (λ y. precedes x.1 y.1 ≡ true) xs (weaker _ _ xs (λ y f e. precedes_other y.1 x.1 f (bytes_eq_swap y.1 x.1 ∙ e)) o.0) d.0, rises_from xs o.1 d.1)

-- names that differ, sorted, are in byte order
pub sorted_order : (names : List Text) (all order : List Numbered) → are_distinct names ≡ true → map pair_of all ≡ numbered 0 names
    → IsPermutation all order → IsSortedByName order → map pair_of order ≡ in_byte_order names
sorted_order names all order d are same up =
    let pairs = numbered 0 names in
    let sorted = map pair_of order in
    let moved : IsPermutation pairs sorted = subst (λ xs. IsPermutation xs sorted) are (IsPermutation-map pair_of all order same) in
    let to : (P : ℕ × Text → Type 0) → AllByRecursion P pairs → AllByRecursion P sorted = λ P h. recursion_from_All P sorted (All-permutation P pairs sorted moved (All-from_recursion P pairs h)) in
    let back : (P : ℕ × Text → Type 0) → AllByRecursion P sorted → AllByRecursion P pairs = λ P h. recursion_from_All P pairs (All-permutation P sorted pairs (IsPermutation-sym pairs sorted moved) (All-from_recursion P sorted h)) in
    same_list sorted (in_byte_order names)
    (rises_from sorted (ordered_from order up) (IsDistinct-IsPermutation (λ (x y : ℕ × Text). bytes_eq x.1 y.1) (λ x y. bytes_eq_swap x.1 y.1) pairs sorted moved (apart_numbered 0 names d)))
    (rises_so (in_byte_order names) (order_rises names d))
    (λ P h. folded_each P [] pairs tt (back P h))
    (λ P h. to P (folded_from P [] pairs h).1)
