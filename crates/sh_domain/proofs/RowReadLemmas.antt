-- The rows of names, and what is read of the facts that name them.
use Rattle.std.proofs.Common.{Vec, Global, ◌≡◌, ℕ, zero, suc, ◌+◌, ◌<◌, ◌≤◌, ◌==◌, nat_eq, nat_lt, cond, Bool, true, false, not, ◌&&◌, ◌||◌, if◌then◌else◌, List, [], ◌∷◌, map, fold, Some, slice_get, inl, inr, ◌⊎◌, refl, sym, ap, ap₂, ◌∙◌, subst, arith}
use Rattle.std.specs.List.{AllByRecursion, IsDistinct, filter, list_all, list_any, position_from}
use Rattle.std.specs.declared.cmp.Ordering.TheVariants.{Less, Equal, Greater}
use Rattle.std.specs.Ordering.{nat_cmp, is_lt, ordering_then}
use Rattle.std.specs.Cmp.Lexicographic.{slice_cmp}
use Rattle.std.specs.Str.{bytes_eq}
use Rattle.std.proofs.lemmas.Bool.{and_parts}
use Rattle.std.proofs.lemmas.Bool.Decides.{nat_tests}
use Rattle.sh_tree.specs.standard.program.Syntax.{Text}
use Rattle.sh_runs.specs.standard.runs.Environment.{is_one_of}
use Rattle.sh_domain.specs.Certificates.{numbered, placed, in_byte_order}
use Rattle.sh_domain.specs.Forms.{is_rising}
use Rattle.sh_domain.specs.Names.{are_distinct, is_name_of, is_among}
use Rattle.sh_domain.specs.Sheets.{precedes}
use Rattle.sh_domain.proofs.SpellingLemmas.{same_text, none_some}
use Rattle.sh_domain.proofs.ReadBackLemmas.{same_bytes}

-- The order of texts

precedes_step : (c d : ℕ) (t u : Text) → precedes (c ∷ t) (d ∷ u) ≡ true → (c < d) ⊎ ((c ≡ d) × (precedes t u ≡ true))
precedes_step c d t u h = go (nat_lt c d) (nat_eq c d) refl refl h
  where
    go : (l e : Bool) → nat_lt c d ≡ l → nat_eq c d ≡ e → is_lt (ordering_then (cond l Less (cond e Equal Greater)) (slice_cmp nat_cmp t u)) ≡ true → (c < d) ⊎ ((c ≡ d) × (precedes t u ≡ true))
    go true e a b x = inl (let lt : c < d = grind (arith, nat_tests) in lt)
    go false true a b x = inr (let same : c ≡ d = grind (arith, nat_tests) in (same, x))
    go false false a b x = absurd (let w : false ≡ true = x in cc)

precedes_less : (c d : ℕ) (t u : Text) → c < d → precedes (c ∷ t) (d ∷ u) ≡ true
precedes_less c d t u l = let lt : nat_lt c d ≡ true = grind (arith, nat_tests) in rw lt refl

precedes_same : (c : ℕ) (t u : Text) → precedes (c ∷ t) (c ∷ u) ≡ precedes t u
precedes_same c t u = let n : nat_lt c c ≡ false = grind (arith, nat_tests) in let e : (c == c) ≡ true = grind (arith, nat_tests) in rw (n, e) refl

pub precedes_trans : (t u v : Text) → precedes t u ≡ true → precedes u v ≡ true → precedes t v ≡ true
precedes_trans [] [] v h g = g
precedes_trans [] (d ∷ u) [] h g = g
precedes_trans [] (d ∷ u) (e ∷ v) h g = refl
precedes_trans (c ∷ t) [] v h g = absurd (let w : false ≡ true = h in cc)
precedes_trans (c ∷ t) (d ∷ u) [] h g = absurd (let w : false ≡ true = g in cc)
precedes_trans (c ∷ t) (d ∷ u) (e ∷ v) h g =
    elim (precedes_step c d t u h) [
      | inl l ↦ elim (precedes_step d e u v g) [ inl m ↦ precedes_less c e t v (omega (arith, l, m)) | inr p ↦ precedes_less c e t v (let q : d ≡ e = p.0 in omega (arith, l, q)) ]
      | inr p ↦
          elim (precedes_step d e u v g) [
            | inl m ↦ precedes_less c e t v (let q : c ≡ d = p.0 in omega (arith, m, q))
            | inr q ↦
                let same : c ≡ e = p.0 ∙ q.0 in
                subst (λ n. precedes (c ∷ t) (n ∷ v) ≡ true) same (precedes_same c t v ∙ precedes_trans t u v p.1 q.1)
          ]
    ]

pub precedes_self : (t : Text) → precedes t t ≡ false
precedes_self [] = refl
precedes_self (c ∷ t) = precedes_same c t t ∙ precedes_self t

other_step : (c d : ℕ) (t u : Text) (l e : Bool) → nat_lt c d ≡ l → nat_eq c d ≡ e → precedes (c ∷ t) (d ∷ u) ≡ false → bytes_eq (c ∷ t) (d ∷ u) ≡ false
    → (precedes t u ≡ false → bytes_eq t u ≡ false → precedes u t ≡ true) → precedes (d ∷ u) (c ∷ t) ≡ true
other_step c d t u true e a b h n go =
    absurd (let p : precedes (c ∷ t) (d ∷ u) ≡ true = precedes_less c d t u (let q : c < d = grind (arith, nat_tests) in q) in let w : true ≡ false = sym p ∙ h in cc)
other_step c d t u false false a b h n go = precedes_less d c u t (let q : d < c = grind (arith, nat_tests) in q)
other_step c d t u false true a b h n go =
    let same : c ≡ d = grind (arith, nat_tests) in
    let apart : precedes t u ≡ false = sym (precedes_same c t u) ∙ ap (λ k. precedes (c ∷ t) (k ∷ u)) same ∙ h in
    let itself : (c == c) ≡ true = grind (arith, nat_tests) in
    let whole : bytes_eq (c ∷ t) (c ∷ u) ≡ false = ap (λ k. bytes_eq (c ∷ t) (k ∷ u)) same ∙ n in
    let unlike : bytes_eq t u ≡ false = sym (ap (λ b. b && bytes_eq t u) itself) ∙ whole in
    subst (λ k. precedes (k ∷ u) (c ∷ t) ≡ true) same (precedes_same c u t ∙ go apart unlike)

pub precedes_other : (t u : Text) → precedes t u ≡ false → bytes_eq t u ≡ false → precedes u t ≡ true
precedes_other [] [] h n = absurd (let w : true ≡ false = n in cc)
precedes_other [] (d ∷ u) h n = absurd (let w : true ≡ false = h in cc)
precedes_other (c ∷ t) [] h n = refl
precedes_other (c ∷ t) (d ∷ u) h n = other_step c d t u (nat_lt c d) (nat_eq c d) refl refl h n (precedes_other t u)

-- Lists that rise

unfoldable pub rises : List Text → Bool
rises [] = true
rises (t ∷ ts) = list_all (precedes t) ts && rises ts

below_all : (t u : Text) (us : List Text) → precedes t u ≡ true → list_all (precedes u) us ≡ true → list_all (precedes t) us ≡ true
below_all t u [] h g = refl
below_all t u (v ∷ us) h g =
    let p = and_parts (precedes u v) (list_all (precedes u) us) g in
    rw (precedes_trans t u v h p.0) (below_all t u us h p.1)

pub rising_rises : (ts : List Text) → is_rising ts ≡ true → rises ts ≡ true
unfolding is_rising rises
rising_rises [] h = refl
rising_rises (t ∷ []) h = refl
rising_rises (t ∷ u ∷ ts) h =
    let p = and_parts (precedes t u) (is_rising (u ∷ ts)) h in
    let rest : rises (u ∷ ts) ≡ true = rising_rises (u ∷ ts) p.1 in
    let q = and_parts (list_all (precedes u) ts) (rises ts) rest in
    rw (p.0, below_all t u ts p.0 q.0, q.0) q.1

pub rises_rising : (ts : List Text) → rises ts ≡ true → is_rising ts ≡ true
unfolding is_rising rises
rises_rising [] h = refl
rises_rising (t ∷ []) h = refl
rises_rising (t ∷ u ∷ ts) h =
    let p = and_parts (list_all (precedes t) (u ∷ ts)) (rises (u ∷ ts)) h in
    let q = and_parts (precedes t u) (list_all (precedes t) ts) p.0 in
    rw q.0 (rises_rising (u ∷ ts) p.1)

true_false : true ≡ false → ⊥
true_false e = cc

turned : (t u : Text) → bytes_eq t u ≡ false → bytes_eq u t ≡ false
turned t u h = go (bytes_eq u t) refl
  where
    go : (b : Bool) → bytes_eq u t ≡ b → b ≡ false
    go false e = refl
    go true e = absurd (true_false (sym (subst (λ x. bytes_eq t x ≡ true) (sym (same_text u t e)) (same_bytes t)) ∙ h))

-- a text that precedes another is another
unlike : (t u : Text) → precedes t u ≡ true → bytes_eq t u ≡ false
unlike t u h = go (bytes_eq t u) refl
  where
    go : (b : Bool) → bytes_eq t u ≡ b → b ≡ false
    go false e = refl
    go true e = absurd (true_false (sym h ∙ ap (λ x. precedes x u) (same_text t u e) ∙ precedes_self u))

not_among : (t : Text) (us : List Text) → list_all (precedes t) us ≡ true → is_one_of us t ≡ false
not_among t [] h = refl
not_among t (u ∷ us) h = let p = and_parts (precedes t u) (list_all (precedes t) us) h in rw (turned t u (unlike t u p.0)) (not_among t us p.1)

-- what holds of each holds of what is among them
among_step : (q : Text → Bool) (u v : Text) (us : List Text) (b : Bool) → bytes_eq u v ≡ b → q u ≡ true → (b || is_one_of us v) ≡ true → (is_one_of us v ≡ true → q v ≡ true) → q v ≡ true
among_step q u v us true e h g go = subst (λ x. q x ≡ true) (same_text u v e) h
among_step q u v us false e h g go = go g

among_all : (q : Text → Bool) (v : Text) (us : List Text) → list_all q us ≡ true → is_one_of us v ≡ true → q v ≡ true
among_all q v [] h g = absurd (true_false (sym g))
among_all q v (u ∷ us) h g = among_step q u v us (bytes_eq u v) refl (and_parts (q u) (list_all q us) h).0 g (among_all q v us (and_parts (q u) (list_all q us) h).1)

-- Of texts that rise, those that are among others that rise, and that are all among them, are these
-- others

abbrev AllAmong : List Text → List Text → Type 0
AllAmong ts us = (t : Text) → is_one_of ts t ≡ true → is_one_of us t ≡ true

abbrev Tests : List Text → List Text → (Text → Bool) → Type 0
Tests ts us p = (v : Text) → is_one_of us v ≡ true → p v ≡ is_one_of ts v

or_later : (a b : Bool) → b ≡ true → (a || b) ≡ true
or_later true b h = refl
or_later false b h = h

itself_among : (t : Text) (ts : List Text) → is_one_of (t ∷ ts) t ≡ true
itself_among t ts = rw (same_bytes t) refl

merged_step : (u t : Text) (us ts : List Text) (p : Text → Bool) (b : Bool) → bytes_eq t u ≡ b → list_all (precedes u) us ≡ true → list_all (precedes t) ts ≡ true → AllAmong (t ∷ ts) (u ∷ us) → Tests (t ∷ ts) (u ∷ us) p
    → (AllAmong ts us → Tests ts us p → filter p us ≡ ts) → (AllAmong (t ∷ ts) us → Tests (t ∷ ts) us p → filter p us ≡ t ∷ ts) → filter p (u ∷ us) ≡ t ∷ ts
merged_step u t us ts p true e a b all test both_go one_goes =
    let same : t ≡ u = same_text t u e in
    let held : p u ≡ true = test u (itself_among u us) ∙ rw e refl in
    let further : AllAmong ts us = λ x g.
    let before : precedes u x ≡ true = subst (λ y. precedes y x ≡ true) same (among_all (precedes t) x ts b g) in
    let there : is_one_of (u ∷ us) x ≡ true = all x (or_later (bytes_eq t x) (is_one_of ts x) g) in
    rw (unlike u x before) at there in
    let tests : Tests ts us p = λ v g.
    let before : precedes t v ≡ true = subst (λ y. precedes y v ≡ true) (sym same) (among_all (precedes u) v us a g) in
    test v (or_later (bytes_eq u v) (is_one_of us v) g) ∙ rw (unlike t v before) refl in
    rw held (ap₂ (λ x xs. x ∷ xs) (sym same) (both_go further tests))
merged_step u t us ts p false e a b all test both_go one_goes =
    let other : bytes_eq u t ≡ false = turned t u e in
    let there : is_one_of us t ≡ true = rw other at (all t (itself_among t ts)) in
    let before : precedes u t ≡ true = among_all (precedes u) t us a there in
    let below : list_all (precedes u) (t ∷ ts) ≡ true = rw (before, below_all u t ts before b) refl in
    let none : p u ≡ false = test u (itself_among u us) ∙ not_among u (t ∷ ts) below in
    let further : AllAmong (t ∷ ts) us = λ x g.
    let apart : bytes_eq u x ≡ false = unlike u x (among_all (precedes u) x (t ∷ ts) below g) in
    rw apart at (all x g) in
    let tests : Tests (t ∷ ts) us p = λ v g. test v (or_later (bytes_eq u v) (is_one_of us v) g) in
    rw none (one_goes further tests)

merged : (us ts : List Text) (p : Text → Bool) → rises us ≡ true → rises ts ≡ true → AllAmong ts us → Tests ts us p → filter p us ≡ ts
unfolding rises
merged [] [] p a b all test = refl
merged [] (t ∷ ts) p a b all test = absurd (true_false (sym (all t (itself_among t ts))))
merged (u ∷ us) [] p a b all test =
    let none : p u ≡ false = test u (itself_among u us) in
    rw none (merged us [] p (and_parts (list_all (precedes u) us) (rises us) a).1 b (λ t h. absurd (true_false (sym h))) (λ v h. test v (or_later (bytes_eq u v) (is_one_of us v) h)))
merged (u ∷ us) (t ∷ ts) p a b all test =
    let first = and_parts (list_all (precedes u) us) (rises us) a in
    let second = and_parts (list_all (precedes t) ts) (rises ts) b in
    merged_step u t us ts p (bytes_eq t u) refl first.0 second.0 all test (merged us ts p first.1 second.1) (merged us (t ∷ ts) p first.1 b)

-- Names in their order

abbrev pub IsAt : List Text → ℕ × Text → Type 0
IsAt names x = slice_get names x.0 ≡ Some x.1

abbrev pub names_of : List (ℕ × Text) → List Text
names_of xs = map (λ (x : ℕ × Text). x.1) xs

placed_each : (P : ℕ × Text → Type 0) (ys : List (ℕ × Text)) (x : ℕ × Text) → P x → AllByRecursion P ys → AllByRecursion P (placed ys x)
unfolding placed
placed_each P [] x h a = (h, a)
placed_each P (y ∷ ys) x h a = go (precedes x.1 y.1) (placed_each P ys x h a.1)
  where
    go : (b : Bool) → AllByRecursion P (placed ys x) → AllByRecursion P (if b then x ∷ y ∷ ys else y ∷ placed ys x)
    go true r = (h, a)
    go false r = (a.0, r)

pub folded_each : (P : ℕ × Text → Type 0) (acc xs : List (ℕ × Text)) → AllByRecursion P acc → AllByRecursion P xs → AllByRecursion P (fold placed acc xs)
folded_each P acc [] a h = a
folded_each P acc (x ∷ xs) a h = folded_each P (placed acc x) xs (placed_each P acc x h.0 a) h.1

numbered_each : (names : List Text) (k : ℕ) (ts : List Text) → ((i : ℕ) → slice_get ts i ≡ slice_get names (k + i)) → AllByRecursion (IsAt names) (numbered k ts)
unfolding numbered
numbered_each names k [] h = tt
numbered_each names k (t ∷ ts) h =
    let here : k + 0 ≡ k = omega arith in
    (ap (slice_get names) (sym here) ∙ sym (h 0), numbered_each names (k + 1) ts (λ i. let next : k + suc i ≡ k + 1 + i = omega arith in h (suc i) ∙ ap (slice_get names) next))

pub order_at : (names : List Text) → AllByRecursion (IsAt names) (in_byte_order names)
order_at names = folded_each (IsAt names) [] (numbered 0 names) tt (numbered_each names 0 names (λ i. let same : 0 + i ≡ i = omega arith in ap (slice_get names) (sym same)))

placed_all : (q : Text → Bool) (ys : List (ℕ × Text)) (x : ℕ × Text) → q x.1 ≡ true → list_all q (names_of ys) ≡ true → list_all q (names_of (placed ys x)) ≡ true
unfolding placed
placed_all q [] x h a = rw h refl
placed_all q (y ∷ ys) x h a = go (precedes x.1 y.1) (and_parts (q y.1) (list_all q (names_of ys)) a) (placed_all q ys x h (and_parts (q y.1) (list_all q (names_of ys)) a).1)
  where
    go : (b : Bool) → ((q y.1 ≡ true) × (list_all q (names_of ys) ≡ true)) → list_all q (names_of (placed ys x)) ≡ true → list_all q (names_of (if b then x ∷ y ∷ ys else y ∷ placed ys x)) ≡ true
    go true p r = rw (h, p.0, p.1) refl
    go false p r = rw (p.0, r) refl

or_parts : (a b : Bool) → (a || b) ≡ false → (a ≡ false) × (b ≡ false)
or_parts false b h = (refl, h)
or_parts true b h = absurd (true_false h)

or_none : (a : Bool) → (a || false) ≡ a
or_none true = refl
or_none false = refl

or_swap : (a b c : Bool) → (a || (b || c)) ≡ (b || (a || c))
or_swap true true c = refl
or_swap true false c = refl
or_swap false true c = refl
or_swap false false c = refl

not_so : (b : Bool) → not b ≡ true → b ≡ false
not_so false h = refl
not_so true h = absurd (true_false (sym h))

none_apart : (ts : List Text) → list_all (λ t. not (is_one_of [] t)) ts ≡ true
none_apart [] = refl
none_apart (t ∷ ts) = none_apart ts

rises_step : (y : ℕ × Text) (ys : List (ℕ × Text)) (x : ℕ × Text) (b : Bool) → precedes x.1 y.1 ≡ b → list_all (precedes y.1) (names_of ys) ≡ true → rises (names_of ys) ≡ true → bytes_eq y.1 x.1 ≡ false
    → rises (names_of (placed ys x)) ≡ true → rises (names_of (if b then x ∷ y ∷ ys else y ∷ placed ys x)) ≡ true
unfolding rises
rises_step y ys x true e a r n go = rw (e, below_all x.1 y.1 (names_of ys) e a, a) r
rises_step y ys x false e a r n go = rw (placed_all (precedes y.1) ys x (precedes_other x.1 y.1 e (turned y.1 x.1 n)) a) go

placed_rises : (ys : List (ℕ × Text)) (x : ℕ × Text) → rises (names_of ys) ≡ true → is_one_of (names_of ys) x.1 ≡ false → rises (names_of (placed ys x)) ≡ true
unfolding placed rises
placed_rises [] x r n = refl
placed_rises (y ∷ ys) x r n = rises_step y ys x (precedes x.1 y.1) refl p.0 p.1 q.0 (placed_rises ys x p.1 q.1)
  where
    p : (list_all (precedes y.1) (names_of ys) ≡ true) × (rises (names_of ys) ≡ true)
    p = and_parts (list_all (precedes y.1) (names_of ys)) (rises (names_of ys)) r

    q : (bytes_eq y.1 x.1 ≡ false) × (is_one_of (names_of ys) x.1 ≡ false)
    q = or_parts (bytes_eq y.1 x.1) (is_one_of (names_of ys) x.1) n

pub or_shuffle : (a b c : Bool) → ((b || a) || c) ≡ (a || (b || c))
or_shuffle true true c = refl
or_shuffle true false c = refl
or_shuffle false true c = refl
or_shuffle false false c = refl

placed_among : (ys : List (ℕ × Text)) (x : ℕ × Text) (v : Text) → is_one_of (names_of (placed ys x)) v ≡ (bytes_eq x.1 v || is_one_of (names_of ys) v)
unfolding placed
placed_among [] x v = refl
placed_among (y ∷ ys) x v = go (precedes x.1 y.1) (placed_among ys x v)
  where
    go : (b : Bool) → is_one_of (names_of (placed ys x)) v ≡ (bytes_eq x.1 v || is_one_of (names_of ys) v)
        → is_one_of (names_of (if b then x ∷ y ∷ ys else y ∷ placed ys x)) v ≡ (bytes_eq x.1 v || (bytes_eq y.1 v || is_one_of (names_of ys) v))
    go true e = refl
    go false e = ap (λ b. bytes_eq y.1 v || b) e ∙ sym (or_swap (bytes_eq x.1 v) (bytes_eq y.1 v) (is_one_of (names_of ys) v))

folded_among : (acc : List (ℕ × Text)) (k : ℕ) (ts : List Text) (v : Text) → is_one_of (names_of (fold placed acc (numbered k ts))) v ≡ (is_one_of (names_of acc) v || is_one_of ts v)
unfolding numbered
folded_among acc k [] v = sym (or_none (is_one_of (names_of acc) v))
folded_among acc k (t ∷ ts) v =
    folded_among (placed acc (k, t)) (k + 1) ts v ∙ ap (λ b. b || is_one_of ts v) (placed_among acc (k, t) v) ∙ or_shuffle (is_one_of (names_of acc) v) (bytes_eq t v) (is_one_of ts v)

abbrev apart : List Text → List Text → Bool
apart us ts = list_all (λ t. not (is_one_of us t)) ts

apart_placed : (acc : List (ℕ × Text)) (x : ℕ × Text) (ts : List Text) → is_one_of ts x.1 ≡ false → apart (names_of acc) ts ≡ true → apart (names_of (placed acc x)) ts ≡ true
apart_placed acc x [] n h = refl
apart_placed acc x (t ∷ ts) n h =
    let p = and_parts (not (is_one_of (names_of acc) t)) (apart (names_of acc) ts) h in
    let q = or_parts (bytes_eq t x.1) (is_one_of ts x.1) n in
    rw (placed_among acc x t, turned t x.1 q.0, p.0) (apart_placed acc x ts q.1 p.1)

folded_rises : (acc : List (ℕ × Text)) (k : ℕ) (ts : List Text) → rises (names_of acc) ≡ true → are_distinct ts ≡ true → apart (names_of acc) ts ≡ true → rises (names_of (fold placed acc (numbered k ts))) ≡ true
unfolding numbered are_distinct
folded_rises acc k [] r d a = r
folded_rises acc k (t ∷ ts) r d a =
    let p = and_parts (not (is_one_of ts t)) (are_distinct ts) d in
    let q = and_parts (not (is_one_of (names_of acc) t)) (apart (names_of acc) ts) a in
    folded_rises (placed acc (k, t)) (k + 1) ts (placed_rises acc (k, t) r (not_so (is_one_of (names_of acc) t) q.0)) p.1 (apart_placed acc (k, t) ts (not_so (is_one_of ts t) p.0) q.1)

pub order_rises : (names : List Text) → are_distinct names ≡ true → rises (names_of (in_byte_order names)) ≡ true
unfolding rises
order_rises names d = folded_rises [] 0 names refl d (none_apart names)

order_has : (names : List Text) (v : Text) → is_one_of (names_of (in_byte_order names)) v ≡ is_one_of names v
order_has names v = folded_among [] 0 names v

-- The names of a row

mapped_filter : (P : ℕ × Text → Type 0) (f : ℕ × Text → Bool) (p : Text → Bool) (xs : List (ℕ × Text)) → ((x : ℕ × Text) → P x → f x ≡ p x.1) → AllByRecursion P xs → names_of (filter f xs) ≡ filter p (names_of xs)
mapped_filter P f p [] h a = refl
mapped_filter P f p (x ∷ xs) h a = go (p x.1) (h x a.0) (mapped_filter P f p xs h a.1)
  where
    go : (b : Bool) → f x ≡ b → names_of (filter f xs) ≡ filter p (names_of xs) → names_of (if f x then x ∷ filter f xs else filter f xs) ≡ (if b then x.1 ∷ filter p (names_of xs) else filter p (names_of xs))
    go true e r = rw e (ap (λ us. x.1 ∷ us) r)
    go false e r = rw e r

-- a row of the numbers of names that rise has these names
pub named_row : (names ts : List Text) (holds : ℕ → Bool) → are_distinct names ≡ true → list_all (is_one_of names) ts ≡ true → is_rising ts ≡ true → ((k : ℕ) → holds k ≡ is_among names ts k)
    → names_of (filter (λ x. holds x.0) (in_byte_order names)) ≡ ts
unfolding is_name_of
named_row names ts holds d known r numbers =
    mapped_filter (IsAt names) (λ x. holds x.0) (is_one_of ts) (in_byte_order names) (λ x e. numbers x.0 ∙ ap (λ o. list_any (is_name_of o) ts) e) (order_at names)
    ∙ merged (names_of (in_byte_order names)) ts (is_one_of ts) (order_rises names d) (rising_rises ts r) (λ t g. order_has names t ∙ among_all (is_one_of names) t ts known g) (λ v g. refl)

-- A number is that of its name alone

not_named : (ms : List Text) (k : ℕ) (t : Text) → is_one_of ms t ≡ false → is_name_of (slice_get ms k) t ≡ false
unfolding is_name_of
not_named [] k t n = refl
not_named (m ∷ ms) zero t n = turned m t (or_parts (bytes_eq m t) (is_one_of ms t) n).0
not_named (m ∷ ms) (suc k) t n = not_named ms k t (or_parts (bytes_eq m t) (is_one_of ms t) n).1

number_step : (m : Text) (ms : List Text) (j k n : ℕ) (t : Text) (b : Bool) → bytes_eq m t ≡ b → are_distinct (m ∷ ms) ≡ true → (if b then Some j else position_from (λ m. bytes_eq m t) (j + 1) ms) ≡ Some n
    → ((l : ℕ) → are_distinct ms ≡ true → position_from (λ m. bytes_eq m t) (j + 1) ms ≡ Some n → (j + 1 ≤ n) × (is_name_of (slice_get ms l) t ≡ (j + 1 + l == n))) → (j ≤ n) × (is_name_of (slice_get (m ∷ ms) k) t ≡ (j + k == n))
unfolding is_name_of are_distinct
number_step m ms j zero n t true e d h go =
    let is_n : j ≡ n = cc in
    let here : (j + 0 == n) ≡ true = grind (arith, nat_tests) in
    (omega (arith, is_n), subst (λ x. bytes_eq t x ≡ true) (sym (same_text m t e)) (same_bytes t) ∙ sym here)
number_step m ms j (suc k) n t true e d h go =
    let is_n : j ≡ n = cc in
    let past : (j + suc k == n) ≡ false = grind (arith, nat_tests) in
    let alone : is_one_of ms m ≡ false = not_so (is_one_of ms m) (and_parts (not (is_one_of ms m)) (are_distinct ms) d).0 in
    (omega (arith, is_n), not_named ms k t (subst (λ x. is_one_of ms x ≡ false) (same_text m t e) alone) ∙ sym past)
number_step m ms j zero n t false e d h go =
    let later : j + 1 ≤ n = (go 0 (and_parts (not (is_one_of ms m)) (are_distinct ms) d).1 h).0 in
    let past : (j + 0 == n) ≡ false = grind (arith, nat_tests) in
    (omega (arith, later), turned m t e ∙ sym past)
number_step m ms j (suc k) n t false e d h go =
    let r = go k (and_parts (not (is_one_of ms m)) (are_distinct ms) d).1 h in
    let later : j + 1 ≤ n = r.0 in
    let same : j + 1 + k ≡ j + suc k = omega arith in
    (omega (arith, later), r.1 ∙ ap (λ i. i == n) same)

pub placed_number : (names : List Text) (j k n : ℕ) (t : Text) → are_distinct names ≡ true → position_from (λ m. bytes_eq m t) j names ≡ Some n → (j ≤ n) × (is_name_of (slice_get names k) t ≡ (j + k == n))
placed_number [] j k n t d e = absurd (none_some e)
placed_number (m ∷ ms) j k n t d e = number_step m ms j k n t (bytes_eq m t) refl d e (λ l x h. placed_number ms (j + 1) l n t x h)

-- Keys of a set are distinct

none_alike : (v : Vec ℕ Global) (keys : List (Vec ℕ Global)) → AllByRecursion (λ (w : Vec ℕ Global). bytes_eq v.items w.items ≡ false) keys → is_one_of (map (λ (w : Vec ℕ Global). w.items) keys) v.items ≡ false
none_alike v [] h = refl
none_alike v (w ∷ keys) h = rw (turned v.items w.items h.0) (none_alike v keys h.1)

pub distinct_keys : (keys : List (Vec ℕ Global)) → IsDistinct (λ (v w : Vec ℕ Global). bytes_eq v.items w.items) keys → are_distinct (map (λ (w : Vec ℕ Global). w.items) keys) ≡ true
unfolding IsDistinct are_distinct
distinct_keys [] h = refl
distinct_keys (v ∷ keys) h = rw (none_alike v keys h.0) (distinct_keys keys h.1)
