-- What a text says at a place, said of a longer text whose front it is: the names that are there.
use Rattle.std.proofs.Common.{◌≡◌, ℕ, ◌+◌, ◌-◌, ◌<◌, ◌≤◌, Bool, true, List, [], ◌∷◌, length, take, drop, min, refl, sym, ap, ◌∙◌, ⊎_elim, arith, length-take}
use Rattle.std.specs.List.{list_all, take_while, prefix_len}
use Rattle.std.proofs.lemmas.Bool.{cases_Bool, cases_lt, cond-true, cond-false, true≢false, and_from, or_left}
use Rattle.std.proofs.lemmas.List.{drop-drop, drop-take, drop_all, take-take, take_min, take_all}
use Rattle.std.proofs.lemmas.List.Sums.{take_while-cons}
use Rattle.sh_tree.specs.standard.language.Bytes.{is_name_start, is_name_byte, is_first, is_name, name_length, run}
use Rattle.sh_tree.specs.standard.language.Trees.{span}
use Rattle.sh_tree.specs.standard.Tree.{text_of}

-- the text is the front of the whole
abbrev pub Front : List ℕ → List ℕ → Type 0
Front whole b = (m : ℕ) × (b ≡ take m whole)

-- the text is in the whole from i on
abbrev pub Stands : List ℕ → ℕ → List ℕ → Type 0
Stands whole i cs = (k : ℕ) × (cs ≡ take k (drop i whole))

pub front_whole : (b : List ℕ) → Front b b
front_whole b = (length b, sym (take_all (length b) b (omega arith)))

pub front_less : (whole b : List ℕ) (n : ℕ) → Front whole b → Front whole (take n b)
front_less whole b n f = (min n f.0, ap (take n) f.1 ∙ ⊎_elim less more (cases_lt n f.0))
  where
    less : n < f.0 → take n (take f.0 whole) ≡ take (min n f.0) whole
    less h = let same : min n f.0 ≡ n = omega arith in rw same (take-take n f.0 whole (omega arith))

    more : f.0 ≤ n → take n (take f.0 whole) ≡ take (min n f.0) whole
    more h = let same : min n f.0 ≡ f.0 = omega arith in rw same (take_all n (take f.0 whole) (omega (arith, length-take f.0 whole)))

drop_front : (i m : ℕ) (xs : List ℕ) → drop i (take m xs) ≡ take (m - i) (drop i xs)
drop_front i m xs = ⊎_elim less more (cases_lt m i)
  where
    less : m < i → drop i (take m xs) ≡ take (m - i) (drop i xs)
    less h = let none : m - i ≡ 0 = omega arith in rw none (drop_all i (take m xs) (omega (arith, length-take m xs)))

    more : i ≤ m → drop i (take m xs) ≡ take (m - i) (drop i xs)
    more h = let same : m ≡ i + (m - i) = omega arith in ap (λ n. drop i (take n xs)) same ∙ drop-take i (m - i) xs

pub stands_at : (whole b : List ℕ) (i : ℕ) → Front whole b → Stands whole i (drop i b)
stands_at whole b i f = (f.0 - i, ap (drop i) f.1 ∙ drop_front i f.0 whole)

pub stands_past : (whole : List ℕ) (i n : ℕ) (cs : List ℕ) → Stands whole i cs → Stands whole (i + n) (drop n cs)
stands_past whole i n cs h = (h.0 - n, ap (drop n) h.1 ∙ drop_front n h.0 (drop i whole) ∙ ap (take (h.0 - n)) (drop-drop n i whole))

-- as many of its bytes as it has
pub stands_text : (whole : List ℕ) (i n : ℕ) (cs : List ℕ) → Stands whole i cs → n ≤ length cs → text_of whole (span i (i + n)) ≡ take n cs
stands_text whole i n cs h within =
    let size : i + n - i ≡ n = omega arith in
    let most : n ≤ h.0 = (let long : length cs ≡ length (take h.0 (drop i whole)) = ap length h.1 in omega (arith, long, length-take h.0 (drop i whole))) in
    ap (λ k. take k (drop i whole)) size ∙ sym (take-take n h.0 (drop i whole) most) ∙ ap (take n) (sym h.1)

-- Names

pub run_passes : (p : ℕ → Bool) (cs : List ℕ) → list_all p (take_while p cs) ≡ true
run_passes p [] = refl
run_passes p (c ∷ cs) = ⊎_elim
    (λ is. let more : take_while p (c ∷ cs) ≡ c ∷ take_while p cs = take_while-cons p c cs ∙ cond-true _ _ _ is in rw more (and_from _ _ is (run_passes p cs)))
    (λ other. let none : take_while p (c ∷ cs) ≡ [] = take_while-cons p c cs ∙ cond-false _ _ _ other in rw none refl)
    (cases_Bool (p c))

pub run_within : (p : ℕ → Bool) (cs : List ℕ) → run p cs ≤ length cs
run_within p cs = omega (arith, length-take (prefix_len p cs) cs)

pub run_taken : (p : ℕ → Bool) (cs : List ℕ) → take (run p cs) cs ≡ take_while p cs
run_taken p cs = ap (λ n. take n cs) (length-take (prefix_len p cs) cs) ∙ take_min (prefix_len p cs) cs

name_front : (cs : List ℕ) → is_first is_name_start cs ≡ true → is_name (take_while is_name_byte cs) ≡ true
unfolding is_first
name_front [] h = absurd (true≢false (sym h))
name_front (c ∷ cs) h =
    let more : take_while is_name_byte (c ∷ cs) ≡ c ∷ take_while is_name_byte cs = take_while-cons is_name_byte c cs ∙ cond-true _ _ _ (or_left _ _ h) in
    rw more (and_from _ _ h (and_from _ _ (or_left _ _ h) (run_passes is_name_byte cs)))

pub name_run : (cs : List ℕ) → is_first is_name_start cs ≡ true → name_length cs ≡ run is_name_byte cs
unfolding name_length
name_run cs h = cond-true _ _ _ h

-- where a name begins, a name is there up to its end
pub name_stands : (whole : List ℕ) (i : ℕ) (cs : List ℕ) → Stands whole i cs → is_first is_name_start cs ≡ true → is_name (text_of whole (span i (i + name_length cs))) ≡ true
name_stands whole i cs h first =
    let n = name_run cs first in
    let text : text_of whole (span i (i + name_length cs)) ≡ take_while is_name_byte cs =
    ap (λ k. text_of whole (span i (i + k))) n ∙ stands_text whole i (run is_name_byte cs) cs h (run_within is_name_byte cs) ∙ run_taken is_name_byte cs in
    rw text (name_front cs first)
