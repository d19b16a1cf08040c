-- The newlines before an offset, and the place after them.
use Rattle.std.proofs.Common.{◌≡◌, ℕ, zero, suc, ◌+◌, ◌-◌, ◌<◌, ◌≤◌, min, true, false, List, [], ◌∷◌, ◌++◌, length, take, fold, get_or, slice_index, All, refl, sym, ap, subst, ◌∙◌, arith, ◌⊎◌, inl, inr, ⊎_elim, append-nil, length-append, take_all}
use Rattle.std.specs.List.Sorted.{IsStrictlyIncreasing, IsPartitionPoint, IsNonDecreasingBy}
use Rattle.std.proofs.Math.Nat.{eq-or-lt_of_le}
use Rattle.std.proofs.lemmas.List.Kept.{AllPairs-from_increasing}
use Rattle.std.proofs.lemmas.Bool.{cases_Bool, cond_both, cond-true, cond-false, false≢true, cases_order}
use Rattle.std.proofs.lemmas.List.{take_more, get_or_append_left, get_or-append-add}
use Rattle.std.proofs.lemmas.List.Sums.{fold-append}
use Rattle.std.proofs.lemmas.List.Elements.{All-nil, All-cons, All-weaker}
use Rattle.memchr.specs.Find.{is_byte, places_from, places_between, places, Passes}
use Rattle.memchr.proofs.lemmas.PlaceLemmas.{places_from-append, places_between-none, places_between-last}
use Rattle.sh_scan.specs.Places.{next_place, place_of}

rising-cons : (x : ℕ) (xs : List ℕ) → All (λ k. x < k) xs → IsStrictlyIncreasing xs → IsStrictlyIncreasing (x ∷ xs)
rising-cons x xs above up zero lt = above 0 0 (omega arith)
rising-cons x xs above up (suc k) lt =
    let next : suc k + 1 ≡ suc (k + 1) = omega arith in
    subst (λ m. slice_index (x ∷ xs) (suc k) < slice_index (x ∷ xs) m) (sym next) (up k (omega arith))

-- rising numbers are no less than their indices
index_below : (xs : List ℕ) → IsStrictlyIncreasing xs → (k : ℕ) → k < length xs → k ≤ get_or xs k 0
index_below xs up zero lt = omega arith
index_below xs up (suc k) lt =
    let here = index_below xs up k (omega arith) in
    let step = up k (omega arith) in
    let next : k + 1 ≡ suc k = omega arith in
    omega (arith, here, subst (λ m. get_or xs k 0 < get_or xs m 0) next step)

-- and so they do not fall
pub not_falling : (xs : List ℕ) → IsStrictlyIncreasing xs → IsNonDecreasingBy (λ k. k) xs
not_falling xs up i j d le lt = ⊎_elim
    (λ same. subst (λ m. get_or xs i d ≤ get_or xs m d) same (omega arith))
    (λ less. let pairs = AllPairs-from_increasing xs up i j d less lt in omega arith)
    (eq-or-lt_of_le le)

pub record Below (xs : List ℕ) (at n : ℕ) : Type 0 where
  pub few : n ≤ at
  pub last : 0 < n → get_or xs (n - 1) 0 < at

-- of rising numbers, so many are below a bound
pub few_below : (xs : List ℕ) (at n : ℕ) → IsStrictlyIncreasing xs → n ≤ length xs → IsPartitionPoint (λ k. k < at) (λ k. at ≤ k) xs n → Below xs at n
few_below xs at zero up le parted = record { few = omega arith; last = λ p. absurd (omega arith) }
few_below xs at (suc n) up le parted =
    let under : get_or xs n 0 < at = parted.0 n 0 (omega arith) (omega arith) in
    let index = index_below xs up n (omega arith) in
    let same : suc n - 1 ≡ n = omega arith in
    record { few = omega arith; last = λ p. subst (λ m. get_or xs m 0 < at) (sym same) under }

module _ (text : List ℕ) where
  -- where the newlines before an offset are
  pub before : ℕ → List ℕ
  before at = places_between (is_byte 10) text 0 at

  rising_from : (i n : ℕ) → IsStrictlyIncreasing (places_from (is_byte 10) text i n) × All (λ k. (i ≤ k) × (k < i + n)) (places_from (is_byte 10) text i n)
  unfolding places_from
  rising_from i zero = (λ k lt. absurd (omega arith), All-nil (λ k. (i ≤ k) × (k < i + zero)))
  rising_from i (suc n) =
      let P = λ (k : ℕ). (i ≤ k) × (k < i + suc n) in
      let rest = places_from (is_byte 10) text (i + 1) n in
      let later = rising_from (i + 1) n in
      let Q = λ (k : ℕ). (i + 1 ≤ k) × (k < i + 1 + n) in
      let within : All P rest = All-weaker Q P (λ k (w : Q k). let both : P k = (omega arith, omega arith) in both) rest later.1 in
      let above : All (λ k. i < k) rest = All-weaker Q (λ k. i < k) (λ k (w : Q k). omega arith) rest later.1 in
      cond_both (is_byte 10 (slice_index text i)) (i ∷ rest) rest (λ l. IsStrictlyIncreasing l × All P l)
      (λ _. (rising-cons i rest above later.0, All-cons P i rest (omega arith, omega arith) within)) (λ _. (later.0, within))

  pub rising : IsStrictlyIncreasing (places (is_byte 10) text)
  rising = (rising_from 0 (length text - 0)).0

  between_split : (i j k : ℕ) → i ≤ j → j ≤ k
      → places_between (is_byte 10) text i k ≡ places_between (is_byte 10) text i j ++ places_between (is_byte 10) text j k
  between_split i j k p q =
      let sum : k - i ≡ (j - i) + (k - j) = omega arith in
      let at : i + (j - i) ≡ j = omega arith in
      ap (places_from (is_byte 10) text i) sum ∙ places_from-append (is_byte 10) text i (j - i) (k - j)
      ∙ ap (λ m. places_between (is_byte 10) text i j ++ places_from (is_byte 10) text m (k - j)) at

  before-newline : (at : ℕ) → Passes (is_byte 10) text at → before (at + 1) ≡ before at ++ at ∷ []
  unfolding before
  before-newline at p =
      places_between-last (is_byte 10) text 0 (at + 1) at (record { low = omega arith; high = omega arith; after = λ k a b. absurd (omega arith) }) p

  before-other : (at : ℕ) → is_byte 10 (slice_index text at) ≡ false → before (at + 1) ≡ before at
  unfolding before
  before-other at p =
      between_split 0 at (at + 1) (omega arith) (omega arith)
      ∙ ap (λ l. places_between (is_byte 10) text 0 at ++ l)
      (places_between-none (is_byte 10) text at (at + 1) (omega arith)
      (λ k a b t. false≢true (sym p ∙ subst (λ m. is_byte 10 (slice_index text m) ≡ true) (let same : k ≡ at = omega arith in same) t)))
      ∙ append-nil (places_between (is_byte 10) text 0 at)

-- where a line begins, after the newlines before it
pub start : List ℕ → ℕ
start newlines = fold (λ s k. k + 1) 0 newlines

start-more : (xs : List ℕ) (x : ℕ) → start (xs ++ x ∷ []) ≡ x + 1
unfolding start
start-more xs x = fold-append (λ s k. k + 1) 0 xs (x ∷ [])

fold-last : (s : ℕ) (xs : List ℕ) (n : ℕ) → length xs ≡ suc n → fold (λ s k. k + 1) s xs ≡ get_or xs n 0 + 1
fold-last s [] n e = absurd (omega arith)
fold-last s (x ∷ []) zero e = refl
fold-last s (x ∷ []) (suc n) e = absurd (omega arith)
fold-last s (x ∷ y ∷ ys) zero e = absurd (omega arith)
fold-last s (x ∷ y ∷ ys) (suc n) e = fold-last (x + 1) (y ∷ ys) n (omega arith)

start-last : (xs : List ℕ) (n : ℕ) → length xs ≡ suc n → start xs ≡ get_or xs n 0 + 1
unfolding start
start-last xs n e = fold-last 0 xs n e

start-nil : (xs : List ℕ) → length xs ≡ 0 → start xs ≡ 0
unfolding start
start-nil [] e = refl
start-nil (x ∷ xs) e = absurd (omega arith)

pub record At (text : List ℕ) (at : ℕ) : Type 0 where
  pub line : (place_of text at).0 ≡ length (before text at) + 1
  pub column : (place_of text at).1 + start (before text at) ≡ at + 1

place-more : (text : List ℕ) (at : ℕ) → at < length text → place_of text (at + 1) ≡ next_place (place_of text at) (get_or text at 0)
unfolding place_of
place-more text at lt =
    ap (fold next_place (1, 1)) (take_more text at 0 lt) ∙ fold-append next_place (1, 1) (take at text) (get_or text at 0 ∷ [])

pub place_at : (text : List ℕ) (at : ℕ) → at ≤ length text → At text at
unfolding place_of before start places_from
place_at text zero le = record { line = refl; column = refl }
place_at text (suc at) le =
    let here = place_at text at (omega arith) in
    let more = place-more text at (omega arith) in
    let b = is_byte 10 (get_or text at 0) in
    let p = place_of text at in
    let same : at + 1 ≡ suc at = omega arith in
    subst (At text) same (⊎_elim
    (λ yes.
    let to : place_of text (at + 1) ≡ (p.0 + 1, 1) = more ∙ cond-true _ _ _ yes in
    let newlines = before-newline text at yes in
    record {
      line = ap (λ (q : ℕ × ℕ). q.0) to ∙ omega (arith, here.line, ap length newlines, length-append (before text at) (at ∷ []));
      column = rw (to, newlines, start-more) (omega arith);
    })
    (λ other.
    let to : place_of text (at + 1) ≡ (p.0, p.1 + 1) = more ∙ cond-false _ _ _ other in
    let newlines = before-other text at other in
    record {
      line = ap (λ (q : ℕ × ℕ). q.0) to ∙ here.line ∙ ap (λ l. length l + 1) (sym newlines);
      column = rw (to, newlines) (omega (arith, here.column));
    })
    (cases_Bool b))

-- a list that rises over a bound where its front ends is parted there
parted-front : (front rest : List ℕ) (at n : ℕ) → All (λ k. k < at) front → All (λ k. at ≤ k) rest → n ≤ length (front ++ rest)
    → IsPartitionPoint (λ k. k < at) (λ k. at ≤ k) (front ++ rest) n → n ≡ length front
parted-front front rest at n low high le parted =
    let sum = length-append front rest in
    ⊎_elim (λ same. same) (λ other. ⊎_elim
    (λ less.
    let over : at ≤ get_or (front ++ rest) n 0 = parted.1 n 0 (omega arith) (omega arith) in
    let same = get_or_append_left front rest 0 n less in
    let under = low n 0 less in
    absurd (omega arith))
    (λ more.
    let under : get_or (front ++ rest) (length front + 0) 0 < at = parted.0 (length front + 0) 0 (omega arith) (omega arith) in
    let same = get_or-append-add front rest 0 0 in
    let over = high 0 0 (omega arith) in
    absurd (omega arith))
    other)
    (cases_order n (length front))

pub record Found (text : List ℕ) (at n : ℕ) : Type 0 where
  pub line : (place_of text at).0 ≡ n + 1
  pub first : n ≡ 0 → (place_of text at).1 ≡ at + 1
  pub later : 0 < n → (place_of text at).1 + get_or (places (is_byte 10) text) (n - 1) 0 ≡ at

-- the place, by how many newlines are before it and where the last of them is
pub place_found : (text : List ℕ) (at n : ℕ) → at ≤ length text → n ≤ length (places (is_byte 10) text)
    → IsPartitionPoint (λ k. k < at) (λ k. at ≤ k) (places (is_byte 10) text) n → Found text at n
unfolding before
place_found text at n le few parted =
    let rest = places_between (is_byte 10) text at (length text) in
    let split : places (is_byte 10) text ≡ before text at ++ rest = between_split text 0 at (length text) (omega arith) le in
    let Low = λ (k : ℕ). (0 ≤ k) × (k < 0 + (at - 0)) in
    let High = λ (k : ℕ). (at ≤ k) × (k < at + (length text - at)) in
    let low : All (λ k. k < at) (before text at) = All-weaker Low (λ k. k < at) (λ k (w : Low k). omega arith) (before text at) (rising_from text 0 (at - 0)).1 in
    let high : All (λ k. at ≤ k) rest = All-weaker High (λ k. at ≤ k) (λ k (w : High k). w.0) rest (rising_from text at (length text - at)).1 in
    let count : n ≡ length (before text at) =
    parted-front (before text at) rest at n low high (subst (λ l. n ≤ length l) split few) (subst (λ l. IsPartitionPoint (λ k. k < at) (λ k. at ≤ k) l n) split parted) in
    let here = place_at text at le in
    record {
      line = here.line ∙ omega arith;
      first = λ z. let none = start-nil (before text at) (omega arith) in omega (arith, here.column);
      later = λ p.
          let last = start-last (before text at) (n - 1) (omega arith) in
          let same : get_or (places (is_byte 10) text) (n - 1) 0 ≡ get_or (before text at) (n - 1) 0 =
          ap (λ l. get_or l (n - 1) 0) split ∙ get_or_append_left (before text at) rest 0 (n - 1) (omega arith) in
          omega (arith, here.column);
    }

-- past the end the place is that of the end
place-end : (text : List ℕ) (at : ℕ) → place_of text (min at (length text)) ≡ place_of text at
unfolding place_of
place-end text at = ⊎_elim
    (λ within. ap (λ n. fold next_place (1, 1) (take n text)) (omega arith))
    (λ past. ap (fold next_place (1, 1)) (ap (λ n. take n text) (omega arith) ∙ take_all (length text) text (omega arith) ∙ sym (take_all at text (omega arith))))
    (side at (length text))
  where
    side : (a b : ℕ) → (a ≤ b) ⊎ (b ≤ a)
    side a b = ⊎_elim (λ e. inl (omega arith)) (λ o. ⊎_elim (λ l. inl (omega arith)) (λ g. inr (omega arith)) o) (cases_order a b)

pair_is : (p : ℕ × ℕ) (a b : ℕ) → a ≡ p.0 → b ≡ p.1 → (a, b) ≡ p
pair_is p a b e f = rw (e, f) refl

-- the place by the count and the start of its line
pub place_is : (text : List ℕ) (at n start : ℕ) → n ≤ length (places (is_byte 10) text)
    → IsPartitionPoint (λ k. k < min at (length text)) (λ k. min at (length text) ≤ k) (places (is_byte 10) text) n
    → ((n ≡ 0) × (start ≡ 0)) ⊎ ((0 < n) × (start ≡ get_or (places (is_byte 10) text) (n - 1) 0 + 1))
    → (n + 1, min at (length text) - start + 1) ≡ place_of text at
place_is text at n start few parted begins =
    let found = place_found text (min at (length text)) n (omega arith) few parted in
    let line : n + 1 ≡ (place_of text (min at (length text))).0 = sym found.line in
    let column : min at (length text) - start + 1 ≡ (place_of text (min at (length text))).1 =
    ⊎_elim (λ w. let c = found.first w.0 in omega (arith, w.1)) (λ w. let c = found.later w.0 in omega (arith, w.1)) begins in
    pair_is _ _ _ line column ∙ place-end text at
