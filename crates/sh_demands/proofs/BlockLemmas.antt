-- The numbers of the names in byte order, in blocks of 64.
use Rattle.std.proofs.Common.{◌≡◌, ℕ, zero, suc, Some, set, subst, ⊎_elim, ◌+◌, ◌-◌, ◌*◌, ◌<◌, ◌==◌, min, Bool, true, false, not, ◌&&◌, if◌then◌else◌, List, [], ◌∷◌, ◌++◌, append-nil, fold, length, map, slice_get, refl, sym, ap, ◌∙◌, arith, inl, inr, true≢false, take, drop, take_all, take-add, length-drop}
use Rattle.std.proofs.lemmas.Bool.{cases_eq, cases_lt, eq-eqb, or_left, or_right}
use Rattle.std.proofs.lemmas.List.{drop_all, length-map}
use Rattle.std.proofs.lemmas.List.Sums.{fold-append}
use Rattle.std.proofs.lemmas.Option.{same_Some}
use Rattle.std.specs.Option.{ForSome}
use Rattle.sh_rows.specs.Numbers.{has_number}
use Rattle.sh_tree.specs.declared.place.Place.{Place}
use Rattle.sh_tree.specs.standard.program.Syntax.{Text}
use Rattle.sh_domain.specs.Certificates.{in_byte_order, numbered, placed}
use Rattle.sh_domain.specs.Numbered.{pair_in}
use Rattle.sh_domain.specs.Sheets.{precedes}
use Rattle.sh_demands.specs.Blocks.{block_of}
use Rattle.sh_demands.specs.DropWalks.{plain_step, drop_if}

-- ---- the numbers of a block
pub block_is : (ns : List ℕ) (i start end : ℕ) → start ≡ min (length ns) (64 * i) → end ≡ min (length ns) (start + 64) → take (end - start) (drop start ns) ≡ block_of i ns
block_is ns i start end s e = elim (cases_lt (64 * i) (length ns)) [
  | inl l ↦
      let here : start ≡ 64 * i = omega (arith, s, l) in
      ap (λ n. take (end - start) (drop n ns)) here ∙ cut l here
  | inr m ↦
      let none : end - start ≡ 0 = omega (arith, s, e, m) in
      ap (λ n. take n (drop start ns)) none ∙ sym (take_all 64 (drop (64 * i) ns) (omega (arith, length-drop (64 * i) ns)) ∙ drop_all (64 * i) ns m)
]
  where
    rest : List ℕ
    rest = drop (64 * i) ns

    cut : 64 * i < length ns → start ≡ 64 * i → take (end - start) rest ≡ take 64 rest
    cut l here = elim (cases_lt (length rest) 64) [
      | inl few ↦ take_all (end - start) rest (omega (arith, length-drop (64 * i) ns, s, e, l, here, few)) ∙ sym (take_all 64 rest (omega (arith, few)))
      | inr many ↦ let whole : end - start ≡ 64 = omega (arith, length-drop (64 * i) ns, s, e, l, here, many) in ap (λ n. take n rest) whole
    ]

-- ---- a set that is put
put_at : {A : Type 0} (xs : List A) (n : ℕ) (y x : A) → slice_get (set xs n y) n ≡ Some x → x ≡ y
put_at [] n y x h = cc
put_at (z ∷ xs) zero y x h = sym (same_Some y x h)
put_at (z ∷ xs) (suc n) y x h = put_at xs n y x h

put_elsewhere : {A : Type 0} (xs : List A) (n i : ℕ) (y : A) → (i ≡ n → ⊥) → slice_get (set xs n y) i ≡ slice_get xs i
put_elsewhere [] n i y ne = refl
put_elsewhere (x ∷ xs) zero zero y ne = absurd (ne refl)
put_elsewhere (x ∷ xs) zero (suc i) y ne = refl
put_elsewhere (x ∷ xs) (suc n) zero y ne = refl
put_elsewhere (x ∷ xs) (suc n) (suc i) y ne = put_elsewhere xs n i y (λ e. ne (ap suc e))

pub one_more_put : {A : Type 0} (P : ℕ → A → Type 0) (xs : List A) (n : ℕ) (y : A) → ((i : ℕ) → i < n → ForSome (slice_get xs i) (P i)) → P n y → (i : ℕ) → i < n + 1 → ForSome (slice_get (set xs n y) i) (P i)
one_more_put P xs n y before here i lt x is = ⊎_elim
    (λ (e : i ≡ n). subst (λ j. P j x) (sym e) (subst (P n) (sym (put_at xs n y x (subst (λ j. slice_get (set xs n y) j ≡ Some x) e is))) here))
    (λ (ne : i ≡ n → ⊥). before i (omega (arith, ne)) x (sym (put_elsewhere xs n i y ne) ∙ is))
    (cases_eq i n)

-- ---- numbers none of which is wanted
pub none_of : (names : List Text) (f : ℕ → Bool) (at : ℕ) (ks : List ℕ) → ((k : ℕ) → has_number k ks ≡ true → f k ≡ false) → (ps : List Place) → fold (plain_step names f at) ps ks ≡ ps
unfolding drop_if
none_of names f at [] none ps = refl
none_of names f at (k ∷ ks) none ps =
    ap (λ (b : Bool). fold (plain_step names f at) (ps ++ drop_if b at (slice_get names k)) ks) (none k first)
    ∙ ap (λ (qs : List Place). fold (plain_step names f at) qs ks) (append-nil ps)
    ∙ none_of names f at ks (λ j h. none j (later j h)) ps
  where
    first : has_number k (k ∷ ks) ≡ true
    first = or_left (k == k) (has_number k ks) (eq-eqb k k refl)

    later : (j : ℕ) → has_number j ks ≡ true → has_number j (k ∷ ks) ≡ true
    later j h = or_right (j == k) (has_number j ks) h

-- what is among others is not wanted
pub not_wanted : (wanted small : Bool) (other : Bool) → other ≡ (not wanted && small) → other ≡ true → wanted ≡ false
not_wanted true small other e h = absurd (true≢false (sym h ∙ e))
not_wanted false small other e h = refl

-- ---- block by block
pub one_more_block : {B : Type 0} (step : B → ℕ → B) (b : B) (i : ℕ) (ns : List ℕ) → fold step (fold step b (take (64 * i) ns)) (block_of i ns) ≡ fold step b (take (64 * (i + 1)) ns)
one_more_block step b i ns =
    sym (fold-append step b (take (64 * i) ns) (block_of i ns))
    ∙ ap (fold step b) (sym (take-add (64 * i) 64 ns) ∙ ap (λ n. take n ns) {x = 64 * i + 64} {y = 64 * (i + 1)} (omega arith))

length_placed : (xs : List (ℕ × Text)) (x : ℕ × Text) → length (placed xs x) ≡ suc (length xs)
unfolding placed
length_placed [] x = refl
length_placed (y ∷ ys) x = go (precedes x.1 y.1) (length_placed ys x)
  where
    go : (b : Bool) → length (placed ys x) ≡ suc (length ys) → length (if b then x ∷ y ∷ ys else y ∷ placed ys x) ≡ suc (suc (length ys))
    go true h = refl
    go false h = ap suc h

length_order : (xs : List (ℕ × Text)) (k : ℕ) (ts : List Text) → length (fold placed xs (numbered k ts)) ≡ length xs + length ts
unfolding numbered
length_order xs k [] = omega arith
length_order xs k (t ∷ ts) = let one = length_placed xs (k, t) in let more = length_order (placed xs (k, t)) (k + 1) ts in omega (arith, one, more)

-- there are as many numbers as names
pub as_many : (names : List Text) (ns : List ℕ) → map (pair_in names) ns ≡ in_byte_order names → length ns ≡ length names
as_many names ns e = sym (length-map ns (pair_in names)) ∙ ap length e ∙ (let all = length_order [] 0 names in omega (arith, all))
