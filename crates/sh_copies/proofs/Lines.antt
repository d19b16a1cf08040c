-- The line that ends a here-document is found again wherever the lines before it are.
-- POSIX.1-2024, XCU 2.7.4 (here-document), 2.2.1 (line continuation).
use Rattle.std.proofs.Common.{◌≡◌, ℕ, zero, suc, ◌+◌, ◌-◌, ◌≤◌, ◌<◌, Bool, true, false, not, ◌&&◌, List, [], ◌∷◌, ◌++◌, length, drop, take, nat_lt, if◌then◌else◌, refl, sym, ap, ◌∙◌, subst, arith, length-drop, length-append, ⊎_elim}
use Rattle.std.specs.Prelude.{Some, None}
use Rattle.std.specs.Str.{bytes_eq}
use Rattle.std.proofs.Math.Seq.{take-append_seam}
use Rattle.std.proofs.lemmas.Bool.{cond-true, cond-false, cases_lt, lt-ltb, le-ltb}
use Rattle.std.proofs.lemmas.List.{drop-drop, drop-append-le, take-append-le, nil_from_length}
use Rattle.std.proofs.lemmas.Option.{same_Some}
use Rattle.sh_tree.specs.declared.tree.Span.{Span}
use Rattle.sh_tree.specs.standard.language.Bytes.{is_newline, is_backslash, is_tab, run}
use Rattle.sh_tree.specs.standard.language.HereDocuments.{Mark, line_length, line_end, line_text, end_candidate, behind_line, end_line_within, end_line}
use Rattle.sh_tree.specs.standard.language.Trees.{span}
use Rattle.sh_copies.proofs.AlikeBytes.{by_bool}

-- Lines

pub newline_ends : (joins : Bool) (c : ℕ) (cs : List ℕ) → is_newline c ≡ true → line_length joins (c ∷ cs) ≡ 0
unfolding line_length
newline_ends joins c [] h = cond-true _ _ _ h
newline_ends joins c (d ∷ cs) h = cond-true _ _ _ h

other_begins : (joins : Bool) (c : ℕ) (cs : List ℕ) → is_newline c ≡ false → 1 ≤ line_length joins (c ∷ cs)
unfolding line_length
other_begins joins c [] h = let one : line_length joins (c ∷ []) ≡ 1 = cond-false _ _ _ h in omega arith
other_begins joins c (d ∷ cs) h = by_bool (joins && is_backslash c)
    (λ pair. let two : line_length joins (c ∷ d ∷ cs) ≡ 2 + line_length joins cs = cond-false _ _ _ h ∙ cond-true _ _ _ pair in omega arith)
    (λ other. let more : line_length joins (c ∷ d ∷ cs) ≡ 1 + line_length joins (d ∷ cs) = cond-false _ _ _ h ∙ cond-false _ _ _ other in omega arith)

-- a line that ends before the end of v is as long before any text
pub line_moves : (joins : Bool) (v x y : List ℕ) → line_length joins (v ++ x) < length v → line_length joins (v ++ y) ≡ line_length joins (v ++ x)
unfolding line_length
line_moves joins [] x y h = absurd (omega arith)
line_moves joins (c ∷ []) x y h = by_bool (is_newline c)
    (λ is. newline_ends joins c y is ∙ sym (newline_ends joins c x is))
    (λ other. let some = other_begins joins c x other in absurd (omega arith))
line_moves joins (c ∷ d ∷ v) x y h = by_bool (is_newline c)
    (λ is. newline_ends joins c (d ∷ (v ++ y)) is ∙ sym (newline_ends joins c (d ∷ (v ++ x)) is))
    (λ other. by_bool (joins && is_backslash c)
    (λ pair.
    let two : line_length joins (c ∷ d ∷ (v ++ x)) ≡ 2 + line_length joins (v ++ x) = cond-false _ _ _ other ∙ cond-true _ _ _ pair in
    cond-false _ _ _ other ∙ cond-true _ _ _ pair ∙ ap (λ n. 2 + n) (line_moves joins v x y (omega arith)) ∙ sym two)
    (λ alone.
    let more : line_length joins (c ∷ d ∷ (v ++ x)) ≡ 1 + line_length joins (d ∷ (v ++ x)) = cond-false _ _ _ other ∙ cond-false _ _ _ alone in
    cond-false _ _ _ other ∙ cond-false _ _ _ alone ∙ ap (λ n. 1 + n) (line_moves joins (d ∷ v) x y (omega arith)) ∙ sym more))

module _ (m : Mark) where
  -- how long the line at the front is
  abbrev pub size : List ℕ → ℕ
  size cs = line_length (not m.quoted) cs

  -- what of a line is compared with the delimiter
  abbrev pub compared : List ℕ → List ℕ
  compared line = let text = line_text (not m.quoted) line in if m.strip then drop (run is_tab text) text else text

  -- the line at the front ends the body
  abbrev pub ends : List ℕ → Bool
  ends cs = bytes_eq (compared (take (size cs) cs)) m.delimiter

  candidate_is : (b : List ℕ) (i : ℕ) → bytes_eq (end_candidate m b i) m.delimiter ≡ ends (drop i b)
  unfolding end_candidate line_end
  candidate_is b i =
      let n = size (drop i b) in
      let same : i + n - i ≡ n = omega arith in
      ap (λ k. bytes_eq (compared (take k (drop i b))) m.delimiter) same

  none_behind : (n : ℕ) (b : List ℕ) (i : ℕ) → length b ≤ i → end_line_within n m b i ≡ None
  unfolding end_line_within
  none_behind zero b i h = refl
  none_behind (suc n) b i h = cond-true _ _ _ (ap not (le-ltb i (length b) h))

  found_here : (n : ℕ) (b : List ℕ) (i : ℕ) → i < length b → ends (drop i b) ≡ true → end_line_within (suc n) m b i ≡ Some (span i (i + size (drop i b)))
  unfolding end_line_within line_end
  found_here n b i h is = cond-false _ _ _ (ap not (lt-ltb i (length b) h)) ∙ cond-true _ _ _ (candidate_is b i ∙ is)

  goes_on : (n : ℕ) (b : List ℕ) (i : ℕ) → i < length b → ends (drop i b) ≡ false → end_line_within (suc n) m b i ≡ end_line_within n m b (behind_line b (i + size (drop i b)))
  unfolding end_line_within line_end
  goes_on n b i h other = cond-false _ _ _ (ap not (lt-ltb i (length b) h)) ∙ cond-false _ _ _ (candidate_is b i ∙ other)

  no_line : {l : Span} → None ≡ Some l → ⊥
  no_line e = cc

  -- the first line from i on that ends the body
  pub record IsEnd (b : List ℕ) (i : ℕ) (l : Span) : Type 0 where
    pub from : i ≤ l.start
    pub inside : l.start < length b
    pub long : l.end ≡ l.start + size (drop l.start b)
    pub is : ends (drop l.start b) ≡ true

  pub found_is : (n : ℕ) (b : List ℕ) (i : ℕ) (l : Span) → end_line_within n m b i ≡ Some l → IsEnd b i l
  unfolding end_line_within
  found_is zero b i l h = absurd (no_line h)
  found_is (suc n) b i l h = ⊎_elim
      (λ inside. by_bool (ends (drop i b))
      (λ is.
      let same : span i (i + size (drop i b)) ≡ l = same_Some _ l (sym (found_here n b i inside is) ∙ h) in
      subst (λ (z : Span). IsEnd b i z) same (record { from = omega arith; inside = inside; long = refl; is = is }))
      (λ other.
      let k = i + size (drop i b) in
      let rest = found_is n b (behind_line b k) l (sym (goes_on n b i inside other) ∙ h) in
      let more = behind k in
      let from = rest.from in
      record { from = omega arith; inside = rest.inside; long = rest.long; is = rest.is }))
      (λ past. absurd (no_line (sym (none_behind (suc n) b i past) ∙ h)))
      (cases_lt i (length b))
    where
      behind : (k : ℕ) → k ≤ behind_line b k
      behind k = go (nat_lt k (length b))
        where
          go : (t : Bool) → k ≤ (if t then k + 1 else k)
          go true = omega arith
          go false = omega arith

  -- texts that are there are inside
  text_inside : (b : List ℕ) (j : ℕ) (cs : List ℕ) (n : ℕ) → drop j b ≡ cs → n < length cs → j + n < length b
  text_inside b j cs n e h =
      let long : length (drop j b) ≡ length cs = ap length e in
      let less = length-drop j b in
      omega arith

  at_once : (n : ℕ) (b b' : List ℕ) (i j : ℕ) (e t t' : List ℕ) → drop i b ≡ e ++ t → drop j b' ≡ e ++ t' → size (drop i b) ≡ length e → size (e ++ t') ≡ length e
      → 0 < length (e ++ t') → ends (drop i b) ≡ true → end_line_within (suc n) m b' j ≡ Some (span j (j + length e))
  at_once n b b' i j e t t' there here long long' some is =
      let inside : j < length b' = (let k = text_inside b' j (e ++ t') 0 here some in omega arith) in
      let size' : size (drop j b') ≡ length e = ap size here ∙ long' in
      let line : take (size (drop i b)) (drop i b) ≡ e = ap (λ k. take k (drop i b)) long ∙ ap (take (length e)) there ∙ take-append_seam e t in
      let line' : take (size (drop j b')) (drop j b') ≡ e = ap (λ k. take k (drop j b')) size' ∙ ap (take (length e)) here ∙ take-append_seam e t' in
      let same : ends (drop j b') ≡ true = ap (λ x. bytes_eq (compared x) m.delimiter) (line' ∙ sym line) ∙ is in
      found_here n b' j inside same ∙ ap (λ k. Some (span j (j + k))) size'

  again : (n n' : ℕ) (b b' : List ℕ) (i j : ℕ) (v e t t' : List ℕ) (l : Span) → end_line_within n m b i ≡ Some l → l.start ≡ i + length v → l.end ≡ l.start + length e
      → drop i b ≡ v ++ (e ++ t) → drop j b' ≡ v ++ (e ++ t') → size (e ++ t') ≡ length e → 0 < length (e ++ t') → length b' ≤ n' + j
      → end_line_within n' m b' j ≡ Some (span (j + length v) (j + length v + length e))
  unfolding end_line_within
  again zero n' b b' i j v e t t' l h start end there here long some fuel = absurd (no_line h)
  again (suc n) zero b b' i j v e t t' l h start end there here long some fuel =
      let k = text_inside b' j (v ++ (e ++ t')) 0 here (let more = length-append v (e ++ t') in omega arith) in absurd (omega arith)
  again (suc n) (suc n') b b' i j v e t t' l h start end there here long some fuel = ⊎_elim
      (λ inside. by_bool (ends (drop i b))
      (λ is.
      let same : span i (i + size (drop i b)) ≡ l = same_Some _ l (sym (found_here n b i inside is) ∙ h) in
      let first : i ≡ l.start = ap (λ z. z.start) same in
      let last : i + size (drop i b) ≡ l.end = ap (λ z. z.end) same in
      let none : v ≡ [] = nil_from_length v (omega arith) in
      let found = at_once n' b b' i j e t t' (there ∙ ap (λ x. x ++ (e ++ t)) none) (here ∙ ap (λ x. x ++ (e ++ t')) none) (omega arith) long some is in
      found ∙ ap (λ k. Some (span k (k + length e))) (let zero_long : length v ≡ 0 = omega arith in omega arith))
      (λ other.
      let k = size (drop i b) in
      let rest : end_line_within n m b (behind_line b (i + k)) ≡ Some l = sym (goes_on n b i inside other) ∙ h in
      ⊎_elim
      (λ more.
      let next : behind_line b (i + k) ≡ i + k + 1 = cond-true _ _ _ (lt-ltb (i + k) (length b) more) in
      let rest' : end_line_within n m b (i + k + 1) ≡ Some l = ap (end_line_within n m b) (sym next) ∙ rest in
      let from = (found_is n b (i + k + 1) l rest').from in
      let shorter : k < length v = omega arith in
      let sized : k ≡ size (v ++ (e ++ t)) = ap size there in
      let size' : size (drop j b') ≡ k = ap size here ∙ line_moves (not m.quoted) v (e ++ t) (e ++ t') (omega arith) ∙ sym sized in
      let line : take k (drop i b) ≡ take k v = ap (take k) there ∙ take-append-le k v (e ++ t) (omega arith) in
      let line' : take (size (drop j b')) (drop j b') ≡ take k v = ap (λ x. take x (drop j b')) size' ∙ ap (take k) here ∙ take-append-le k v (e ++ t') (omega arith) in
      let other' : ends (drop j b') ≡ false = ap (λ x. bytes_eq (compared x) m.delimiter) (line' ∙ sym line) ∙ other in
      let whole = length-append v (e ++ t') in
      let inside' : j < length b' = (let z = text_inside b' j (v ++ (e ++ t')) 0 here (omega arith) in omega arith) in
      let more' : j + k < length b' = text_inside b' j (v ++ (e ++ t')) k here (omega arith) in
      let next' : behind_line b' (j + size (drop j b')) ≡ j + k + 1 = ap (λ x. behind_line b' (j + x)) size' ∙ cond-true _ _ _ (lt-ltb (j + k) (length b') more') in
      let w = drop (k + 1) v in
      let left = length-drop (k + 1) v in
      let there' : drop (i + k + 1) b ≡ w ++ (e ++ t) =
      ap (λ x. drop x b) (let z : i + k + 1 ≡ i + (k + 1) = omega arith in z) ∙ sym (drop-drop (k + 1) i b) ∙ ap (drop (k + 1)) there ∙ drop-append-le (k + 1) v (e ++ t) (omega arith) in
      let here' : drop (j + k + 1) b' ≡ w ++ (e ++ t') =
      ap (λ x. drop x b') (let z : j + k + 1 ≡ j + (k + 1) = omega arith in z) ∙ sym (drop-drop (k + 1) j b') ∙ ap (drop (k + 1)) here ∙ drop-append-le (k + 1) v (e ++ t') (omega arith) in
      goes_on n' b' j inside' other' ∙ ap (end_line_within n' m b') next'
      ∙ again n n' b b' (i + k + 1) (j + k + 1) w e t t' l rest' (omega arith) end there' here' long some (omega arith)
      ∙ ap (λ x. Some (span x (x + length e))) (let z : j + k + 1 + length w ≡ j + length v = omega arith in z))
      (λ past.
      let next : behind_line b (i + k) ≡ i + k = cond-false _ _ _ (le-ltb (i + k) (length b) past) in
      absurd (no_line (sym (none_behind n b (i + k) past) ∙ ap (end_line_within n m b) (sym next) ∙ rest)))
      (cases_lt (i + k) (length b))))
      (λ past. absurd (no_line (sym (none_behind (suc n) b i past) ∙ h)))
      (cases_lt i (length b))

  -- the line is found again after the same lines
  pub end_line_again : (b b' : List ℕ) (i j : ℕ) (v e t t' : List ℕ) (l : Span) → end_line m b i ≡ Some l → l.start ≡ i + length v → l.end ≡ l.start + length e
      → drop i b ≡ v ++ (e ++ t) → drop j b' ≡ v ++ (e ++ t') → size (e ++ t') ≡ length e → 0 < length (e ++ t')
      → end_line m b' j ≡ Some (span (j + length v) (j + length v + length e))
  unfolding end_line
  end_line_again b b' i j v e t t' l h start end there here long some = again (length b) (length b') b b' i j v e t t' l h start end there here long some (omega arith)

  pub end_line_is : (b : List ℕ) (i : ℕ) (l : Span) → end_line m b i ≡ Some l → IsEnd b i l
  unfolding end_line
  end_line_is b i l h = found_is (length b) b i l h

  -- it begins in the text
  pub end_line_inside : (b : List ℕ) (i : ℕ) (l : Span) → end_line m b i ≡ Some l → l.start < length b
  end_line_inside b i l h = (end_line_is b i l h).inside
