-- Rows that are kept once: the row that is found, and the rows that stay.
use Rattle.std.proofs.Common.{◌≡◌, ◌↔◌, None, true≢false, is_some, ℕ, zero, suc, ◌<◌, ◌≤◌, Bool, true, false, ◌&&◌, if◌then◌else◌, Some, None, List, [], ◌∷◌, ◌++◌, length, get_or, position, refl, sym, ◌∙◌, ap, arith, rules, eqb, slice_get, subst, unwrap_or}
use Rattle.std.specs.List.{All, list_any}
use Rattle.std.proofs.lemmas.Grind.{common_steps}
use Rattle.std.proofs.lemmas.List.{get_or_append_left, length-append}
use Rattle.std.proofs.lemmas.List.Elements.{All-append, All-get_or}
use Rattle.std.proofs.lemmas.List.Folds.{list_any_at}
use Rattle.std.proofs.lemmas.List.Quantifiers.{position-Some}
use Rattle.std.proofs.lemmas.Option.{slice_get-get_or, slice_get_within, unwrap_or-slice_get}
use lib.Pointwise.{pointwise}
use Rattle.sh_rows.specs.declared.bits.BitRow.{BitRow}
use Rattle.sh_rows.specs.Numbers.{has_bit}
use Rattle.sh_domain.specs.KeptRows.{Stay, bits_of, bits_in, holds_at}

-- what `==` of rows tests
abbrev pub equal : BitRow → BitRow → Bool
equal a b = pointwise eqb a.words.items b.words.items && eqb a.count b.count

equal_words : (a b : BitRow) → equal a b ≡ true → a.words.items ≡ b.words.items
equal_words a b e = search rules

eqb_itself : (n : ℕ) → eqb n n ≡ true
eqb_itself n = grind (arith, common_steps)

pointwise_itself : (ws : List ℕ) → pointwise eqb ws ws ≡ true
pointwise_itself [] = refl
pointwise_itself (w ∷ ws) = rw (eqb_itself w, pointwise_itself ws) refl

-- the row at a place that is known
pub bits_at : (rows : List BitRow) (i : ℕ) (r : BitRow) → slice_get rows i ≡ Some r → (k : ℕ) → holds_at rows i k ≡ bits_of r k
unfolding bits_in
bits_at rows i r e k = rw e refl

pub no_bits : (rows : List BitRow) (i : ℕ) → slice_get rows i ≡ None → (k : ℕ) → holds_at rows i k ≡ false
unfolding bits_in
no_bits rows i e k = rw e refl

-- the row that is there
pub found_bits : (rows : List BitRow) (row : BitRow) (i : ℕ) → Some i ≡ position (equal row) rows → (k : ℕ) → holds_at rows i k ≡ bits_of row k
found_bits rows row i h k =
    let p = position-Some (equal row) rows i row (sym h) in
    let words : row.words.items ≡ (get_or rows i row).words.items = equal_words row (get_or rows i row) p.1 in
    bits_at rows i (get_or rows i row) (slice_get-get_or rows i row p.0) k ∙ ap (λ ws. has_bit k ws) (sym words)

-- the test of the row at a place
pointwise_same : (a b : List ℕ) → pointwise eqb a b ≡ true → a ≡ b
pointwise_same a b e = search rules

pub is_row : (rows : List BitRow) (kept row : BitRow) (i : ℕ) (t : Bool) → Some kept ≡ slice_get rows i → t ≡ pointwise eqb kept.words.items row.words.items
    → (t ≡ true) ↔ ((r : BitRow) × (slice_get rows i ≡ Some r) × (r.words.items ≡ row.words.items))
is_row rows kept row i t there test = (
  λ e. (kept, sym there, pointwise_same kept.words.items row.words.items (sym test ∙ e)),
  λ found.
      let same : kept ≡ found.0 = ap (λ o. unwrap_or o kept) (there ∙ found.1) in
      let words : kept.words.items ≡ row.words.items = ap (λ (r : BitRow). r.words.items) same ∙ found.2 in
      test ∙ rw words (pointwise_itself row.words.items),
)

pub no_row : (rows : List BitRow) (row : BitRow) (i : ℕ) → None ≡ slice_get rows i
    → (false ≡ true) ↔ ((r : BitRow) × (slice_get rows i ≡ Some r) × (r.words.items ≡ row.words.items))
no_row rows row i none = (
  λ e. absurd (true≢false (sym e)),
  λ found. absurd (true≢false (sym (ap is_some (none ∙ found.1)))),
)

-- a row that is at a place
pub has_bits : (rows : List BitRow) (row : BitRow) (i : ℕ) → ((r : BitRow) × (slice_get rows i ≡ Some r) × (r.words.items ≡ row.words.items))
    → (k : ℕ) → holds_at rows i k ≡ bits_of row k
has_bits rows row i found k = bits_at rows i found.0 found.1 k ∙ ap (λ ws. has_bit k ws) found.2

pub is_there : (rows : List BitRow) (row : BitRow) (i : ℕ) → ((r : BitRow) × (slice_get rows i ≡ Some r) × (r.words.items ≡ row.words.items)) → i < length rows
is_there rows row i found = slice_get_within rows i found.0 found.1

-- if a row is not found, none of its words is there
pub not_there : (rows : List BitRow) (row : BitRow) (i : ℕ) (r : BitRow) (n : ℕ) → false ≡ list_any (equal row) rows → All (λ s. s.count ≡ n) rows → row.count ≡ n
    → slice_get rows i ≡ Some r → r.words.items ≡ row.words.items → ⊥
not_there rows row i r n h all own e words =
    let lt : i < length rows = slice_get_within rows i r e in
    let same : get_or rows i row ≡ r = sym (unwrap_or-slice_get rows i row) ∙ ap (λ o. unwrap_or o row) e in
    let count : r.count ≡ row.count = subst (λ (s : BitRow). s.count ≡ n) same (All-get_or (λ s. s.count ≡ n) rows i row lt all) ∙ sym own in
    let alike : equal row r ≡ true = rw (words, count, pointwise_itself row.words.items, eqb_itself row.count) refl in
    let found : list_any (equal row) rows ≡ true = list_any_at (equal row) rows i row lt (ap (equal row) same ∙ alike) in
    cc

-- the row that is stored has the numbers of the one that was handed in
pub stored_bits : (rows : List BitRow) (own row : BitRow) (i : ℕ) → ((r : BitRow) × (slice_get rows i ≡ Some r) × (equal own r ≡ true)) → ((k : ℕ) → bits_of own k ≡ bits_of row k)
    → (k : ℕ) → holds_at rows i k ≡ bits_of row k
stored_bits rows own row i s numbers k =
    bits_at rows i s.0 s.1 k ∙ ap (λ ws. has_bit k ws) (sym (equal_words own s.0 s.2)) ∙ numbers k

pub stay_inserted : (old new : List BitRow) (own : BitRow) (c : Bool) → new ≡ (if c then old else old ++ own ∷ []) → Stay old new
stay_inserted old new own true e i lt = ap (λ rows. slice_get rows i) e
stay_inserted old new own false e i lt =
    let longer : i < length (old ++ own ∷ []) = rw length-append (omega arith) in
    ap (λ rows. slice_get rows i) e ∙ slice_get-get_or (old ++ own ∷ []) i own longer ∙ ap Some (get_or_append_left old (own ∷ []) own i lt) ∙ sym (slice_get-get_or old i own lt)

pub counts_inserted : (n : ℕ) (old new : List BitRow) (own : BitRow) (c : Bool) → own.count ≡ n → All (λ r. r.count ≡ n) old → new ≡ (if c then old else old ++ own ∷ []) → All (λ r. r.count ≡ n) new
counts_inserted n old new own true h a e = subst (All (λ r. r.count ≡ n)) (sym e) a
counts_inserted n old new own false h a e = subst (All (λ r. r.count ≡ n)) (sym e) (All-append (λ r. r.count ≡ n) old (own ∷ []) a (only own h))
  where
    only : (own : BitRow) → own.count ≡ n → All (λ r. r.count ≡ n) (own ∷ [])
    only own h zero d lt = h
    only own h (suc j) d lt = absurd (omega arith)

-- past the count no number is in a row
pub past_count : (rows : List BitRow) (i n k : ℕ) (r : BitRow) → All (λ r. r.count ≡ n) rows → slice_get rows i ≡ Some r → n ≤ k → ((j : ℕ) → bits_of r j ≡ true → j < r.count) → false ≡ holds_at rows i k
past_count rows i n k r all e le below =
    let counted : r.count ≡ n = all_at in
    go (bits_of r k) refl
  where
    lt : i < length rows
    lt = slice_get_within rows i r e

    all_at : r.count ≡ n
    all_at = subst (λ (s : BitRow). s.count ≡ n) (sym (unwrap_or-slice_get rows i r) ∙ ap (λ o. unwrap_or o r) e) (All-get_or (λ s. s.count ≡ n) rows i r lt all)

    go : (b : Bool) → bits_of r k ≡ b → false ≡ holds_at rows i k
    go true b = let under : k < r.count = below k b in absurd (omega (arith, all_at))
    go false b = sym (bits_at rows i r e k ∙ b)
