-- The names of a row, whatever their order, take the room that they take in the order of their
-- numbers.
use Rattle.std.proofs.Common.{◌≡◌, ℕ, zero, suc, ◌+◌, ◌/◌, ◌%◌, ◌<◌, ◌≤◌, ◌==◌, Bool, true, false, if◌then◌else◌, List, [], ◌∷◌, length, map, drop, fold, get_or, slice_get, Some, None, refl, ap, ◌∙◌, arith}
use Rattle.std.specs.List.{filter}
use Rattle.std.specs.Int.{bit_at}
use Rattle.std.proofs.lemmas.Nat.Bits.{bit_at-zero}
use Rattle.std.proofs.lemmas.List.{drop_more, drop_all, get_or_past}
use Rattle.std.proofs.lemmas.Option.{slice_get_within, get_or_from_slice_get, slice_get-get_or}
use Rattle.sh_rows.specs.declared.bits.BitRow.{BitRow}
use Rattle.sh_rows.specs.Numbers.{has_bit}
use Rattle.sh_tree.specs.standard.program.Syntax.{Text}
use Rattle.sh_domain.specs.declared.rows.RowId.{RowId}
use Rattle.sh_domain.specs.Certificates.{numbered, placed, in_byte_order, names_at}
use Rattle.sh_domain.specs.KeptRows.{KeptRows, bits_in, holds_at}
use Rattle.sh_domain.specs.Sheets.{precedes, joined, names_text}
use Rattle.sh_facts.specs.Room.{held_bytes, bytes_from}
use Rattle.sh_facts.proofs.LengthLemmas.{bytes_of, joined_bytes}

-- a name and one byte after it, if it is wanted
abbrev one : Bool → Text → ℕ
one b t = if b then length t + 1 else 0

-- Any order

ordered_bytes : (ℕ → Bool) → List (ℕ × Text) → ℕ
ordered_bytes held [] = 0
ordered_bytes held (x ∷ xs) = one (held x.0) x.1 + ordered_bytes held xs

one_or_none : (b : Bool) (held : ℕ → Bool) (x : ℕ × Text) (xs : List (ℕ × Text)) (n : ℕ) → bytes_of (map (λ (y : ℕ × Text). y.1) (filter (λ (y : ℕ × Text). held y.0) xs)) ≡ n
    → bytes_of (map (λ (y : ℕ × Text). y.1) (if b then x ∷ filter (λ (y : ℕ × Text). held y.0) xs else filter (λ (y : ℕ × Text). held y.0) xs)) ≡ one b x.1 + n
unfolding bytes_of
one_or_none true held x xs n e = ap (λ m. length x.1 + 1 + m) e
one_or_none false held x xs n e = omega (arith, e)

filtered : (held : ℕ → Bool) (xs : List (ℕ × Text)) → bytes_of (map (λ (x : ℕ × Text). x.1) (filter (λ (x : ℕ × Text). held x.0) xs)) ≡ ordered_bytes held xs
unfolding bytes_of ordered_bytes
filtered held [] = refl
filtered held (x ∷ xs) = one_or_none (held x.0) held x xs (ordered_bytes held xs) (filtered held xs)

before_or_behind : (b : Bool) (held : ℕ → Bool) (x y : ℕ × Text) (ys zs : List (ℕ × Text)) → ordered_bytes held zs ≡ one (held x.0) x.1 + ordered_bytes held ys
    → ordered_bytes held (if b then x ∷ y ∷ ys else y ∷ zs) ≡ one (held x.0) x.1 + (one (held y.0) y.1 + ordered_bytes held ys)
unfolding ordered_bytes
before_or_behind true held x y ys zs e = refl
before_or_behind false held x y ys zs e = omega (arith, e)

placed_bytes : (held : ℕ → Bool) (ys : List (ℕ × Text)) (x : ℕ × Text) → ordered_bytes held (placed ys x) ≡ one (held x.0) x.1 + ordered_bytes held ys
unfolding placed ordered_bytes
placed_bytes held [] x = refl
placed_bytes held (y ∷ ys) x = before_or_behind (precedes x.1 y.1) held x y ys (placed ys x) (placed_bytes held ys x)

sorted_bytes : (held : ℕ → Bool) (ys xs : List (ℕ × Text)) → ordered_bytes held (fold placed ys xs) ≡ ordered_bytes held ys + ordered_bytes held xs
unfolding ordered_bytes
sorted_bytes held ys [] = omega arith
sorted_bytes held ys (x ∷ xs) = omega (arith, sorted_bytes held (placed ys x) xs, placed_bytes held ys x)

numbered_bytes : (held : ℕ → Bool) (k : ℕ) (ts : List Text) → ordered_bytes held (numbered k ts) ≡ held_bytes held k ts
unfolding ordered_bytes numbered held_bytes
numbered_bytes held k [] = refl
numbered_bytes held k (t ∷ ts) = ap (λ n. one (held k) t + n) (numbered_bytes held (k + 1) ts)

row_bytes : (rows : KeptRows) (id : RowId) (names : List Text) → bytes_of (names_at (in_byte_order names) rows id) ≡ bytes_from rows id names 0
unfolding bytes_from ordered_bytes
row_bytes rows id names =
    let held : ℕ → Bool = λ n. holds_at rows.rows id.index n in
    filtered held (in_byte_order names) ∙ sorted_bytes held [] (numbered 0 names) ∙ ap (λ n. 0 + n) (numbered_bytes held 0 names) ∙ omega arith

-- with commas between them

none_bytes : (ts : List Text) → bytes_of ts ≡ 0 → length (names_text ts) + 1 ≡ 1
unfolding bytes_of joined
none_bytes [] e = refl
none_bytes (t ∷ ts) e = absurd (omega arith)

some_bytes : (ts : List Text) → 0 < bytes_of ts → length (names_text ts) + 1 ≡ bytes_of ts
unfolding bytes_of
some_bytes [] l = absurd (omega arith)
some_bytes (t ∷ ts) l = joined_bytes 44 t ts

pub no_names : (rows : KeptRows) (id : RowId) (names : List Text) → bytes_from rows id names 0 ≡ 0 → length (names_text (names_at (in_byte_order names) rows id)) + 1 ≡ 1
no_names rows id names e = none_bytes (names_at (in_byte_order names) rows id) (row_bytes rows id names ∙ e)

pub some_names : (rows : KeptRows) (id : RowId) (names : List Text) → 0 < bytes_from rows id names 0 → length (names_text (names_at (in_byte_order names) rows id)) + 1 ≡ bytes_from rows id names 0
some_names rows id names l =
    let same = row_bytes rows id names in
    some_bytes (names_at (in_byte_order names) rows id) (omega (arith, same)) ∙ same

pub no_more_bytes : (rows : KeptRows) (id : RowId) (names : List Text) → bytes_from rows id names 0 ≤ length (names_text (names_at (in_byte_order names) rows id)) + 1
unfolding bytes_of joined
no_more_bytes rows id names = by_names (names_at (in_byte_order names) rows id) (row_bytes rows id names)
  where
    by_names : (ts : List Text) → bytes_of ts ≡ bytes_from rows id names 0 → bytes_from rows id names 0 ≤ length (names_text ts) + 1
    by_names [] e = omega arith
    by_names (t ∷ ts) e = omega (arith, joined_bytes 44 t ts)

-- The order of numbers

at_name : (rows : KeptRows) (id : RowId) (names : List Text) (k : ℕ) (t : Text) → slice_get names k ≡ Some t
    → bytes_from rows id names k ≡ one (holds_at rows.rows id.index k) t + bytes_from rows id names (k + 1)
unfolding bytes_from held_bytes
at_name rows id names k t e =
    let here : drop k names ≡ t ∷ drop (k + 1) names = drop_more names k t (slice_get_within names k t e) ∙ ap (λ u. u ∷ drop (k + 1) names) (get_or_from_slice_get names k t t e) in
    ap (held_bytes (λ n. holds_at rows.rows id.index n) k) here

pub past_names : (rows : KeptRows) (id : RowId) (names : List Text) (k : ℕ) → length names ≤ k → bytes_from rows id names k ≡ 0
unfolding bytes_from held_bytes
past_names rows id names k le = ap (held_bytes (λ n. holds_at rows.rows id.index n) k) (drop_all k names le)

pub named : (rows : KeptRows) (id : RowId) (names : List Text) (k : ℕ) (t : Text) → slice_get names k ≡ Some t → holds_at rows.rows id.index k ≡ true
    → bytes_from rows id names k ≡ (length t + 1) + bytes_from rows id names (k + 1)
named rows id names k t e h = at_name rows id names k t e ∙ ap (λ b. one b t + bytes_from rows id names (k + 1)) h

pub unnamed : (rows : KeptRows) (id : RowId) (names : List Text) (k : ℕ) → k < length names → holds_at rows.rows id.index k ≡ false → bytes_from rows id names k ≡ bytes_from rows id names (k + 1)
unnamed rows id names k l h =
    at_name rows id names k (get_or names k []) (slice_get-get_or names k [] l) ∙ ap (λ b. one b (get_or names k []) + bytes_from rows id names (k + 1)) h ∙ omega arith

-- numbers, none of which is in the row, take no room
pub none_held : (rows : KeptRows) (id : RowId) (names : List Text) (m k : ℕ) → k + m ≤ length names → ((n : ℕ) → k ≤ n → n < k + m → holds_at rows.rows id.index n ≡ false)
    → bytes_from rows id names k ≡ bytes_from rows id names (k + m)
none_held rows id names zero k le h = let same : k ≡ k + 0 = omega arith in ap (bytes_from rows id names) same
none_held rows id names (suc m) k le h =
    let at : k + 1 + m ≡ k + suc m = omega arith in
    unnamed rows id names k (omega arith) (h k (omega arith) (omega arith))
    ∙ none_held rows id names m (k + 1) (omega arith) (λ n l u. h n (omega arith) (omega arith))
    ∙ ap (bytes_from rows id names) at

pub word_held : (rows : List BitRow) (i : ℕ) (r : BitRow) (index : ℕ) → slice_get rows i ≡ Some r → get_or r.words.items index 0 ≡ 0 → (k : ℕ) → k / 64 ≡ index → holds_at rows i k ≡ false
unfolding bits_in has_bit
word_held rows i r index e z k w =
    ap (λ o. bits_in o k) e ∙ ap (λ j. bit_at (get_or r.words.items j 0) (k % 64) == 1) w ∙ ap (λ x. bit_at x (k % 64) == 1) z ∙ ap (λ x. x == 1) (bit_at-zero (k % 64))

pub no_word : (rows : List BitRow) (i : ℕ) (r : BitRow) (index : ℕ) → slice_get rows i ≡ Some r → length r.words.items ≤ index → (k : ℕ) → k / 64 ≡ index → holds_at rows i k ≡ false
no_word rows i r index e l k w = word_held rows i r index e (get_or_past r.words.items index 0 l) k w

pub no_row : (rows : List BitRow) (i : ℕ) → slice_get rows i ≡ None → (k : ℕ) → holds_at rows i k ≡ false
unfolding bits_in
no_row rows i e k = ap (λ o. bits_in o k) e
