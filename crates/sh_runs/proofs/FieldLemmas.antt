-- What splitting and pathname expansion make of the pieces of a word, if they have no Split event.
use Rattle.std.proofs.Common.{◌≡◌, ◌==◌, ℕ, Bool, true, false, not, ◌&&◌, ◌||◌, List, [], ◌∷◌, ◌++◌, map, length, flat_map, inl, inr, refl, sym, ap, ◌∙◌, append_assoc, append-nil}
use Rattle.std.specs.List.{list_any}
use Rattle.std.proofs.lemmas.Bool.{or_parts, or_from, and_cases}
use Rattle.std.proofs.lemmas.List.Folds.{list_any-append}
use mathlib.Core.List.{map-append}
use Rattle.sh_tree.specs.standard.language.Bytes.{is_in}
use Rattle.sh_tree.specs.standard.program.Syntax.{Text}
use Rattle.sh_runs.specs.standard.runs.Answers.{Marked, Directory}
use Rattle.sh_runs.specs.standard.runs.Expansion.{Literal, Quoted, Unquoted, Piece, Bytes, Break}
use Rattle.sh_runs.specs.standard.runs.Fields.{Sign, Quote, Breaks, stands, unquoted_sign, piece_signs, Scan, Before, Inside, scan, is_unquoted, is_pattern, field_text, field_names, is_expanded, is_split, begins_pattern, holds_pattern, splits}
use Rattle.sh_runs.specs.Theorem.{as_quoted, FieldsStandWhole}

-- a byte of a field
abbrev pub marked : Bool → ℕ → Marked
marked quoted c = record { byte = c; quoted = quoted }

-- an unquoted byte that may begin a pattern
abbrev is_open : Marked → Bool
is_open m = not m.quoted && begins_pattern m.byte

-- Fields without such a byte

not_open : (q star mark bracket : Bool) → (not q && (star || mark || bracket)) ≡ false → (((not q && star) || (not q && mark)) ≡ false) × ((not q && bracket) ≡ false)
not_open true star mark bracket h = (refl, refl)
not_open false true mark bracket h = cc
not_open false false true bracket h = cc
not_open false false false bracket h = (refl, h)

no_stars : (field : List Marked) → list_any is_open field ≡ false → list_any (λ m. is_unquoted 42 m || is_unquoted 63 m) field ≡ false
no_stars [] h = refl
no_stars (m ∷ ms) h =
    let parts = or_parts (is_open m) (list_any is_open ms) h in
    or_from _ _ (not_open m.quoted (m.byte == 42) (m.byte == 63) (m.byte == 91) parts.0).0 (no_stars ms parts.1)

no_brackets : (field : List Marked) → list_any is_open field ≡ false → list_any (is_unquoted 91) field ≡ false
no_brackets [] h = refl
no_brackets (m ∷ ms) h =
    let parts = or_parts (is_open m) (list_any is_open ms) h in
    or_from _ _ (not_open m.quoted (m.byte == 42) (m.byte == 63) (m.byte == 91) parts.0).1 (no_brackets ms parts.1)

-- such a field gives its own text
own_text : (directory : Directory) (field : List Marked) → list_any is_open field ≡ false → field_names directory field ≡ field_text field ∷ []
unfolding field_names is_pattern
own_text directory field h = rw (no_stars field h, no_brackets field h) refl

row_text : (q : Bool) (t : Text) → field_text (map (marked q) t) ≡ t
row_text q [] = refl
row_text q (c ∷ t) = ap (λ cs. c ∷ cs) (row_text q t)

row_quoted : (t : Text) → list_any is_open (map (marked true) t) ≡ false
row_quoted [] = refl
row_quoted (c ∷ t) = row_quoted t

row_unquoted : (t : Text) → list_any is_open (map (marked false) t) ≡ list_any begins_pattern t
row_unquoted [] = refl
row_unquoted (c ∷ t) = ap (λ b. begins_pattern c || b) (row_unquoted t)

-- two fields with the same bytes, and none that begins a pattern
record Alike (f g : List Marked) : Type 0 where
  same : field_text f ≡ field_text g
  first : list_any is_open f ≡ false
  second : list_any is_open g ≡ false

nothing_alike : Alike [] []
nothing_alike = record { same = refl; first = refl; second = refl }

none_open : (f g : List Marked) → list_any is_open f ≡ false → list_any is_open g ≡ false → list_any is_open (f ++ g) ≡ false
none_open f g h k = list_any-append is_open f g ∙ or_from _ _ h k

more_alike : (f g f' g' : List Marked) → Alike f g → Alike f' g' → Alike (f ++ f') (g ++ g')
more_alike f g f' g' a b = record {
  same = map-append (λ (m : Marked). m.byte) f f' ∙ ap (λ t. t ++ field_text f') a.same ∙ ap (λ t. field_text g ++ t) b.same ∙ sym (map-append (λ (m : Marked). m.byte) g g');
  first = none_open f f' a.first b.first;
  second = none_open g g' a.second b.second;
}

rows_alike : (q r : Bool) (t : Text) → list_any is_open (map (marked q) t) ≡ false → list_any is_open (map (marked r) t) ≡ false → Alike (map (marked q) t) (map (marked r) t)
rows_alike q r t h k = record { same = row_text q t ∙ sym (row_text r t); first = h; second = k }

-- bytes one after the other
pub row_inside : (q : Bool) (field : List Marked) (t : Text) (xs : List Sign) → scan (Inside field) (map (stands q) t ++ xs) ≡ scan (Inside (field ++ map (marked q) t)) xs
unfolding scan
row_inside q field [] xs = ap (λ f. scan (Inside f) xs) (sym (append-nil field))
row_inside q field (c ∷ t) xs = row_inside q (field ++ marked q c ∷ []) t xs ∙ ap (λ f. scan (Inside f) xs) (append_assoc field (marked q c ∷ []) (map (marked q) t))

-- without a separator in it, what an expansion outside quotes gives stays as it is
no_separator : (ifs t : Text) → list_any (λ c. is_in ifs c || c == 92) t ≡ false → map (unquoted_sign ifs) t ≡ map (stands false) t
unfolding unquoted_sign
no_separator ifs [] h = refl
no_separator ifs (c ∷ t) h =
    let parts = or_parts (is_in ifs c || c == 92) (list_any (λ c. is_in ifs c || c == 92) t) h in
    let here = or_parts (is_in ifs c) (c == 92) parts.0 in
    rw (here.0, no_separator ifs t parts.1) refl

module _ (directory : Directory) where
  abbrev names : Scan → List Sign → List Text
  names z xs = flat_map (field_names directory) (scan z xs)

  -- two rows of signs that give the same names, be it that no field has begun or that alike ones
  -- have
  record Same (xs ys : List Sign) : Type 0 where
    before : names Before xs ≡ names Before ys
    inside : (f g : List Marked) → Alike f g → names (Inside f) xs ≡ names (Inside g) ys

  field_first : (f g : List Marked) (ts us : List Text) → Alike f g → ts ≡ us → (field_names directory f ++ ts) ≡ (field_names directory g ++ us)
  field_first f g ts us a e = rw (own_text directory f a.first, own_text directory g a.second, a.same, e) refl

  same_rows : (q r : Bool) (t : Text) (xs ys : List Sign) → Alike (map (marked q) t) (map (marked r) t) → Same xs ys → (f g : List Marked) → Alike f g
      → names (Inside f) (map (stands q) t ++ xs) ≡ names (Inside g) (map (stands r) t ++ ys)
  same_rows q r t xs ys a s f g b =
      rw (row_inside q f t xs, row_inside r g t ys) (s.inside (f ++ map (marked q) t) (g ++ map (marked r) t) (more_alike f g (map (marked q) t) (map (marked r) t) b a))

  same_end : Same [] []
  unfolding scan
  same_end = record { before = refl; inside = λ f g a. field_first f g [] [] a refl }

  same_literal : (t : Text) (xs ys : List Sign) → list_any begins_pattern t ≡ false → Same xs ys → Same (map (stands false) t ++ xs) (map (stands false) t ++ ys)
  unfolding scan
  same_literal [] xs ys h s = s
  same_literal (c ∷ t) xs ys h s =
      let none = row_unquoted (c ∷ t) ∙ h in
      let inside = same_rows false false (c ∷ t) xs ys (rows_alike false false (c ∷ t) none none) s in
      record { before = inside [] [] nothing_alike; inside = inside }

  same_quoted : (t : Text) (xs ys : List Sign) → Same xs ys → Same (Quote ∷ map (stands true) t ++ xs) (Quote ∷ map (stands true) t ++ ys)
  unfolding scan
  same_quoted t xs ys s =
      let inside = same_rows true true t xs ys (rows_alike true true t (row_quoted t) (row_quoted t)) s in
      record { before = inside [] [] nothing_alike; inside = inside }

  same_unquoted : (t : Text) (xs ys : List Sign) → (length t == 0) ≡ false → list_any begins_pattern t ≡ false → Same xs ys
      → Same (map (stands false) t ++ xs) (Quote ∷ map (stands true) t ++ ys)
  unfolding scan
  same_unquoted [] xs ys n h s = cc
  same_unquoted (c ∷ t) xs ys n h s =
      let inside = same_rows false true (c ∷ t) xs ys (rows_alike false true (c ∷ t) (row_unquoted (c ∷ t) ∙ h) (row_quoted (c ∷ t))) s in
      record { before = inside [] [] nothing_alike; inside = inside }

  same_break : (xs ys : List Sign) → Same xs ys → Same (Breaks ∷ xs) (Breaks ∷ ys)
  unfolding scan
  same_break xs ys s = record { before = s.before; inside = λ f g a. field_first f g (names Before xs) (names Before ys) a s.before }

  -- if an expansion outside quotes is beside no pattern
  same_pieces : (ifs : Text) (ps : List Piece) → list_any (is_split ifs) ps ≡ false → list_any holds_pattern ps ≡ false
      → Same (flat_map (piece_signs ifs) ps) (flat_map (piece_signs []) (map as_quoted ps))
  unfolding piece_signs is_split holds_pattern as_quoted
  same_pieces ifs [] h k = same_end
  same_pieces ifs (Bytes Literal t ∷ ps) h k =
      let plain = or_parts (list_any begins_pattern t) (list_any holds_pattern ps) k in same_literal t _ _ plain.0 (same_pieces ifs ps h plain.1)
  same_pieces ifs (Bytes Quoted t ∷ ps) h k = same_quoted t _ _ (same_pieces ifs ps h k)
  same_pieces ifs (Bytes Unquoted t ∷ ps) h k =
      let plain = or_parts (list_any begins_pattern t) (list_any holds_pattern ps) k in
      let whole = or_parts (is_split ifs (Bytes Unquoted t)) (list_any (is_split ifs) ps) h in
      let bytes = or_parts (length t == 0) (list_any (λ c. is_in ifs c || c == 92) t) whole.0 in
      rw (no_separator ifs t bytes.1) (same_unquoted t _ _ bytes.0 plain.0 (same_pieces ifs ps whole.1 plain.1))
  same_pieces ifs (Break ∷ ps) h k = same_break _ _ (same_pieces ifs ps h k)

-- without an expansion outside quotes the separators play no part
nothing_expanded : (ifs : Text) (ps : List Piece) → list_any is_expanded ps ≡ false → flat_map (piece_signs ifs) ps ≡ flat_map (piece_signs []) (map as_quoted ps)
unfolding is_expanded piece_signs as_quoted
nothing_expanded ifs [] h = refl
nothing_expanded ifs (Bytes Literal t ∷ ps) h = ap (λ xs. map (stands false) t ++ xs) (nothing_expanded ifs ps h)
nothing_expanded ifs (Bytes Quoted t ∷ ps) h = ap (λ xs. Quote ∷ map (stands true) t ++ xs) (nothing_expanded ifs ps h)
nothing_expanded ifs (Bytes Unquoted t ∷ ps) h = cc
nothing_expanded ifs (Break ∷ ps) h = ap (λ xs. Breaks ∷ xs) (nothing_expanded ifs ps h)

-- pieces that have no Split event give the same fields where all expansions are quoted
pub stand_whole : FieldsStandWhole
unfolding splits
stand_whole ifs directory ps h =
    let parts = or_parts (list_any (is_split ifs) ps) (list_any is_expanded ps && list_any holds_pattern ps) h in
    elim (and_cases (list_any is_expanded ps) (list_any holds_pattern ps) parts.1) [
      | inl none ↦ ap (names directory Before) (nothing_expanded ifs ps none)
      | inr plain ↦ (same_pieces directory ifs ps parts.0 plain).before
    ]
