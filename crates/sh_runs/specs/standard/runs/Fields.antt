-- The fields of a word, from its pieces; and the Split events.
-- POSIX.1-2024, XCU 2.6.5 (field splitting), 2.6.6 (pathname expansion), 2.6.7 (quote removal),
-- 2.14 (patterns).
use Rattle.std.specs.Prelude.{ℕ, ◌==◌, Bool, true, false, not, ◌&&◌, ◌||◌, if◌then◌else◌, List, [], ◌∷◌, ◌++◌, map, length}
use Rattle.std.specs.List.{flat_map, list_any}
use Rattle.sh_tree.specs.standard.language.Bytes.{is_in}
use Rattle.sh_tree.specs.standard.program.Syntax.{Text}
use Rattle.sh_runs.specs.standard.runs.Environment.{blanks}
use Rattle.sh_runs.specs.standard.runs.Answers.{Marked, Directory}
use Rattle.sh_runs.specs.standard.runs.Expansion.{Literal, Quoted, Unquoted, Piece, Bytes, Break}

-- Field splitting (XCU 2.6.5)

-- what a scan for fields meets: a byte of a field, a separator of white space or another one, a
-- quoted piece, a break
pub data Sign : Type 0 where
  Stands : Marked → Sign
  Blank : Sign
  Separates : Sign
  Quote : Sign
  Breaks : Sign

abbrev pub stands : Bool → ℕ → Sign
stands quoted c = Stands (record { byte = c; quoted = quoted })

-- a byte of an expansion outside quotes: a separator if it is one of these (XCU 2.6.5)
unfoldable pub unquoted_sign : Text → ℕ → Sign
unquoted_sign separators c = if is_in separators c then (if is_in blanks c then Blank else Separates) else stands false c

-- quotes alone may be a field, and their bytes are no separators (XCU 2.6.5)
unfoldable pub piece_signs : Text → Piece → List Sign
piece_signs separators (Bytes Literal t) = map (stands false) t
piece_signs separators (Bytes Quoted t) = Quote ∷ map (stands true) t
piece_signs separators (Bytes Unquoted t) = map (unquoted_sign separators) t
piece_signs separators Break = Breaks ∷ []

-- where a scan is: no field has begun; a field ended with white space, which another separator may
-- follow; a field so far
pub data Scan : Type 0 where
  Before : Scan
  Behind : Scan
  Inside : List Marked → Scan

-- the fields from here on (XCU 2.6.5)
unfoldable pub scan : Scan → List Sign → List (List Marked)
scan Before [] = []
scan Behind [] = []
scan (Inside field) [] = field ∷ []
scan Before (Stands c ∷ xs) = scan (Inside (c ∷ [])) xs
scan Behind (Stands c ∷ xs) = scan (Inside (c ∷ [])) xs
scan (Inside field) (Stands c ∷ xs) = scan (Inside (field ++ c ∷ [])) xs
scan Before (Quote ∷ xs) = scan (Inside []) xs
scan Behind (Quote ∷ xs) = scan (Inside []) xs
scan (Inside field) (Quote ∷ xs) = scan (Inside field) xs
scan Before (Blank ∷ xs) = scan Before xs
scan Behind (Blank ∷ xs) = scan Behind xs
scan (Inside field) (Blank ∷ xs) = field ∷ scan Behind xs
scan Before (Separates ∷ xs) = [] ∷ scan Before xs
scan Behind (Separates ∷ xs) = scan Before xs
scan (Inside field) (Separates ∷ xs) = field ∷ scan Before xs
scan Before (Breaks ∷ xs) = scan Before xs
scan Behind (Breaks ∷ xs) = scan Before xs
scan (Inside field) (Breaks ∷ xs) = field ∷ scan Before xs

-- the fields that splitting makes of a word (XCU 2.6.5)
abbrev pub split_fields : Text → List Piece → List (List Marked)
split_fields separators ps = scan Before (flat_map (piece_signs separators) ps)

-- Pathname expansion (XCU 2.6.6)

abbrev pub is_unquoted : ℕ → Marked → Bool
is_unquoted c m = not m.quoted && m.byte == c

unfoldable pub is_bracket : List Marked → Bool
is_bracket (m ∷ []) = m.byte == 91
is_bracket _ = false

-- an unquoted `*` or `?`, or an unquoted `[` with something beside it (XCU 2.14)
unfoldable pub is_pattern : List Marked → Bool
is_pattern field = list_any (λ m. is_unquoted 42 m || is_unquoted 63 m) field || (list_any (is_unquoted 91) field && not (is_bracket field))

-- quote removal: the bytes alone (XCU 2.6.7)
abbrev pub field_text : List Marked → Text
field_text field = map (λ (m : Marked). m.byte) field

-- the names, or the pattern itself if there are none (XCU 2.6.6)
unfoldable pub names_or : Text → List Text → List Text
names_or t [] = t ∷ []
names_or t (n ∷ ns) = n ∷ ns

unfoldable pub field_names : Directory → List Marked → List Text
field_names directory field = if is_pattern field then names_or (field_text field) (directory field) else field_text field ∷ []

-- the fields of a word (XCU 2.6.5 to 2.6.7)
abbrev pub fields : Text → Directory → List Piece → List Text
fields separators directory ps = flat_map (field_names directory) (split_fields separators ps)

-- Split events: fields that splitting or patterns could change (XCU 2.6.5, 2.6.6)

unfoldable pub is_expanded : Piece → Bool
is_expanded (Bytes Unquoted t) = true
is_expanded _ = false

-- splitting could change the piece, or a backslash in it could escape a byte of a pattern
-- (XCU 2.14)
unfoldable pub is_split : Text → Piece → Bool
is_split separators (Bytes Unquoted t) = length t == 0 || list_any (λ c. is_in separators c || c == 92) t
is_split separators _ = false

-- an unquoted `*`, `?` or `[`, which may begin a pattern (XCU 2.14)
abbrev pub begins_pattern : ℕ → Bool
begins_pattern c = c == 42 || c == 63 || c == 91

unfoldable pub holds_pattern : Piece → Bool
holds_pattern (Bytes Quoted t) = false
holds_pattern (Bytes Literal t) = list_any begins_pattern t
holds_pattern (Bytes Unquoted t) = list_any begins_pattern t
holds_pattern Break = false

-- an unquoted expansion of the word is changed by splitting, or is in what may be a pattern
unfoldable pub splits : Text → List Piece → Bool
splits separators ps = list_any (is_split separators) ps || (list_any is_expanded ps && list_any holds_pattern ps)
