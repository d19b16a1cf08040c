-- Clauses of private functions: the lines of here-documents, piece by piece.
-- POSIX.1-2024, XCU 2.2.1 (line continuation), 2.7.4 (here-document).
use Rattle.std.specs.Prelude.{ℕ, ◌+◌, Bool, false, not, ◌&&◌, ◌||◌, if◌then◌else◌, List, [], ◌∷◌, drop, Option, Some, None, option_map}
use Rattle.std.specs.Str.{bytes_eq}
use Rattle.sh_tree.specs.standard.language.Bytes.{is_newline, is_tab, is_backslash, run, is_first}
use Rattle.sh_tree.specs.standard.language.HereDocuments.{Mark, line_text}

-- how many bytes the first piece of a line takes: if lines are joined, a backslash and the byte
-- after it are one
unfoldable pub piece_step : Bool → List ℕ → ℕ
piece_step joins [] = 0
piece_step joins (c ∷ []) = 1
piece_step joins (c ∷ d ∷ cs) = if joins && is_backslash c then 2 else 1

-- how many of them stay once lines are joined
unfoldable pub piece_kept : Bool → List ℕ → ℕ
piece_kept joins [] = 0
piece_kept joins (c ∷ []) = 1
piece_kept joins (c ∷ d ∷ cs) = if joins && is_backslash c then (if is_newline d then 0 else 2) else 1

-- the tab or the line continuation
unfoldable pub strip_step : Bool → List ℕ → ℕ
strip_step joins [] = 0
strip_step joins (c ∷ []) = if is_tab c then 1 else 0
strip_step joins (c ∷ d ∷ cs) = if is_tab c then 1 else (if joins && is_backslash c && is_newline d then 2 else 0)

-- what is compared with the delimiter, of the line with these bytes
abbrev pub candidate : Mark → List ℕ → List ℕ
candidate m cs =
    let text = line_text (not m.quoted) cs in
    if m.strip then drop (run is_tab text) text else text

-- the line ends the here-document
abbrev pub ends : Mark → List ℕ → Bool
ends m cs = bytes_eq (candidate m cs) m.delimiter

-- where a line continuation may begin next: after a byte, or after a backslash and the byte that it
-- keeps
unfoldable pub joined_step : List ℕ → ℕ
joined_step [] = 0
joined_step (c ∷ []) = 0
joined_step (c ∷ d ∷ cs) = if is_backslash c then 2 else 1

-- a line continuation is at the front, before a tab if `tabbed`
unfoldable pub is_joined : Bool → List ℕ → Bool
is_joined tabbed [] = false
is_joined tabbed (c ∷ []) = false
is_joined tabbed (c ∷ d ∷ cs) = is_backslash c && (is_newline d && (not tabbed || is_first is_tab cs))

-- where the first line continuation begins of whose rest p holds
unfoldable pub first_joined : (List ℕ → Bool) → List ℕ → Option ℕ
first_joined p [] = None
first_joined p (c ∷ []) = None
first_joined p (c ∷ d ∷ cs) =
    if is_backslash c then (if is_newline d && p cs then Some 0 else option_map (λ n. n + 2) (first_joined p cs))
    else option_map (λ n. n + 1) (first_joined p (d ∷ cs))
