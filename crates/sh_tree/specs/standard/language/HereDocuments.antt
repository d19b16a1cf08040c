-- Here-documents: the delimiter, the lines, and the line that ends a body.
-- POSIX.1-2024, XCU 2.7.4 (here-document), 2.2.1 (line continuation).
use Rattle.std.specs.Prelude.{ℕ, zero, suc, ◌+◌, Bool, true, false, not, ◌&&◌, ◌||◌, if◌then◌else◌, List, [], ◌∷◌, length, drop, nat_lt, Option, Some, None, slice_range}
use Rattle.std.specs.Str.{bytes_eq}
use Rattle.std.specs.List.{list_any}
use Rattle.sh_tree.specs.declared.tree.Part.{Part, Single}
use Rattle.sh_tree.specs.declared.tree.SingleStyle.TheVariants as single
use Rattle.sh_tree.specs.declared.tree.Span.{Span}
use Rattle.sh_tree.specs.declared.tree.Word.{Word}
use Rattle.sh_tree.specs.standard.language.Bytes.{is_newline, is_tab, is_backslash, run, is_first}
use Rattle.sh_tree.specs.standard.language.Trees.{span}
use Rattle.sh_tree.specs.standard.Tree.{text_of}
use Rattle.sh_tree.specs.standard.Words.{parts_text}

-- A here-document whose body has not come (XCU 2.7.4). It has whether it strips tabs, whether its
-- delimiter is quoted, the delimiter, and how deep the operator is.
pub record Mark : Type 0 where
  pub strip : Bool
  pub quoted : Bool
  pub delimiter : List ℕ
  pub depth : ℕ

-- Delimiters (XCU 2.7.4)

abbrev pub or_none : Option (List ℕ) → List ℕ
or_none (Some t) = t
or_none None = []

unfoldable pub is_static : Option (List ℕ) → Bool
is_static (Some t) = true
is_static None = false

-- `$'` and what it quotes
unfoldable pub is_dollar_quoted : Part → Bool
is_dollar_quoted (Single single.Dollar s) = true
is_dollar_quoted _ = false

-- No expansion, no tilde-prefix, no `$'` and no newline (XCU 2.7.4). The standard has such
-- delimiters too: they are refused.
unfoldable pub is_delimiter : List ℕ → Word → Bool
is_delimiter b w = is_static (parts_text b w.parts) && not (list_any is_dollar_quoted w.parts) && not (list_any is_newline (text_of b w.span))

-- the delimiter: the word without its quoting (XCU 2.7.4)
unfoldable pub delimiter_of : List ℕ → Word → List ℕ
delimiter_of b w = or_none (parts_text b w.parts)

-- Lines (XCU 2.7.4; joined as in 2.2.1)

-- How long the line at the front is, without its newline. If lines are joined, a backslash keeps
-- the byte after it from ending the line.
unfoldable pub line_length : Bool → List ℕ → ℕ
line_length joins [] = 0
line_length joins (c ∷ []) = if is_newline c then 0 else 1
line_length joins (c ∷ d ∷ cs) =
    if is_newline c then 0
    else (if joins && is_backslash c then 2 + line_length joins cs else 1 + line_length joins (d ∷ cs))

-- where the line at i ends, before its newline
unfoldable pub line_end : Bool → List ℕ → ℕ → ℕ
line_end joins b i = i + line_length joins (drop i b)

-- the text of a line without its line continuations (XCU 2.2.1)
unfoldable pub line_text : Bool → List ℕ → List ℕ
line_text joins [] = []
line_text joins (c ∷ []) = c ∷ []
line_text joins (c ∷ d ∷ cs) =
    if joins && is_backslash c then (if is_newline d then line_text joins cs else c ∷ d ∷ line_text joins cs)
    else c ∷ line_text joins (d ∷ cs)

-- What is compared with the delimiter (XCU 2.7.4): the line at i without the tabs that `<<-`
-- strips. If the delimiter is unquoted, the line is joined. The standard leaves that open.
unfoldable pub end_candidate : Mark → List ℕ → ℕ → List ℕ
end_candidate m b i =
    let text = line_text (not m.quoted) (slice_range b i (line_end (not m.quoted) b i)) in
    if m.strip then drop (run is_tab text) text else text

-- the line after the one that ends at e
abbrev pub behind_line : List ℕ → ℕ → ℕ
behind_line b e = if nat_lt e (length b) then e + 1 else e

-- the line that ends the body, from its first byte to before its newline; the search takes at most
-- n lines from i on
unfoldable pub end_line_within : ℕ → Mark → List ℕ → ℕ → Option Span
end_line_within zero m b i = None
end_line_within (suc n) m b i =
    if not (nat_lt i (length b)) then None
    else (if bytes_eq (end_candidate m b i) m.delimiter then Some (span i (line_end (not m.quoted) b i))
    else end_line_within n m b (behind_line b (line_end (not m.quoted) b i)))

-- the line that ends the body that begins at i (XCU 2.7.4)
unfoldable pub end_line : Mark → List ℕ → ℕ → Option Span
end_line m b i = end_line_within (length b) m b i

-- Lines that are read in two ways (XCU 2.7.4)

-- a line of the text begins with a tab; the first one does so only if the text begins a line
unfoldable pub has_tabbed_line : Bool → List ℕ → Bool
has_tabbed_line begins [] = false
has_tabbed_line begins (c ∷ cs) = (begins && is_tab c) || has_tabbed_line (is_newline c) cs

-- The text has a line continuation, and p is true of what follows it. The second of two backslashes
-- begins none.
unfoldable pub has_joined : (List ℕ → Bool) → List ℕ → Bool
has_joined p [] = false
has_joined p (c ∷ []) = false
has_joined p (c ∷ d ∷ cs) = if is_backslash c then (is_newline d && p cs) || has_joined p cs else has_joined p (d ∷ cs)

-- the text has a line continuation (XCU 2.2.1)
abbrev pub is_split_text : List ℕ → Bool
is_split_text t = has_joined (λ rest. true) t

-- the line begins with a backslash, or with a tab
abbrev pub begins_late : List ℕ → Bool
begins_late t = is_first is_backslash t || is_first is_tab t

-- The body from i on, or the line l that ends it, is read in two ways (XCU 2.7.4). A tab follows a
-- line continuation in the body: shells differ in whether `<<-` strips it. Or the end line holds a
-- continuation, and begins with a backslash or a tab. Directly after a continuation no delimiter is
-- recognized, and most shells recognize it.
abbrev pub is_ambiguous : Mark → List ℕ → ℕ → Span → Bool
is_ambiguous m b i l =
    (m.strip && not m.quoted && has_joined (is_first is_tab) (slice_range b i l.start))
    || (not m.quoted && begins_late (text_of b l) && is_split_text (text_of b l))

-- The lines of a here-document in the body of another are read in one way (XCU 2.7.4). In a joined
-- body, a quoted delimiter keeps its lines: they hold no continuation. If tabs are stripped around
-- it, its lines lose them too, and only `<<-` says so: without it no line begins with a tab. The
-- lines are those from the body's first to the end line, with its newline.
unfoldable pub keeps_document : List ℕ → Bool → Bool → Mark → Span → Bool
keeps_document b joins tabs m s =
    (not (joins && m.quoted) || not (is_split_text (text_of b s))) && (not tabs || m.strip || not (has_tabbed_line true (text_of b s)))
