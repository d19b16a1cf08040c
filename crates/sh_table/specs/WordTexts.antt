-- Clauses of private functions: the static texts of words as they are kept.
-- POSIX.1-2024, XCU 2.2 (quoting), 2.14 (patterns).
use Rattle.std.specs.Prelude.{ℕ, ◌==◌, Bool, not, ◌&&◌, ◌||◌, if◌then◌else◌, List, [], ◌∷◌, map, Option, Some, None}
use Rattle.std.specs.List.{list_any}
use Rattle.std.specs.Str.{bytes_eq}
use Rattle.sh_tree.specs.declared.tree.Element.{Element}
use Rattle.sh_tree.specs.declared.tree.Part.{Part}
use Rattle.sh_tree.specs.declared.tree.Part.TheVariants as part
use Rattle.sh_tree.specs.declared.tree.Span.{Span}
use Rattle.sh_tree.specs.standard.Tree.{text_of}
use Rattle.sh_tree.specs.standard.Words.{is_wildcard}
use Rattle.sh_tree.specs.Lists.{element_from}
use Rattle.sh_tree.specs.standard.program.Syntax as p
use Rattle.sh_tree.specs.standard.program.Syntax.{Text}
use Rattle.sh_tree.specs.standard.program.Words.{operands_in, static_of, words_in}
use Rattle.sh_runs.specs.Profile.{Static}
use Rattle.sh_table.specs.declared.word_text.WordText.{WordText}
use Rattle.sh_table.specs.declared.word_text.WordText.TheVariants.{Computed, Verbatim, Made}

-- a byte that may be one of a pattern
unfoldable pub may_match : ℕ → Bool
may_match c = is_wildcard c || c == 91

-- plain bytes hold a byte of a pattern; a `[` alone is none
unfoldable pub has_pattern : Text → Bool
has_pattern t = list_any may_match t && not (bytes_eq t (91 ∷ []))

-- the static text of a word of plain bytes
abbrev pub plain_text : List ℕ → Span → Option Text
plain_text b s = if has_pattern (text_of b s) then None else Some (text_of b s)

-- the bytes of a word that is plain bytes alone
unfoldable pub plain_span : List Part → Option Span
plain_span (part.Plain s ∷ []) = Some s
plain_span _ = None

-- the part of a word that has one
unfoldable pub lone_part : List Part → Option Part
lone_part [] = None
lone_part (x ∷ []) = Some x
lone_part (x ∷ y ∷ ys) = None

-- the text that is kept
unfoldable pub text_in : List ℕ → WordText → Option Text
text_in b Computed = None
text_in b (Verbatim s) = Some (text_of b s)
text_in b (Made v) = Some v.items

-- those of an element
unfoldable pub texts_of : List ℕ → Element → List Static
texts_of b e = map static_of (words_in (operands_in (element_from b e p.no_elements)))
