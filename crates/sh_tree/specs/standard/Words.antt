-- What definitions read off a tree: the lone command of a pipeline, the elements of a command and
-- the static text of a word.
-- POSIX.1-2024, XCU 2.2 (quoting), 2.6 (word expansions), 2.9.1 (simple commands), 2.14 (patterns).
use Rattle.std.specs.Prelude.{◌≡◌, ℕ, Bool, false, not, ◌&&◌, ◌||◌, ◌==◌, ◌-◌, length, take, drop, if◌then◌else◌, List, [], ◌∷◌, ◌++◌, Option, Some, None, refl}
use Rattle.std.proofs.Common.{◌∙◌, ap}
use Rattle.std.specs.List.{filter_map, list_any}
use Rattle.std.specs.Str.{bytes_eq}
use Rattle.sh_tree.specs.declared.tree.Span.{Span}
use Rattle.sh_tree.specs.declared.tree.Command.{Command}
use Rattle.sh_tree.specs.declared.tree.Kind.{Kind, Simple, Simple', items-the_row-Element}
use Rattle.sh_tree.specs.declared.tree.Redirect.{Redirect}
use Rattle.sh_tree.specs.declared.tree.Element.{Element, Assignment', Word', Redirection'}
use Rattle.sh_tree.specs.declared.tree.Element.TheVariants as element
use Rattle.sh_tree.specs.declared.tree.Word.{Word}
use Rattle.sh_tree.specs.declared.tree.SingleStyle.{SingleStyle}
use Rattle.sh_tree.specs.declared.tree.SingleStyle.TheVariants as single
use Rattle.sh_tree.specs.declared.tree.Part.{Part, Plain, Escaped, Single, Joined, Double, Double', Row_of-Part, end_of-Part, more_of-Part, items-the_row-Part}
use Rattle.sh_tree.specs.declared.tree.Element.TheBlock.{hidden-the_row-Part-0, items_hidden-the_row-Part-0, items_hidden-the_row-Element-3}
use Rattle.sh_tree.specs.standard.Tree.{text_of}
use Rattle.sh_tree.specs.standard.language.Characters as byte

-- Commands (XCU 2.9.1)

-- the command of a pipeline of one
unfoldable pub lone_part : List Command → Option Command
lone_part [] = None
lone_part (c ∷ []) = Some c
lone_part (c ∷ d ∷ cs) = None

-- the elements of a simple command; other commands have none
unfoldable pub elements_of : Kind → List Element
elements_of (Simple' shape row) = items-the_row-Element _ row
elements_of _ = []

pub elements_of_simple : (es : List Element) → elements_of (Simple es) ≡ es
unfolding elements_of
elements_of_simple es = items_hidden-the_row-Element-3 es

-- what an element of a simple command is (XCU 2.9.1)
pub data Form : Type 0 where
  Assigns : Span → Word → Form
  Operand : Word → Form
  Redirects : Form

unfoldable pub form_of : Element → Form
form_of (Assignment' s t shape row) = Assigns s (record { span = t; parts = items-the_row-Part _ row })
form_of (Word' t shape row) = Operand (record { span = t; parts = items-the_row-Part _ row })
form_of (Redirection' at number target) = Redirects

pub form_of_assignment : (s : Span) (w : Word) → form_of (element.Assignment s w) ≡ Assigns s w
unfolding form_of
form_of_assignment s w = ap (λ ps. Assigns s (record { span = w.span; parts = ps })) (items_hidden-the_row-Part-0 w.parts)

pub form_of_word : (w : Word) → form_of (element.Word w) ≡ Operand w
unfolding form_of
form_of_word w = ap (λ ps. Operand (record { span = w.span; parts = ps })) (items_hidden-the_row-Part-0 w.parts)

pub form_of_redirection : (r : Redirect) → form_of (element.Redirection r) ≡ Redirects
unfolding form_of
form_of_redirection r = refl

-- the word of an element that is one: the command name or an operand
unfoldable pub word_in : Form → Option Word
word_in (Operand w) = Some w
word_in _ = None

abbrev pub word_of : Element → Option Word
word_of e = word_in (form_of e)

-- the command name and the operands (XCU 2.9.1)
abbrev pub words_of : List Element → List Word
words_of es = filter_map word_of es

-- Static text: what quote removal leaves of a word in which nothing is expanded (XCU 2.6.7)

-- two texts one after the other, if both are static
abbrev pub both_texts : Option (List ℕ) → Option (List ℕ) → Option (List ℕ)
both_texts None b = None
both_texts (Some a) None = None
both_texts (Some a) (Some b) = Some (a ++ b)

-- the text without its first byte
abbrev pub behind_first : List ℕ → List ℕ
behind_first t = drop 1 t

-- the text without its first and its last byte
abbrev pub between_ends : List ℕ → List ℕ
between_ends t = take (length t - 2) (drop 1 t)

-- What a backslash in `$'` and the byte c are (XCU 2.2.4): the control character that the letter
-- names, or c itself.
unfoldable pub escape_of : ℕ → ℕ
escape_of c =
    if c == byte.small_a then byte.alert
    else (if c == byte.small_b then byte.backspace
    else (if c == byte.small_e then byte.escape
    else (if c == byte.small_f then byte.form_feed
    else (if c == byte.small_n then byte.newline
    else (if c == byte.small_r then byte.carriage_return
    else (if c == byte.small_t then byte.tab
    else (if c == byte.small_v then byte.vertical_tab
    else c)))))))

-- what is between `$'` and `'`, with one byte for each backslash and the byte after it (XCU 2.2.4)
unfoldable pub escaped : List ℕ → List ℕ
escaped [] = []
escaped (c ∷ []) = c ∷ []
escaped (c ∷ d ∷ cs) = if c == byte.backslash then escape_of d ∷ escaped cs else c ∷ escaped (d ∷ cs)

-- what single quotes hold (XCU 2.2.2), and what `$'` and a quote hold (XCU 2.2.4)
abbrev pub single_text : SingleStyle → List ℕ → List ℕ
single_text single.Plain t = between_ends t
single_text single.Dollar t = escaped (between_ends (behind_first t))

-- the text of a part without its quoting (XCU 2.2), if it holds no expansion and is no tilde-prefix
unfoldable mutual
  pub part_text : List ℕ → Part → Option (List ℕ)
  part_text b (Plain s) = Some (text_of b s)
  part_text b (Escaped s) = Some (behind_first (text_of b s))
  part_text b (Single style s) = Some (single_text style (text_of b s))
  part_text b (Double' s shape row) = row_text b row
  part_text b (Joined s) = Some []
  part_text b _ = None

  pub row_text : {m : _} → List ℕ → Row_of-Part m → Option (List ℕ)
  row_text b end_of-Part = Some []
  row_text b (more_of-Part x rest) = both_texts (part_text b x) (row_text b rest)

-- the text of parts, if each is static
unfoldable pub parts_text : List ℕ → List Part → Option (List ℕ)
parts_text b [] = Some []
parts_text b (x ∷ xs) = both_texts (part_text b x) (parts_text b xs)

-- `*` and `?` (XCU 2.14)
abbrev pub is_wildcard : ℕ → Bool
is_wildcard c = c == 42 || c == 63

-- an unquoted `*` or `?`
unfoldable pub has_wildcard : List ℕ → Part → Bool
has_wildcard b (Plain s) = list_any is_wildcard (text_of b s)
has_wildcard b _ = false

-- an unquoted `[`
unfoldable pub has_bracket : List ℕ → Part → Bool
has_bracket b (Plain s) = list_any (λ c. c == 91) (text_of b s)
has_bracket b _ = false

-- the whole word is `[`, which begins no bracket expression and matches itself (XCU 2.14)
unfoldable pub is_bracket : List ℕ → List Part → Bool
is_bracket b (Plain s ∷ []) = bytes_eq (text_of b s) (91 ∷ [])
is_bracket b _ = false

-- the word holds an unquoted byte of a pattern (XCU 2.14)
unfoldable pub is_pattern : List ℕ → List Part → Bool
is_pattern b ps = list_any (has_wildcard b) ps || (list_any (has_bracket b) ps && not (is_bracket b ps))

-- the text of a word without its quoting (XCU 2.6.7), if it holds no expansion, no tilde-prefix and
-- no pattern
unfoldable pub static_text : List ℕ → List Part → Option (List ℕ)
static_text b ps = if is_pattern b ps then None else parts_text b ps

row_text-items : (m : _) (b : List ℕ) (row : Row_of-Part m) → row_text b row ≡ parts_text b (items-the_row-Part m row)
unfolding row_text parts_text
row_text-items m b end_of-Part = refl
row_text-items m b (more_of-Part x rest) = ap (both_texts (part_text b x)) (row_text-items _ b rest)

pub part_text-Double : (b : List ℕ) (s : Span) (ps : List Part) → part_text b (Double s ps) ≡ parts_text b ps
unfolding part_text
part_text-Double b s ps = row_text-items _ b (hidden-the_row-Part-0 ps) ∙ ap (parts_text b) (items_hidden-the_row-Part-0 ps)
