-- What is read alike wherever its bytes are: a whole word, and a here-document with its end line.
-- POSIX.1-2024, XCU 2.2 (quoting), 2.3 (token recognition), 2.6 (word expansions), 2.7.4
-- (here-documents).
use Rattle.std.specs.Prelude.{◌≡◌, ℕ, ◌+◌, ◌==◌, Bool, true, false, not, ◌&&◌, ◌||◌, List, ◌∷◌, ◌++◌, length, take, drop, codes, Option, Some}
use Rattle.std.specs.List.{list_any}
use Rattle.std.specs.Str.{bytes_eq}
use Rattle.sh_tree.specs.declared.tree.Part.{Part}
use Rattle.sh_tree.specs.declared.tree.Span.{Span}
use Rattle.sh_tree.specs.declared.tree.Word.{Word}
use Rattle.sh_tree.specs.declared.token.command.Lead.TheVariants as lead
use Rattle.sh_tree.specs.declared.token.command.Stage.{Stage}
use Rattle.sh_tree.specs.declared.token.word.Context.{Context}
use Rattle.sh_tree.specs.standard.Tree.{text_of}
use Rattle.sh_tree.specs.standard.Words.{parts_text}
use Rattle.sh_tree.specs.standard.language.Characters as byte
use Rattle.sh_tree.specs.standard.language.Bytes.{is_blank, is_newline, is_backslash, ends_token, is_first}
use Rattle.sh_tree.specs.standard.language.Commands.{is_parenthesis, blank_length, gap_length, lead_at, declares}
use Rattle.sh_tree.specs.standard.language.Contexts.{in_unsplit, in_value, in_stage, in_document_of}
use Rattle.sh_tree.specs.standard.language.HereDocuments.{Mark, is_dollar_quoted, is_delimiter, delimiter_of, end_line, is_ambiguous}
use Rattle.sh_tree.specs.standard.language.Parts.{is_quoted_word, keeps_lines}
use Rattle.sh_tree.specs.standard.language.Reading.{ReadsWord, ReadsParts}
use Rattle.sh_tree.specs.standard.language.States.{Spot, State, in_document}
use Rattle.sh_tree.specs.standard.language.Trees as tree
use Rattle.sh_tree.specs.standard.language.Trees.{span}

-- Words

-- what a whole word is
pub data Role : Type 0 where
  -- the command name or an operand at this stage; a word of `for` is one after a name
  Field : (stage : Stage) → Role
  -- the target of a redirection, a delimiter, the word of `case` or a pattern
  Unsplit : Role
  -- the value of an assignment
  Value : Role

-- the context of such a word that begins at i
unfoldable pub context_of : Role → List ℕ → ℕ → Context
context_of (Field g) b i = in_stage b g i
context_of Unsplit b i = in_unsplit i
context_of Value b i = in_value i

-- what a word is as a delimiter: its text without quoting, if it has one, whether a part is
-- quoted, and whether one is quoted by `$'`
pub record Form : Type 0 where
  pub text : Option (List ℕ)
  pub quoted : Bool
  pub dollar_quoted : Bool

abbrev pub form_of : List ℕ → Word → Form
form_of b w = record { text = parts_text b w.parts; quoted = is_quoted_word w; dollar_quoted = list_any is_dollar_quoted w.parts }

-- What may follow a word: a blank, a newline or `)`, and no `(` at the next token.
pub record IsBehindWord (rest : List ℕ) : Type 0 where
  pub ends : is_first (λ c. is_blank c || is_newline c || c == byte.right_parenthesis) rest ≡ true
  pub opens_nothing : is_first is_parenthesis (drop (blank_length false rest) rest) ≡ false

-- a spot outside of here-documents, so deep; only if `quiet` may it be one where no newline token
-- may come
pub record IsWordSpot (depth : ℕ) (quiet : Bool) (s : Spot) : Type 0 where
  pub depth_is : s.depth ≡ depth
  pub quiet_only : s.quiet ≡ true → quiet ≡ true
  pub joins : s.joins ≡ false
  pub tabs : s.tabs ≡ false

-- the spot at i where n commands have begun
abbrev pub counted : ℕ → ℕ → Spot → Spot
counted i n s = record s { at = i; count = n }

-- After any bytes and before what may follow a word, the text is a whole word of this role
-- and form. So many commands begin in it.
pub record WordOf (limit depth : ℕ) (quiet : Bool) (role : Role) (form : Form) (commands : ℕ) (text : List ℕ) : Type 0 where
  pub is_read : (b rest : List ℕ) (s : Spot) → drop s.at b ≡ text ++ rest → IsBehindWord rest → IsWordSpot depth quiet s
      → (parts : List Part)
      × ReadsWord limit b (context_of role b s.at) s (counted (s.at + length text) (s.count + commands) s) (tree.word s.at (s.at + length text) parts)
      × (form_of b (tree.word s.at (s.at + length text) parts) ≡ form)

-- no delimiter of tokens, nor the first byte of a comment
abbrev pub begins_word : ℕ → Bool
begins_word c = not (ends_token c) && not (c == byte.number_sign)

-- the text is a command name whose operands may be assignments
abbrev pub is_declaring : List ℕ → Bool
is_declaring t = bytes_eq (codes "export") t || bytes_eq (codes "readonly") t

-- After any bytes, and before what may follow a word, the text begins as a word does at this stage.
-- Its first byte is at a token.
pub record TokenOf (stage : Stage) (text : List ℕ) : Type 0 where
  pub first : is_first begins_word text ≡ true
  pub at_token : (rest : List ℕ) → IsBehindWord rest → blank_length false (text ++ rest) ≡ 0
  pub is_lead : (b rest : List ℕ) (i : ℕ) → drop i b ≡ text ++ rest → IsBehindWord rest → lead_at b stage i ≡ lead.Word
  pub declaring : (b rest : List ℕ) (i : ℕ) → drop i b ≡ text ++ rest → IsBehindWord rest → declares b i ≡ is_declaring text

-- Here-documents

-- the spot of the body of a here-document that begins at i after n commands, outside of others
abbrev pub body_spot : Mark → ℕ → ℕ → Spot
body_spot m i n = record { at = i; count = n; depth = m.depth; quiet = false; joins = not m.quoted; tabs = m.strip }

-- After any bytes and before a newline, the text and the end line are the body of the
-- here-document and the line that ends it. So many commands begin in the body.
pub record DocumentOf (limit : ℕ) (mark : Mark) (commands : ℕ) (text end : List ℕ) : Type 0 where
  pub ends : (b rest : List ℕ) (i : ℕ) → drop i b ≡ text ++ (end ++ 10 ∷ rest)
      → end_line mark b i ≡ Some (span (i + length text) (i + length text + length end))
  pub is_unambiguous : (b rest : List ℕ) (i : ℕ) → drop i b ≡ text ++ (end ++ 10 ∷ rest)
      → is_ambiguous mark b i (span (i + length text) (i + length text + length end)) ≡ false
  pub is_read : (b rest : List ℕ) (i n : ℕ) → drop i b ≡ text ++ (end ++ 10 ∷ rest)
      → (u : Spot) × (parts : List Part)
      × ReadsParts limit (take (i + length text) b) (in_document_of mark) 10 (body_spot mark i n) u parts
      × (keeps_lines b (not mark.quoted) parts ≡ true) × (u.count ≡ n + commands)

-- an unquoted delimiter has no backslash
abbrev pub IsMark : Mark → Type 0
IsMark m = m.quoted ≡ false → list_any is_backslash m.delimiter ≡ false

-- What holds of each word and here-document that a reading has, outside of here-documents.
pub record WordsAreCopied : Type 0 where
  pub words : (limit commands : ℕ) (b : List ℕ) (role : Role) (s u : Spot) (w : Word) → s.joins ≡ false → s.tabs ≡ false
      → u.count ≡ s.count + commands → ReadsWord limit b (context_of role b s.at) s u w
      → WordOf limit s.depth s.quiet role (form_of b w) commands (text_of b w.span)
  pub tokens : (limit : ℕ) (b : List ℕ) (role : Role) (stage : Stage) (s u : Spot) (w : Word) → gap_length (drop s.at b) ≡ 0
      → lead_at b stage s.at ≡ lead.Word → ReadsWord limit b (context_of role b s.at) s u w
      → TokenOf stage (text_of b w.span)
  pub marks : (limit depth : ℕ) (strip : Bool) (b : List ℕ) (s u : Spot) (w : Word)
      → ReadsWord limit b (in_unsplit s.at) s u w → is_delimiter b w ≡ true
      → IsMark (record { strip = strip; quoted = is_quoted_word w; delimiter = delimiter_of b w; depth = depth })
  pub documents : (limit commands : ℕ) (b : List ℕ) (m : Mark) (s : State) (u : Spot) (l : Span) (parts : List Part) → s.spot.joins ≡ false → s.spot.tabs ≡ false
      → IsMark m → end_line m b s.spot.at ≡ Some l → is_ambiguous m b s.spot.at l ≡ false
      → ReadsParts limit (take l.start b) (in_document_of m) 10 (in_document m s) u parts → keeps_lines b (not m.quoted) parts ≡ true
      → u.count ≡ s.spot.count + commands → DocumentOf limit m commands (text_of b (span s.spot.at l.start)) (text_of b l)
