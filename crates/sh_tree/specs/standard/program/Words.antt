-- What is read off the words of a program: what is in a simple command, static text, and which
-- words are assignments in form.
-- POSIX.1-2024, XCU 2.2 (quoting), 2.6.7 (quote removal), 2.9.1 (simple commands), 2.14 (patterns);
-- a name is as in XBD 3.216.
use Rattle.std.specs.Prelude.{ℕ, ◌+◌, ◌==◌, Bool, false, not, ◌&&◌, ◌||◌, if◌then◌else◌, List, [], ◌∷◌, take, drop, Option, Some, None}
use Rattle.std.specs.List.{list_any}
use Rattle.std.specs.Str.{bytes_eq}
use Rattle.sh_tree.specs.standard.Words.{both_texts, is_wildcard}
use Rattle.sh_tree.specs.standard.language.Bytes.{name_length}
use Rattle.sh_tree.specs.standard.language.Commands.{is_assignment}
use Rattle.sh_tree.specs.standard.program.Syntax.{Text, Part, Plain, Escaped, Single, Double, Joined, Word, no_parts, more_parts, Words, no_words, more_words, Elements, no_elements, assignment, operand, redirection, Redirects, no_redirects, more_redirects}

-- the text of a part without its quoting (XCU 2.2), if it holds no expansion and is no tilde-prefix
unfoldable mutual
  pub part_text : Part → Option Text
  part_text (Plain t) = Some t
  part_text (Escaped t) = Some t
  part_text (Single style t) = Some t
  part_text (Double w) = word_text w
  part_text Joined = Some []
  part_text _ = None

  pub word_text : Word → Option Text
  word_text no_parts = Some []
  word_text (more_parts x w) = both_texts (part_text x) (word_text w)

-- an unquoted byte of a class
unfoldable pub part_has : (ℕ → Bool) → Part → Bool
part_has is_one (Plain t) = list_any is_one t
part_has is_one _ = false

unfoldable pub word_has : (ℕ → Bool) → Word → Bool
word_has is_one no_parts = false
word_has is_one (more_parts x w) = part_has is_one x || word_has is_one w

-- the word is these unquoted bytes alone
unfoldable pub is_plainly : Text → Word → Bool
is_plainly t (more_parts (Plain u) no_parts) = bytes_eq u t
is_plainly t _ = false

-- the word holds an unquoted byte of a pattern (XCU 2.14); `[` alone is none
unfoldable pub is_pattern : Word → Bool
is_pattern w = word_has is_wildcard w || (word_has (λ c. c == 91) w && not (is_plainly (91 ∷ []) w))

-- the text of a word without its quoting (XCU 2.6.7), if it holds no expansion, no tilde-prefix and
-- no pattern
unfoldable pub static_of : Word → Option Text
static_of w = if is_pattern w then None else word_text w

-- the words of a row of them
unfoldable pub words_in : Words → List Word
words_in no_words = []
words_in (more_words w ws) = w ∷ words_in ws

-- What is in a simple command (XCU 2.9.1): its name and operands, its redirections, its assignments

unfoldable pub operands_in : Elements → Words
operands_in no_elements = no_words
operands_in (assignment name value es) = operands_in es
operands_in (operand w es) = more_words w (operands_in es)
operands_in (redirection r es) = operands_in es

unfoldable pub redirects_in : Elements → Redirects
redirects_in no_elements = no_redirects
redirects_in (assignment name value es) = redirects_in es
redirects_in (operand w es) = redirects_in es
redirects_in (redirection r es) = more_redirects r (redirects_in es)

-- names and values (XCU 2.9.1)
abbrev pub Assignments : Type 0
Assignments = List (Text × Word)

unfoldable pub assignments_in : Elements → Assignments
assignments_in no_elements = []
assignments_in (assignment name value es) = (name, value) ∷ assignments_in es
assignments_in (operand w es) = assignments_in es
assignments_in (redirection r es) = assignments_in es

-- Assignments in form (XCU 2.9.1.1): the text before the first `=` is an unquoted name

-- the plain bytes before a word, if there are some
unfoldable pub before_word : Text → Word → Word
before_word [] w = w
before_word (c ∷ cs) w = more_parts (Plain (c ∷ cs)) w

-- the name and the value of a word that is an assignment in form
unfoldable pub assignment_in : Word → Option (Text × Word)
assignment_in (more_parts (Plain t) w) = if is_assignment t then Some (take (name_length t) t, before_word (drop (name_length t + 1) t) w) else None
assignment_in _ = None
