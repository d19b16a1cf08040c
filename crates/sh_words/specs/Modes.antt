-- How a word is read, by what it is.
-- POSIX.1-2024, XCU 2.6.5 (field splitting), 2.7.4 (here-document), 2.9.1.1 (declaration
-- utilities).
use Rattle.std.specs.Prelude.{ℕ, List, take}
use Rattle.sh_tree.specs.declared.token.word.Context.{Context}
use Rattle.sh_tree.specs.standard.language.Contexts.{in_word, in_unsplit, in_value, in_operand, in_body}
use Rattle.sh_words.specs.declared.mode.Mode.{Mode}
use Rattle.sh_words.specs.declared.mode.Mode.TheVariants as mode

-- the context of a word at i
abbrev pub context_of : List ℕ → Mode → ℕ → Context
context_of b mode.Word i = in_word i
context_of b mode.Unsplit i = in_unsplit i
context_of b mode.Value i = in_value i
context_of b mode.Operand i = in_operand b i
context_of b (mode.Body end strip quoted) i = in_body quoted strip

-- the byte before the first one: a body begins a line
abbrev pub first_prior : Mode → ℕ
first_prior (mode.Body end strip quoted) = 10
first_prior _ = 0

-- the text that a word of the mode can see
abbrev pub seen : List ℕ → Mode → List ℕ
seen b (mode.Body end strip quoted) = take end b
seen b _ = b
