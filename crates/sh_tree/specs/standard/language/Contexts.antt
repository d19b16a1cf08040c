-- The contexts in which whole words are read.
-- POSIX.1-2024, XCU 2.6.1 (tilde expansion), 2.6.5 (field splitting), 2.7 (redirection), 2.9 (shell
-- commands), 2.15 (export, readonly).
use Rattle.std.specs.Prelude.{ℕ, ◌+◌, Bool, true, false, if◌then◌else◌, List, drop}
use Rattle.sh_tree.specs.declared.token.word.Site.TheVariants as site
use Rattle.sh_tree.specs.declared.token.word.Context.{Context}
use Rattle.sh_tree.specs.declared.token.command.Stage.{Stage}
use Rattle.sh_tree.specs.declared.token.command.Stage.TheVariants.{Named}
use Rattle.sh_tree.specs.standard.language.HereDocuments.{Mark}
use Rattle.sh_tree.specs.standard.language.Commands.{is_assignment, name_end}

-- a word at i whose fields are split: a command name, an operand, a word of `for` (XCU 2.6.5,
-- 2.9.4.2)
abbrev pub in_word : ℕ → Context
in_word i = record { site = site.Word; origin = i; colons = false; fields = true; strip = false; body = false; backquotes = true }

-- a word at i whose fields are not split: the target of a redirection (XCU 2.7), the word of `case`
-- and its patterns (XCU 2.9.4.3)
abbrev pub in_unsplit : ℕ → Context
in_unsplit i = record { site = site.Word; origin = i; colons = false; fields = false; strip = false; body = false; backquotes = true }

-- the value of an assignment, which begins at i: a tilde may follow a colon (XCU 2.6.1, 2.9.1)
abbrev pub in_value : ℕ → Context
in_value i = record { site = site.Word; origin = i; colons = true; fields = false; strip = false; body = false; backquotes = true }

-- An operand of `export` or `readonly` at i (XCU 2.9.1.1, 2.15). If it is an assignment in form,
-- what follows `=` is read as a value.
unfoldable pub in_operand : List ℕ → ℕ → Context
in_operand b i = if is_assignment (drop i b) then in_value (name_end b i + 1) else in_word i

-- The body of a here-document (XCU 2.7.4). `quoted`: its delimiter is quoted, so that nothing in it
-- is special. `strip`: `<<-` strips its tabs.
abbrev pub in_body : Bool → Bool → Context
in_body quoted strip = record { site = if quoted then site.Verbatim else site.Body; origin = 0; colons = false; fields = false; strip = strip; body = true; backquotes = false }

unfoldable pub in_document_of : Mark → Context
in_document_of m = in_body m.quoted m.strip

-- a word of a simple command at i (XCU 2.9.1)
unfoldable pub in_stage : List ℕ → Stage → ℕ → Context
in_stage b (Named d) i = if d then in_operand b i else in_word i
in_stage b _ i = in_word i
