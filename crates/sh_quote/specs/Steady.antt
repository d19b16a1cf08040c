-- When IFS separates no numbers, whatever a script does: a look at its whole text.
-- POSIX.1-2024, XCU 2.6.5 (field splitting), 2.15 (export, readonly), 3 (getopts, read).
use Rattle.std.specs.Prelude.{Bool, true, false, not, ◌&&◌, ◌||◌, List, [], ◌∷◌, ◌++◌, Option, Some, None, is_some, unwrap_or, option_map}
use Rattle.std.specs.List.{list_any, list_all}
use Rattle.sh_tree.specs.standard.program.Syntax as p
use Rattle.sh_tree.specs.standard.program.Syntax.{Text, Word}
use Rattle.sh_tree.specs.standard.program.Words.{static_of, assignment_in, words_in, operands_in, redirects_in, assignments_in}
use Rattle.sh_runs.specs.standard.Kinds.{kind_of}
use Rattle.sh_runs.specs.Surroundings.{outside, items_located}
use Rattle.sh_runs.specs.Quoting.{are_quotations, word_mentions, word_assigns, is_at, is_ifs, is_steady}
use Rattle.sh_runs.specs.declared.kind.Kind.{Kind}
use Rattle.sh_tree.specs.declared.known.KnownName.TheVariants as known
use Rattle.sh_runs.specs.declared.kind.Kind.TheVariants as kind
use Rattle.sh_runs.specs.standard.runs.Operands.{definition_in}
use Rattle.sh_runs.specs.standard.runs.Steps.{opened}
use Rattle.sh_domain.specs.Operands.{read_names}

-- The words of a command

unfoldable pub redirect_words : p.Redirects → List Word
redirect_words p.no_redirects = []
redirect_words (p.more_redirects r rs) = opened r ∷ redirect_words rs

unfoldable pub value_words : List (Text × Word) → List Word
value_words [] = []
value_words (x ∷ xs) = x.1 ∷ value_words xs

unfoldable pub for_words : p.ForWords → List Word
for_words p.every_parameter = []
for_words (p.listed ws) = words_in ws

unfoldable pub pattern_words : p.Clauses → List Word
pattern_words p.no_clauses = []
pattern_words (p.more_clauses patterns body end rest) = words_in patterns ++ pattern_words rest

unfoldable pub kind_words : p.Kind → List Word
kind_words (p.Simple es) = words_in (operands_in es) ++ redirect_words (redirects_in es) ++ value_words (assignments_in es)
kind_words (p.For name ws body) = for_words ws
kind_words (p.Case w cs) = w ∷ pattern_words cs
kind_words _ = []

-- Values of IFS

-- a value that is static and separates no numbers
unfoldable pub steady_value : Word → Bool
steady_value w = unwrap_or (option_map (λ t. is_steady (Some t)) (static_of w)) false

unfoldable pub steady_assignment : Text × Word → Bool
steady_assignment x = not (is_ifs x.0) || steady_value x.1

-- what a field of `export` or `readonly` sets keeps IFS steady
unfoldable pub steady_definition : Option (Text × Text) → Bool
steady_definition None = true
steady_definition (Some x) = not (is_ifs x.0) || is_steady (Some x.1)

abbrev pub steady_field : Text → Bool
steady_field t = steady_definition (definition_in t)

-- a static operand of `export` or `readonly`
unfoldable pub steady_text : Option Text → Bool
steady_text None = false
steady_text (Some t) = steady_field t

-- an operand of `export` or `readonly`: an assignment in form, or static
unfoldable pub steady_declared : Word → Bool
steady_declared w = by_form (assignment_in w)
  where
    by_form : Option (Text × Word) → Bool
    by_form (Some x) = steady_assignment x
    by_form None = steady_text (static_of w)

abbrev pub is_static : Word → Bool
is_static w = is_some (static_of w)

-- an operand of `getopts`: static, and not IFS
unfoldable pub steady_operand : Word → Bool
steady_operand w = unwrap_or (option_map (λ t. not (is_ifs t)) (static_of w)) false

-- the first one may also be quoted, without `$@`, so that it is one field
unfoldable pub steady_getopts : List Word → Bool
steady_getopts [] = true
steady_getopts (w ∷ ws) = (steady_operand w || (not (is_static w) && are_quotations w && not (word_mentions is_at w))) && list_all steady_operand ws

-- the operands of a utility do not let it set IFS
unfoldable pub steady_operands : Kind → List Word → Bool
steady_operands (kind.Special known.Export) ws = list_all steady_declared ws
steady_operands (kind.Special known.Readonly) ws = list_all steady_declared ws
steady_operands kind.Read ws = list_all is_static ws && not (list_any is_ifs (read_names ws))
steady_operands kind.Getopts ws = steady_getopts ws
steady_operands _ ws = true

unfoldable pub steady_words : List Word → Bool
steady_words [] = true
steady_words (w ∷ ws) = unwrap_or (option_map (λ t. steady_operands (kind_of t) ws) (static_of w)) true

-- what a command is keeps IFS steady: its assignments, its operands, the name of `for`
unfoldable pub steady_kind : p.Kind → Bool
steady_kind (p.Simple es) = list_all steady_assignment (assignments_in es) && steady_words (words_in (operands_in es))
steady_kind (p.For name ws body) = not (is_ifs name)
steady_kind _ = true

unfoldable pub steady_command : p.Command → Bool
steady_command (p.command n at kind rs) = steady_kind kind && not (list_any (word_assigns is_ifs) (redirect_words rs ++ kind_words kind))

-- every command of the script does
unfoldable pub steady : p.Items → Bool
steady t = list_all (λ l. steady_command l.command) (items_located outside t)
