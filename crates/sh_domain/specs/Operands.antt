-- What built-in utilities may remove, set or count, read off their operands.
-- POSIX.1-2024, XCU 2.15 (break, continue, exec, export, readonly, return, set, shift, unset), 3
-- (getopts, read).
use Rattle.std.specs.Prelude.{ℕ, nat_lt, ◌+◌, ◌==◌, Bool, true, false, not, ◌&&◌, if◌then◌else◌, List, [], ◌∷◌, map, filter, codes, Option, Some, None, is_some, unwrap_or, option_map, option_and_then}
use Rattle.std.specs.List.{list_all, filter_map}
use Rattle.sh_tree.specs.standard.language.Bytes.{is_first, is_name}
use Rattle.sh_tree.specs.standard.program.Syntax.{Text, Word}
use Rattle.sh_tree.specs.standard.program.Words.{static_of, assignment_in}
use Rattle.sh_runs.specs.Counts.{Count, Parameters, One, Nothing, count_of}
use Rattle.sh_runs.specs.standard.runs.Numbers.{number_in}
use Rattle.sh_runs.specs.standard.runs.Operands.{Removal, OfVariables, OfFunctions, OfEither, OfAny, unset_operands, is_set_option, ends_options, ends_in_o, has_command}
use Rattle.sh_runs.specs.standard.runs.Operands as o

-- variables and functions, by their names
pub record Names : Type 0 where
  pub vars : List Text
  pub functions : List Text

abbrev pub no_names : Names
no_names = record { vars = []; functions = [] }

-- the static texts of words
abbrev pub statics : List Word → List Text
statics ws = filter_map static_of ws

-- `unset` takes variables with `-v`, functions with `-f`, and otherwise both
unfoldable pub removed : Removal → List Text → Names
removed OfVariables names = record { vars = names; functions = [] }
removed OfFunctions names = record { vars = []; functions = names }
removed OfEither names = record { vars = names; functions = names }
removed OfAny names = record { vars = names; functions = names }

unfoldable pub unset_names : List Word → Names
unset_names ws = removed (unset_operands (statics ws)).0 (filter is_name (unset_operands (statics ws)).1)

-- the names that `export` and `readonly` give a value
abbrev pub declared_names : List Word → List Text
declared_names ws = map (λ x. x.0) (filter_map assignment_in ws)

-- the names that `read` sets, if every operand is static
unfoldable pub read_names : List Word → List Text
read_names ws = if list_all (λ w. is_some (static_of w)) ws then unwrap_or (o.read_names (statics ws)) [] else []

-- the name that `getopts` sets: its second operand, after a static one that is no option
unfoldable pub getopts_names : List Word → List Text
getopts_names [] = []
getopts_names (w ∷ []) = []
getopts_names (w ∷ v ∷ ws) = named_by (static_of w) (static_of v)
  where
    named_by : Option Text → Option Text → List Text
    named_by (Some t) (Some name) = if is_name name && not (is_first (λ c. c == 45) t) then name ∷ codes "OPTIND" ∷ [] else []
    named_by _ _ = []

-- the positional words of `set`, if there are some or `--` precedes them; whether an option takes
-- the next word
unfoldable pub words_from : Bool → List Word → Option (List Word)
words_from takes [] = None
words_from true (w ∷ ws) = words_from false ws
words_from false (w ∷ ws) = by_text (static_of w) (λ takes. words_from takes ws)
  where
    by_text : Option Text → (Bool → Option (List Word)) → Option (List Word)
    by_text None rest = Some (w ∷ ws)
    by_text (Some t) rest = if ends_options t then Some ws else (if is_set_option t then rest (ends_in_o t) else Some (w ∷ ws))

abbrev pub positional_words : List Word → Option (List Word)
positional_words ws = words_from false ws

-- how many fields words give at least: so many, and as many as there are parameters for each `"$@"`
-- that is a word by itself
pub record Total : Type 0 where
  pub ones : ℕ
  pub parameters : ℕ

unfoldable pub total : List Word → Total
total [] = record { ones = 0; parameters = 0 }
total (w ∷ ws) = plus (count_of w) (total ws)
  where
    plus : Count → Total → Total
    plus Parameters n = record n { parameters = n.parameters + 1 }
    plus One n = record n { ones = n.ones + 1 }
    plus Nothing n = n

-- the number that the first operand of `shift`, `break` or `continue` writes; without one it is 1
unfoldable pub first_number : List Word → Option ℕ
first_number [] = Some 1
first_number (w ∷ ws) = option_and_then number_in (static_of w)

-- `exec` is sure to run a command: its first operand is static, has bytes, and is no option
unfoldable pub runs_command : List Word → Bool
runs_command [] = false
runs_command (w ∷ ws) = unwrap_or (option_map (λ t. has_command (t ∷ [])) (static_of w)) false

-- the status that the first operand of `return` writes, if it is one
abbrev pub status : ℕ → Option ℕ
status n = if nat_lt n 256 then Some n else None

unfoldable pub return_status : List Word → Option ℕ
return_status [] = None
return_status (w ∷ ws) = option_and_then status (option_and_then number_in (static_of w))
