-- What the operands of built-in utilities say, by their static texts in their order; an operand
-- that has none keeps its place.
-- POSIX.1-2024, XCU 2.15 (break, continue, exec, return, set, shift, unset), 3 (getopts, read).
use Rattle.std.specs.Prelude.{ℕ, ◌==◌, Bool, false, not, ◌&&◌, if◌then◌else◌, List, [], ◌∷◌, drop, filter, length, codes, Option, Some, None, is_some, unwrap_or, option_map, option_and_then}
use Rattle.std.specs.List.{list_all}
use Rattle.sh_tree.specs.standard.language.Bytes.{is_first, is_name}
use Rattle.sh_tree.specs.standard.program.Syntax.{Text, Word}
use Rattle.sh_runs.specs.Profile.{Static}
use Rattle.sh_runs.specs.standard.runs.Numbers.{number_in}
use Rattle.sh_runs.specs.standard.runs.Operands.{unset_operands}
use Rattle.sh_runs.specs.standard.runs.Operands as o
use Rattle.sh_domain.specs.Operands.{Names, removed, status}
use Rattle.sh_gains.specs.Statics.{listed}
use Rattle.sh_table.specs.Numerals.{capped}
use Rattle.sh_operands.specs.Texts.{positional_at}

-- the names that `unset` takes
unfoldable pub unset_by : List Static → Names
unset_by ts = removed (unset_operands (listed ts)).0 (filter is_name (unset_operands (listed ts)).1)

-- those that `read` sets, if every operand is static
unfoldable pub read_by : List Static → List Text
read_by ts = if list_all is_some ts then unwrap_or (o.read_names (listed ts)) [] else []

-- the names among them
unfoldable pub names_behind : Option (List Static) → List Text
names_behind None = []
names_behind (Some ts) = filter is_name (listed ts)

-- the name that `getopts` sets: its second operand, after one that is no option
unfoldable pub option_name : Static → Static → Option Text
option_name (Some t) (Some name) = if is_name name && not (is_first (λ c. c == 45) t) then Some name else None
option_name _ _ = None

unfoldable pub getopts_name : List Static → Option Text
getopts_name (t ∷ u ∷ ts) = option_name t u
getopts_name _ = None

unfoldable pub and_optind : Option Text → List Text
and_optind None = []
and_optind (Some name) = name ∷ codes "OPTIND" ∷ []

-- the positional words of `set`, of these operands
unfoldable pub positional_by : List Static → List Word → Option (List Word)
positional_by ts ws = option_map (λ i. drop i ws) (positional_at false ts)

-- the number that an operand writes, if it is static
unfoldable pub number_of : Static → Option ℕ
number_of t = option_map capped (option_and_then number_in t)

-- the number that the first operand writes; without one it is 1
unfoldable pub first_by : List Static → Option ℕ
first_by [] = Some 1
first_by (t ∷ ts) = option_and_then number_in t

-- the status that an operand writes
unfoldable pub status_of : Static → Option ℕ
status_of t = option_and_then status (option_and_then number_in t)

-- the status that the first operand of `return` writes
unfoldable pub status_by : List Static → Option ℕ
status_by [] = None
status_by (t ∷ ts) = status_of t

-- `exec` is sure to run a command

unfoldable pub is_command : Text → Bool
is_command t = not (length t == 0) && not (is_first (λ c. c == 45) t)

unfoldable pub command_at : Static → Bool
command_at None = false
command_at (Some t) = is_command t

unfoldable pub runs_by : List Static → Bool
runs_by [] = false
runs_by (t ∷ ts) = command_at t
