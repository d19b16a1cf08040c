-- For which built-in utilities a row says what they do. Without one a run goes on as if nothing
-- were required of the shell, and so does a jump without its mark. The run omits whatever `.`,
-- `eval`, an action of `trap`, `command` or a refused name would run.
-- POSIX.1-2024, XCU 2.4 (reserved words), 2.9.1.4 (command search and execution), 2.15 (special
-- built-in utilities), 3 (command).
use Rattle.std.specs.Prelude.{ℕ, ◌==◌, nat_lt, Bool, true, false, ◌&&◌, ◌||◌, if◌then◌else◌, List, [], ◌∷◌, length, drop, map, codes, Option, Some, None, is_some, unwrap_or}
use Rattle.std.specs.List.{list_any, list_all}
use Rattle.std.specs.Str.{bytes_eq}
use Rattle.sh_tree.specs.declared.known.KnownName.{KnownName}
use Rattle.sh_tree.specs.declared.known.KnownName.TheVariants as known
use Rattle.sh_tree.specs.standard.program.Syntax.{Text}
use Rattle.sh_runs.specs.declared.kind.Kind.{Kind}
use Rattle.sh_runs.specs.declared.kind.Kind.TheVariants as kind
use Rattle.sh_runs.specs.standard.Kinds.{kind_of}
use Rattle.sh_runs.specs.standard.runs.Numbers.{number_in}
use Rattle.sh_runs.specs.standard.runs.Operands.{is_dashed, ends_options, count_operand}
use Rattle.sh_runs.specs.standard.runs.Work.{Work, Prepare, Utility, Mark, no_loop, marked, loop_mark, return_mark}
use Rattle.sh_runs.specs.standard.runs.Steps.{Manner, Special, manner}

-- Tests of operands: in a run each has its text, and in a script one that is computed has none

-- the operand that `trap` takes for the default action (XCU 2.15)
abbrev pub is_minus : Text → Bool
is_minus t = bytes_eq t (codes "-")

-- `trap` without an action (XCU 2.15): no operand, or the first one, after `--` if that is there,
-- is empty, `-` or a number
unfoldable pub is_no_action : List (Option Text) → Bool
is_no_action [] = true
is_no_action (None ∷ xs) = false
is_no_action (Some t ∷ xs) = length t == 0 || is_minus t || is_some (number_in t)

unfoldable pub traps_nothing : List (Option Text) → Bool
traps_nothing (Some t ∷ xs) = if ends_options t then is_no_action xs else is_no_action (Some t ∷ xs)
traps_nothing xs = is_no_action xs

-- what `command` may run (XCU 3): no special built-in utility, none of `cd`, `read`, `getopts` and
-- `command`, and no name that is refused
unfoldable pub may_run : Kind → Bool
may_run kind.True = true
may_run kind.False = true
may_run kind.Utility = true
may_run _ = false

unfoldable pub runs_utility : List (Option Text) → Bool
runs_utility [] = true
runs_utility (None ∷ xs) = false
runs_utility (Some t ∷ xs) = may_run (kind_of t)

-- the letters of an option of `command`: `-p`, `-v`, `-V` (XCU 3)
abbrev pub is_command_letter : ℕ → Bool
is_command_letter c = c == 112 || c == 118 || c == 86

-- after `-v` and `-V` there may be anything, since nothing is run (XCU 3, command)
abbrev pub describes : Text → Bool
describes t = list_any (λ c. c == 118 || c == 86) t

abbrev pub has_command_letters : Text → Bool
has_command_letters t = list_all is_command_letter (drop 1 t)

-- `command` with these operands runs a utility of which nothing is required, or none (XCU 3)
unfoldable pub commands_utility : List (Option Text) → Bool
commands_utility [] = true
commands_utility (None ∷ xs) = false
commands_utility (Some t ∷ xs) =
    if ends_options t then runs_utility xs
    else (if is_dashed t then has_command_letters t && (describes t || commands_utility xs) else may_run (kind_of t))

-- a static decimal number from 1, as `break` takes it (XCU 2.15)
unfoldable pub is_count : Option Text → Bool
is_count None = false
is_count (Some t) = is_positive (number_in t)
  where
    is_positive : Option ℕ → Bool
    is_positive None = false
    is_positive (Some n) = nat_lt 0 n

-- words that other shells reserve (XCU 2.4): the reading refuses them as command names, and quoted
-- they are utilities
unfoldable pub is_reserved_elsewhere : KnownName → Bool
is_reserved_elsewhere known.LeftBrackets = true
is_reserved_elsewhere known.RightBrackets = true
is_reserved_elsewhere known.Function = true
is_reserved_elsewhere known.Select = true
is_reserved_elsewhere known.Time = true
is_reserved_elsewhere known.Namespace = true
is_reserved_elsewhere _ = false

-- Rows: which utilities the steps speak of (XCU 2.15, 3)

unfoldable pub is_marked : Mark → Bool
is_marked no_loop = false
is_marked (marked turn behind) = true

-- `break` and `continue` (XCU 2.15): each operand is a number from 1, and the loop that they leave
-- or turn is round them
abbrev pub jumps_in_loop : List Work → List Text → Bool
jumps_in_loop ws ts = list_all (λ t. is_count (Some t)) ts && is_marked (loop_mark (unwrap_or (count_operand ts) 1) ws)

-- a special built-in utility with these operands, if this work is after it (XCU 2.15)
unfoldable pub special_has_row : List Work → KnownName → List Text → Bool
special_has_row ws known.Break ts = jumps_in_loop ws ts
special_has_row ws known.Continue ts = jumps_in_loop ws ts
special_has_row ws known.Return ts = is_some (return_mark ws)
special_has_row ws known.Dot ts = false
special_has_row ws known.Eval ts = false
special_has_row ws known.Trap ts = traps_nothing (map Some ts)
special_has_row ws name ts = true

-- another utility with these operands (XCU 3)
unfoldable pub utility_has_row : Kind → List Text → Bool
utility_has_row (kind.Special name) ts = false
utility_has_row (kind.Refused name) ts = is_reserved_elsewhere name
utility_has_row kind.Command ts = commands_utility (map Some ts)
utility_has_row _ ts = true

unfoldable pub manner_has_row : List Work → Manner → Bool
manner_has_row ws (Special name ts) = special_has_row ws name ts
manner_has_row ws _ = true

-- The utility that the front of the work is about has a row. A special built-in utility has to have
-- it once the words of its command are expanded. Another one has to once it is known that no
-- function has its name (XCU 2.9.1.4).
unfoldable pub has_row : List Work → Bool
has_row (Prepare k ts rs xs failed ∷ ws) = manner_has_row ws (manner ts)
has_row (Utility k t ts rs xs prefixes values ∷ ws) = utility_has_row (kind_of t) ts
has_row ws = true
