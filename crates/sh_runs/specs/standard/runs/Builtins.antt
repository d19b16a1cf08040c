-- What built-in utilities do.
-- POSIX.1-2024, XCU 2.8.1 (consequences of shell errors), 2.9 (shell commands), 2.15 (special
-- built-in utilities), 3 (cd, getopts, read).
use Rattle.std.specs.Prelude.{ℕ, zero, suc, ◌+◌, ◌==◌, nat_le, Bool, true, false, not, ◌||◌, if◌then◌else◌, List, [], ◌∷◌, length, drop, codes, Option, Some, None, is_some, unwrap_or}
use Rattle.sh_tree.specs.standard.program.Syntax as p
use Rattle.sh_tree.specs.standard.program.Syntax.{Text}
use Rattle.sh_tree.specs.declared.known.KnownName.{KnownName}
use Rattle.sh_tree.specs.declared.known.KnownName.TheVariants as known
use Rattle.sh_runs.specs.declared.kind.Kind.{Kind}
use Rattle.sh_runs.specs.declared.kind.Kind.TheVariants as kind
use Rattle.sh_runs.specs.standard.runs.Environment.{Environment, Frame, is_one_of, with_variable, with_function, showing}
use Rattle.sh_runs.specs.standard.runs.Answers.{Answer}
use Rattle.sh_runs.specs.standard.runs.Operands.{definitions_in, Removal, OfVariables, OfFunctions, OfEither, OfAny, unset_operands, set_words, count_operand, status_operand, has_command, read_names, getopts_name}
use Rattle.sh_runs.specs.standard.runs.Work.{Work, Saved, Effect, Pops, goes, ends, loop_mark, broken_off, continued, return_mark}

-- a status that is not zero
unfoldable pub nonzero : ℕ → ℕ
nonzero zero = 1
nonzero (suc n) = suc n

-- Unset (XCU 2.15)

-- the operand at a place is removed: a status of zero says that each is
abbrev pub is_removed : Answer → ℕ → Bool
is_removed a n = a.status == 0 || a.removes n

-- a variable, or else a function by a choice
unfoldable pub removed_either : Bool → Environment → Text → Environment
removed_either takes e name = if is_some (e.variables name) then with_variable e name None else (if takes then with_function e name None else e)

-- a variable, a function, both or none
unfoldable pub removed_any : Bool → Bool → Environment → Text → Environment
removed_any variable function e name =
    let d = if variable then with_variable e name None else e in
    if function then with_function d name None else d

-- the operand at a place (XCU 2.15, unset)
unfoldable pub removed : Removal → Answer → ℕ → Environment → Text → Environment
removed OfVariables a n e name = if is_removed a n then with_variable e name None else e
removed OfFunctions a n e name = if is_removed a n then with_function e name None else e
removed OfEither a n e name = if is_removed a n then removed_either a.takes_function e name else e
removed OfAny a n e name = removed_any (a.removes_variable n) (a.removes_function n) e name

-- the operands in their order (XCU 2.15, unset)
unfoldable pub removed_all : Removal → Answer → ℕ → Environment → List Text → Environment
removed_all removal a n e [] = e
removed_all removal a n e (name ∷ names) = removed_all removal a (n + 1) (removed removal a n e name) names

unfoldable pub unset_names : Environment → Answer → Removal × List Text → Environment
unset_names e a x = removed_all x.0 a 0 e x.1

-- Set and shift (XCU 2.15)

-- positional words: on zero they are the parameters; otherwise the answer says whether they are
unfoldable pub set_frame : Frame → Answer → Option (List Text) → Frame
set_frame f a None = f
set_frame f a (Some ts) = if a.status == 0 || a.sets_parameters then ts else f

-- `shift` by a number, or by an operand that is none: shells differ, so that any number of
-- parameters may go
unfoldable pub shifted : Environment → Frame → List Work → Answer → Option ℕ → Effect
shifted e f ws a None = goes e (drop a.count f) a.status ws
shifted e f ws a (Some n) = if nat_le n (length f) then goes e (drop n f) 0 ws else goes e f (nonzero a.status) ws

-- Jumps (XCU 2.9.5, 2.15)

-- the names of prefix assignments, left as they are or put back, by a choice (XCU 2.9.1.2)
unfoldable pub restored : (ℕ → Bool) → ℕ → Environment → Saved → Environment
restored restores n e [] = e
restored restores n e (x ∷ xs) = restored restores (n + 1) (if restores n then with_variable e x.0 x.1 else e) xs

-- the end of a call (XCU 2.9.5): its frame goes
unfoldable pub returned : Environment → Frame → ℕ → List Work → Answer → Option (Saved × List Work) → Effect
returned e f status ws a None = goes e f status ws
returned e f status ws a (Some x) = record (goes (restored a.restores 0 e x.0) f status x.1) { frames = Pops }

-- A special built-in utility (XCU 2.15), with the words of its command and its operands. What `.`,
-- `eval` and an action of `trap` run is not stated: no script with them is analysed.
unfoldable pub special : Environment → Frame → ℕ → List Work → Answer → p.Words → KnownName → List Text → Effect
special e f status ws a vs known.Colon ts = goes e f 0 ws
special e f status ws a vs known.Break ts = goes e f a.status (broken_off (loop_mark (unwrap_or (count_operand ts) 1) ws) ws)
special e f status ws a vs known.Continue ts = goes e f a.status (continued (loop_mark (unwrap_or (count_operand ts) 1) ws) ws)
special e f status ws a vs known.Exec ts = goes e f (if has_command ts then nonzero a.status else a.status) ws
special e f status ws a vs known.Exit ts = ends e f
special e f status ws a vs known.Export ts = goes (showing e (definitions_in ts)) f a.status ws
special e f status ws a vs known.Readonly ts = goes (showing e (definitions_in ts)) f a.status ws
special e f status ws a vs known.Return ts = returned e f (unwrap_or (status_operand vs) a.status) ws a (return_mark ws)
special e f status ws a vs known.Set ts = goes e (set_frame f a (set_words ts)) a.status ws
special e f status ws a vs known.Shift ts = shifted e f ws a (count_operand ts)
special e f status ws a vs known.Unset ts = goes (unset_names e a (unset_operands ts)) f a.status ws
special e f status ws a vs known.Times ts = goes e f a.status ws
special e f status ws a vs known.Trap ts = goes e f a.status ws
special e f status ws a vs _ ts = goes e f a.status ws

-- an error in it may end the process (XCU 2.8.1)
unfoldable pub special_or_end : Environment → Frame → ℕ → List Work → Answer → p.Words → KnownName → List Text → Effect
special_or_end e f status ws a vs k ts = if a.special_ends then ends e f else special e f status ws a vs k ts

-- Other built-in utilities (XCU 3)

-- a name that gets a value: it may stay as it is, if `may_stay` says so
unfoldable pub given_to : Bool → Environment → Text → Option Text → Environment
given_to may_stay e name (Some t) = with_variable e name (Some t)
given_to true e name None = e
given_to false e name None = with_variable e name (Some [])

-- the names of `read` in their order (XCU 3): on zero each gets a value, except for those of prefix
-- assignments; otherwise each may
unfoldable pub read_into : List Text → Answer → ℕ → Environment → List Text → Environment
read_into prefixes a n e [] = e
read_into prefixes a n e (name ∷ names) =
    read_into prefixes a (n + 1) (given_to (not (a.status == 0) || is_one_of prefixes name) e name (a.values n)) names

-- `read` (XCU 3): at an option that the standard does not have nothing changes, and the status is
-- not zero
unfoldable pub reads : List Text → Environment → Frame → List Work → Answer → Option (List Text) → Effect
reads prefixes e f ws a None = goes e f (nonzero a.status) ws
reads prefixes e f ws a (Some names) = goes (read_into prefixes a 0 e names) f a.status ws

-- `getopts` (XCU 3): its name and OPTIND get values as those of `read` do, and OPTARG is set or
-- not. Without a valid name OPTIND may also stay as it is.
unfoldable pub gets_option : List Text → Environment → Answer → Option Text → Environment
gets_option prefixes e a None = with_variable (given_to true e (codes "OPTIND") (a.values 1)) (codes "OPTARG") (a.values 2)
gets_option prefixes e a (Some name) = with_variable (read_into prefixes a 0 e (name ∷ codes "OPTIND" ∷ [])) (codes "OPTARG") (a.values 2)

-- `cd` (XCU 3): PWD and OLDPWD may get values
unfoldable pub changes_directory : Environment → Answer → Environment
changes_directory e a = given_to true (given_to true e (codes "PWD") (a.values 0)) (codes "OLDPWD") (a.values 1)

-- A utility with these operands (XCU 3): one that no row names changes nothing. What `command` runs
-- is such a utility in every script that is analysed.
unfoldable pub utility : List Text → Environment → Frame → List Work → Answer → Kind → List Text → Effect
utility prefixes e f ws a kind.True ts = goes e f 0 ws
utility prefixes e f ws a kind.False ts = goes e f (nonzero a.status) ws
utility prefixes e f ws a kind.Read ts = reads prefixes e f ws a (read_names ts)
utility prefixes e f ws a kind.Getopts ts = goes (gets_option prefixes e a (getopts_name ts)) f a.status ws
utility prefixes e f ws a kind.Cd ts = goes (changes_directory e a) f a.status ws
utility prefixes e f ws a _ ts = goes e f a.status ws
