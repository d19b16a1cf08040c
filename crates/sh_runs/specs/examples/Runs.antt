-- Runs of small programs, against which the definitions are held.
-- POSIX.1-2024, XCU 2.6 (word expansions), 2.9 (shell commands), 2.15 (special built-in utilities).
use Rattle.std.specs.Prelude.{◌≡◌, ℕ, ◌+◌, ◌==◌, if◌then◌else◌, Bool, true, false, List, [], ◌∷◌, ◌++◌, replicate, map, codes, Option, Some, None, is_some, option_map, option_and_then, pos}
use Rattle.sh_tree.specs.declared.tree.Action.{Action}
use Rattle.sh_tree.specs.declared.tree.Action.TheVariants as action
use Rattle.sh_tree.specs.declared.tree.Binary.TheVariants as binary
use Rattle.sh_tree.specs.declared.tree.ClauseEnd.{ClauseEnd}
use Rattle.sh_tree.specs.declared.tree.ClauseEnd.TheVariants as clause
use Rattle.sh_tree.specs.declared.tree.Link.TheVariants as link
use Rattle.sh_tree.specs.declared.tree.LoopKind.TheVariants as loop
use Rattle.sh_tree.specs.declared.tree.SingleStyle.TheVariants as single
use Rattle.sh_tree.specs.declared.tree.Special.TheVariants as special
use Rattle.sh_tree.specs.standard.program.Syntax.{Text, Parameter, Positional, Special, Plain, Escaped, Single, Double, Expansion, Arithmetic, Substitution, Tilde, Word, more_parts, Value, Length, Use, Name, Constant, Chain, Assigned, no_operands, more_operands, Items, no_items, more_items, and_or, no_links, more_links, Pipeline, pipeline, Command, no_commands, more_commands, command, Kind, Group, Subshell, Conditional, Loop, For, Case, Define, Elements, no_elements, assignment, operand, redirection, File, no_redirects, more_branches, no_branches, no_else, ForWords, every_parameter, listed, Words, no_words, more_words, Clauses, no_clauses, more_clauses}
use Rattle.sh_tree.specs.examples.Program.{only, plain, expansion, simple, alone, lone}
use Rattle.sh_runs.specs.standard.runs.Environment.{Environment, Frame, with_variable, blanks}
use Rattle.sh_runs.specs.standard.runs.Answers.{Given, Answer}
use Rattle.sh_runs.specs.standard.runs.Worlds.{World, Move, innermost, step, run, has_unset_event, has_split_event, start_world}

-- Programs: their commands all have the number 1 and are at 0, which no run looks at

unfoldable pub elements_of : List Word → Elements
elements_of [] = no_elements
elements_of (w ∷ ws) = operand w (elements_of ws)

unfoldable pub words_of : List Word → Words
words_of [] = no_words
words_of (w ∷ ws) = more_words w (words_of ws)

-- a simple command of these words, a variable's assignment before it, and an assignment alone
abbrev pub utility : List Word → Command
utility ws = simple 1 0 (elements_of ws)

abbrev pub prefixed : Text → Text → List Word → Command
prefixed name t ws = simple 1 0 (assignment name (plain t) (elements_of ws))

abbrev pub assign : Text → Text → Command
assign name t = prefixed name t []

-- `x=1`
abbrev pub assign_x : Command
assign_x = assign (codes "x") (codes "1")

-- a simple command of plain words
abbrev pub says : List Text → Command
says ts = utility (map plain ts)

abbrev pub says_one : Text → Command
says_one t = says (t ∷ [])

abbrev pub compound : Kind → Command
compound kind = command 1 0 kind no_redirects

-- a list of commands
unfoldable pub list : List Command → Items
list [] = no_items
list (c ∷ cs) = alone c (list cs)

abbrev pub both : Command → Command → Items
both c d = more_items (and_or (pipeline false (more_commands c (more_commands d no_commands))) no_links) false no_items

abbrev pub a_and_b : List Text
a_and_b = codes "a" ∷ codes "b" ∷ []

-- `$x`, and `$x` in double quotes
abbrev pub bare_x : Word
bare_x = only (expansion 0 Value)

abbrev pub quoted_x : Word
quoted_x = only (Double bare_x)

-- `"$@"`
abbrev pub every : Word
every = only (Double (only (Expansion 0 (Special special.At) Value)))

-- `${x-w}`, `${x:-w}` and the like
abbrev pub x_used : Action → Bool → Word
x_used a colon = only (expansion 0 (Use a colon (plain (codes "w"))))

-- a clause of one pattern, before others
abbrev pub clause_of : Text → Items → ClauseEnd → Clauses → Clauses
clause_of t body end rest = more_clauses (words_of (plain t ∷ [])) body end rest

abbrev pub case_a : Clauses → Command
case_a clauses = compound (Case (plain (codes "a")) clauses)

-- Starts

-- nothing is set but what every start sets
unfoldable pub bare_start : Environment
bare_start =
    with_variable
    (with_variable (with_variable (record { variables = λ t. None; functions = λ t. None; job = false }) (codes "PPID") (Some (codes "1"))) (codes "OPTIND") (Some (codes "1")))
    (codes "IFS")
    (Some blanks)

-- and x, to this value
unfoldable pub start_with : Text → Environment
start_with v = with_variable bare_start (codes "x") (Some v)

-- IFS is a colon, and x has this value
abbrev pub colon_start : Text → Environment
colon_start v = with_variable (start_with v) (codes "IFS") (Some (codes ":"))

-- Answers and moves

abbrev pub quiet_given : Given
quiet_given = record { text = []; number = 0; integer = pos 0; fails = false; reads_first = false; carries = false }

-- every status is zero, nothing fails, nothing is shared or put back
unfoldable pub quiet : Answer
quiet =
    record {
      given = λ n. quiet_given;
      directory = λ field. [];
      status = 0;
      redirection_fails = false;
      redirection_ends = false;
      redirection_leaves_out = false;
      assignment_fails = false;
      special_ends = false;
      matches = false;
      values = λ n. None;
      removes = λ n. false;
      removes_variable = λ n. false;
      removes_function = λ n. false;
      sets_parameters = false;
      count = 0;
      shares = λ n. false;
      restores = λ n. false;
      assignment_first = false;
      redirection_in_copy = false;
      value_in_copy = false;
      redirections_in_process = false;
      sees = false;
      takes_function = false;
      pattern = 0;
      carries = λ n. false;
    }

abbrev pub with_status : ℕ → Answer
with_status n = record quiet { status = n }

abbrev pub by : ℕ → Answer → Move
by p a = record { process = p; answer = a }

-- so many steps of a process
abbrev pub steps : ℕ → ℕ → List Move
steps p n = replicate n (by p quiet)

-- the run of a program
abbrev pub ran : Environment → Frame → Items → List Move → Option World
ran e f t moves = run moves (start_world e f t)

-- What is seen of the last world, if the run comes to it

-- a variable of an environment
abbrev pub variable : Text → ℕ → Option World → Option (Option Text)
variable name n w = option_map (λ w. (w.environments n).variables name) w

abbrev pub x_is : Option World → Option (Option Text)
x_is w = variable (codes "x") 0 w

abbrev pub y_is : Option World → Option (Option Text)
y_is w = variable (codes "y") 0 w

-- of the first environment, by name; a value
abbrev pub in_first : Option World → Text → Option (Option Text)
in_first w name = variable name 0 w

abbrev pub is_set_to : Text → Option (Option Text)
is_set_to t = Some (Some t)

-- whether a process lives
abbrev pub lives : ℕ → Option World → Option Bool
lives p w = option_map (λ w. is_some (w.processes p)) w

-- the first process: its status, its innermost frame
abbrev pub status : Option World → Option ℕ
status w = option_and_then (λ w. option_map (λ r. r.status) (w.processes 0)) w

abbrev pub frame : Option World → Option Frame
frame w = option_and_then (λ w. option_map (λ r. innermost w.frames r.frames) (w.processes 0)) w

-- whether its next step has an Unset event, or a Split event
abbrev pub unset_next : Option World → Option Bool
unset_next w = option_map (λ w. has_unset_event w (by 0 quiet)) w

abbrev pub split_next : Option World → Option Bool
split_next w = option_map (λ w. has_split_event w (by 0 quiet)) w

-- whether it has a step
abbrev pub steps_next : Option World → Option Bool
steps_next w = option_map (λ w. is_some (step w (by 0 quiet))) w

-- whether f is defined
abbrev pub defines_f : Option World → Option Bool
defines_f w = option_map (λ w. is_some ((w.environments 0).functions (codes "f"))) w

-- Programs and moves

-- `x=word`, up to the end of the assignment
abbrev pub to_x : Word → Items
to_x w = lone (simple 1 0 (assignment (codes "x") w no_elements))

abbrev pub to_x_moves : List Move
to_x_moves = steps 0 5

abbrev pub parameter : Parameter → Word
parameter q = only (Expansion 0 q Value)

-- `'a'\b"c"`
abbrev pub quotations : Word
quotations = more_parts (Single single.Plain (codes "a")) (more_parts (Escaped (codes "b")) (only (Double (plain (codes "c")))))

-- `x=$'a'`, which takes no answer
abbrev pub dollar_quotes : Items
dollar_quotes = to_x (only (Single single.Dollar (codes "a")))

abbrev pub dollar_moves : List Move
dollar_moves = steps 0 4 ++ by 0 (record quiet { given = λ n. record quiet_given { text = codes "b" } }) ∷ []

-- `x=$(case a in a) echo b;; esac)`; the answer to the substitution; in its process the pattern
-- matches
abbrev pub substituted : Items
substituted =
    let inner = case_a (clause_of (codes "a") (lone (says (codes "echo" ∷ codes "b" ∷ []))) clause.Break no_clauses) in
    lone (simple 1 0 (assignment (codes "x") (only (Substitution 0 (lone inner))) no_elements))

abbrev pub substituted_moves : List Move
substituted_moves = steps 0 4 ++ by 0 (record quiet { given = λ n. record quiet_given { text = codes "b" } }) ∷ []

abbrev pub inner_moves : List Move
inner_moves = steps 1 5 ++ by 1 (record quiet { matches = true }) ∷ steps 1 13

-- `f() { if a; then f; fi; return 3; }; f`; 26 steps to the end of the first `a`, whose status is
-- zero, and 23 up to the second `a`, whose status is not; the return from the second call
abbrev pub recursive : Items
recursive =
    let test = compound (Conditional (more_branches (lone (says_one (codes "a"))) (lone (says_one (codes "f"))) no_branches) no_else) in
    let body = compound (Group (list (test ∷ says (codes "return" ∷ codes "3" ∷ []) ∷ []))) in
    list (compound (Define (codes "f") body) ∷ says_one (codes "f") ∷ [])

abbrev pub to_inner_test : List Move
to_inner_test = steps 0 (26 + 23)

abbrev pub from_inner_test : List Move
from_inner_test = by 0 (with_status 1) ∷ steps 0 12

-- `f() { x=$1; }; f a`
abbrev pub with_operand : Items
with_operand = list (compound (Define (codes "f") (compound (Group (to_x (parameter (Positional 1)))))) ∷ says (codes "f" ∷ codes "a" ∷ []) ∷ [])

-- `f() { :; }; unset words`
abbrev pub undefined : List Text → Items
undefined ts = list (compound (Define (codes "f") (compound (Group (lone (says_one (codes ":")))))) ∷ says (codes "unset" ∷ ts) ∷ [])

-- `f() { :; }; x=1 f`; up to the return
abbrev pub passed : Items
passed = list (compound (Define (codes "f") (compound (Group (lone (says_one (codes ":")))))) ∷ prefixed (codes "x") (codes "1") (plain (codes "f") ∷ []) ∷ [])

abbrev pub passed_moves : List Move
passed_moves = steps 0 23

abbrev pub put_back : Answer
put_back = record quiet { restores = λ n. true }

-- `x=1 name`
abbrev pub passed_to : Text → Items
passed_to name = lone (prefixed (codes "x") (codes "1") (plain name ∷ []))

-- `false && a || x=1`
abbrev pub alternatives : Items
alternatives =
    let one : Command → Pipeline = λ c. pipeline false (more_commands c no_commands) in
    let behind = more_links link.AndThen (one (says_one (codes "a"))) (more_links link.OrElse (one assign_x) no_links) in
    more_items (and_or (one (says_one (codes "false"))) behind) false no_items

-- `while a; do break; done`
abbrev pub broken_loop : Items
broken_loop = lone (compound (Loop loop.While (lone (says_one (codes "a"))) (lone (says_one (codes "break")))))

-- `while a; do while a; do break 2; done; done`
abbrev pub broken_loops : Items
broken_loops =
    let inner = compound (Loop loop.While (lone (says_one (codes "a"))) (lone (says (codes "break" ∷ codes "2" ∷ [])))) in
    lone (compound (Loop loop.While (lone (says_one (codes "a"))) (lone inner)))

-- `until a; do b; done`; a turn, whose status is 7, and the end
abbrev pub until_loop : Items
until_loop = lone (compound (Loop loop.Until (lone (says_one (codes "a"))) (lone (says_one (codes "b")))))

abbrev pub until_moves : List Move
until_moves = steps 0 10 ++ by 0 (with_status 1) ∷ steps 0 9 ++ by 0 (with_status 7) ∷ steps 0 13

-- `for x in .. do c; done`, or without `in`
abbrev pub for_x : ForWords → Items
for_x ws = lone (compound (For (codes "x") ws (lone (says_one (codes "c")))))

abbrev pub in_two : ForWords
in_two = listed (words_of (map plain a_and_b))

abbrev pub for_two : Items
for_two = for_x in_two

abbrev pub in_every : ForWords
in_every = listed (words_of (every ∷ []))

-- `for x in a b; do continue; y=1; done`
abbrev pub continued : Items
continued = lone (compound (For (codes "x") in_two (list (says_one (codes "continue") ∷ assign (codes "y") (codes "1") ∷ []))))

-- `case a in a) x=1;& b) y=1;; esac`; up to the first pattern
abbrev pub falling : Items
falling =
    let last = clause_of (codes "b") (lone (assign (codes "y") (codes "1"))) clause.Break no_clauses in
    lone (case_a (clause_of (codes "a") (lone assign_x) clause.FallThrough last))

-- `case a in *) x=1;; esac`
abbrev pub any_pattern : Items
any_pattern = lone (case_a (clause_of (codes "*") (lone assign_x) clause.Break no_clauses))

-- `false; case a in b) c;; esac`
abbrev pub unmatched : Items
unmatched = list (says_one (codes "false") ∷ case_a (clause_of (codes "b") (lone (says_one (codes "c"))) clause.Break no_clauses) ∷ [])

-- `case a in a) ;; esac`
abbrev pub empty_clause : Items
empty_clause = lone (case_a (clause_of (codes "a") no_items clause.Break no_clauses))

abbrev pub matching : ℕ → Answer
matching n = record quiet { status = n; matches = true }

-- `x=1 | y=2`; its parts share, or copy; each ends after five steps
abbrev pub piped : Items
piped = both assign_x (assign (codes "y") (codes "2"))

abbrev pub shared : List Move
shared = steps 0 1 ++ by 0 (record quiet { shares = λ n. true }) ∷ []

abbrev pub copied : List Move
copied = steps 0 2

-- `(x=1)`, up to the end of the assignment
abbrev pub subshell : Items
subshell = lone (compound (Subshell (lone assign_x)))

abbrev pub subshell_moves : List Move
subshell_moves = steps 0 4 ++ steps 1 5

-- `name >f`; its redirection fails
abbrev pub redirected : Text → Items
redirected name = lone (simple 1 0 (operand (plain name) (redirection (File (plain (codes "f"))) no_elements)))

-- `>${x=w}`
abbrev pub opened : Items
opened = lone (simple 1 0 (redirection (File (x_used action.Assign false)) no_elements))

abbrev pub redirect_fails : List Move
redirect_fails = steps 0 5 ++ by 0 (record quiet { redirection_fails = true }) ∷ []

-- `set -- a b; shift`
abbrev pub shifted : Items
shifted = list (says (codes "set" ∷ codes "--" ∷ a_and_b) ∷ says_one (codes "shift") ∷ [])

-- `set -- word`, up to its end
abbrev pub set_to : Word → Items
set_to w = lone (utility (plain (codes "set") ∷ plain (codes "--") ∷ w ∷ []))

abbrev pub set_moves : List Move
set_moves = steps 0 8

-- `read -r x y`; the answer to it
abbrev pub read_two : Items
read_two = lone (says (codes "read" ∷ codes "-r" ∷ codes "x" ∷ codes "y" ∷ []))

abbrev pub reads : ℕ → Option Text → Option Text → List Move
reads n first second = steps 0 9 ++ by 0 (record quiet { status = n; values = λ k. if k == 0 then first else second }) ∷ []

-- `getopts a: x` and `cd d`; the answers to them
abbrev pub next_option : Items
next_option = lone (says (codes "getopts" ∷ codes "a:" ∷ codes "x" ∷ []))

abbrev pub option_moves : List Move
option_moves = steps 0 8 ++ by 0 (record quiet { values = λ k. if k == 0 then Some (codes "a") else (if k == 1 then Some (codes "3") else Some (codes "v")) }) ∷ []

abbrev pub change : Items
change = lone (says (codes "cd" ∷ codes "d" ∷ []))

abbrev pub change_moves : List Move
change_moves = steps 0 7 ++ by 0 (record quiet { values = λ k. if k == 0 then Some (codes "/d") else Some (codes "/") }) ∷ []

-- `: word`, `echo word`
abbrev pub colon : Word → Items
colon w = lone (utility (plain (codes ":") ∷ w ∷ []))

abbrev pub echo : Word → Items
echo w = lone (utility (plain (codes "echo") ∷ w ∷ []))

-- `y=$x` as a word; `export y=$x`
abbrev pub y_of_x : Word
y_of_x = more_parts (Plain (codes "y=")) bare_x

abbrev pub exported : Items
exported = lone (utility (plain (codes "export") ∷ y_of_x ∷ []))

-- `$((x + 1))`
abbrev pub sum : Word
sum = only (Arithmetic 0 (Chain (Name 0 (codes "x")) (more_operands binary.Add (Constant (codes "1")) no_operands)))

-- `: $((x = 2))`, with this result
abbrev pub arithmetic : Items
arithmetic = colon (only (Arithmetic 0 (Assigned 0 (codes "x") None (Constant (codes "2")))))

abbrev pub result_moves : List Move
result_moves = steps 0 4 ++ by 0 (record quiet { given = λ n. record quiet_given { integer = pos 2 } }) ∷ []

-- `"$!"`
abbrev pub job_word : Word
job_word = only (Double (only (Expansion 0 (Special special.Exclamation) Value)))

-- `sleep 1 & echo "$!"`
abbrev pub asynchronous : Items
asynchronous = more_items (and_or (pipeline false (more_commands (says (codes "sleep" ∷ codes "1" ∷ [])) no_commands)) no_links) true (echo job_word)

-- `! false`
abbrev pub negated : Items
negated = more_items (and_or (pipeline true (more_commands (says_one (codes "false")) no_commands)) no_links) false no_items

pub record RunsAsExpected : Type 0 where
  -- `x="$*"`, `x=$#`, `x=$1`, with the parameters a and b: the first byte of IFS is between them;
  -- `x=$3` has an Unset event
  pub star_joins : x_is (ran bare_start a_and_b (to_x (only (Double (parameter (Special special.Asterisk))))) to_x_moves) ≡ Some (Some (codes "a b"))
  pub star_joins_by_colons : x_is (ran (colon_start []) a_and_b (to_x (only (Double (parameter (Special special.Asterisk))))) to_x_moves) ≡ Some (Some (codes "a:b"))
  pub parameters_count : x_is (ran bare_start a_and_b (to_x (parameter (Special special.NumberSign))) to_x_moves) ≡ Some (Some (codes "2"))
  pub first_parameter : x_is (ran bare_start a_and_b (to_x (parameter (Positional 1))) to_x_moves) ≡ Some (Some (codes "a"))
  pub third_parameter : unset_next (ran bare_start a_and_b (to_x (parameter (Positional 3))) (steps 0 4)) ≡ Some true
  -- `x=${x-w}`: w if x is not set, which is no event, and `x=${x:-w}` if it is empty too;
  -- `x=${x+w}`: w if x is set
  pub default_is_given : x_is (ran bare_start [] (to_x (x_used action.Default false)) to_x_moves) ≡ Some (Some (codes "w"))
  pub default_is_no_event : unset_next (ran bare_start [] (to_x (x_used action.Default false)) (steps 0 4)) ≡ Some false
  pub empty_is_set : x_is (ran (start_with []) [] (to_x (x_used action.Default false)) to_x_moves) ≡ Some (Some [])
  pub colon_counts_empty : x_is (ran (start_with []) [] (to_x (x_used action.Default true)) to_x_moves) ≡ Some (Some (codes "w"))
  pub alternative_where_set : x_is (ran (start_with (codes "v")) [] (to_x (x_used action.Alternative false)) to_x_moves) ≡ Some (Some (codes "w"))
  pub nothing_where_unset : x_is (ran bare_start [] (to_x (x_used action.Alternative false)) to_x_moves) ≡ Some (Some [])
  -- `x=${#x}`, `x='a'\b"c"`, and `x=~`, which has HOME's value
  pub length_is_counted : x_is (ran (start_with (codes "abc")) [] (to_x (only (expansion 0 Length))) to_x_moves) ≡ Some (Some (codes "3"))
  pub quotes_go : x_is (ran bare_start [] (to_x quotations) to_x_moves) ≡ Some (Some (codes "abc"))
  -- `x=$'a'` has the answer's bytes
  pub dollar_quotes_hold_theirs : x_is (ran bare_start [] dollar_quotes dollar_moves) ≡ Some (Some (codes "a"))
  pub home_is_given : x_is (ran (with_variable bare_start (codes "HOME") (Some (codes "/h"))) [] (to_x (only (Tilde 0 []))) to_x_moves) ≡ Some (Some (codes "/h"))
  pub home_is_unset : unset_next (ran bare_start [] (to_x (only (Tilde 0 []))) (steps 0 4)) ≡ Some true
  -- `x=$(case a in a) echo b;; esac)`: x has what the answer gives, a process is started, and both
  -- end, in any order
  pub substitution_gives : x_is (ran bare_start [] substituted substituted_moves) ≡ Some (Some (codes "b"))
  pub substitution_starts : lives 1 (ran bare_start [] substituted substituted_moves) ≡ Some true
  pub substitution_ends : map (λ p. lives p (ran bare_start [] substituted (substituted_moves ++ inner_moves ++ steps 0 4))) (0 ∷ 1 ∷ []) ≡ Some false ∷ Some false ∷ []
  pub substitution_outlives : map (λ p. lives p (ran bare_start [] substituted (substituted_moves ++ steps 0 4))) (0 ∷ 1 ∷ []) ≡ Some false ∷ Some true ∷ []
  -- `f() { if a; then f; fi; return 3; }; f`: `a` is met again in the second call, which has no
  -- parameters; each return gives 3, and the parameters are back
  pub function_calls_itself : frame (ran bare_start a_and_b recursive to_inner_test) ≡ Some []
  pub inner_call_returns : status (ran bare_start a_and_b recursive (to_inner_test ++ from_inner_test)) ≡ Some 3
  pub outer_call_returns : frame (ran bare_start a_and_b recursive (to_inner_test ++ from_inner_test ++ steps 0 10)) ≡ Some a_and_b
  pub function_ends : lives 0 (ran bare_start a_and_b recursive (to_inner_test ++ from_inner_test ++ steps 0 13)) ≡ Some false
  -- `f() { x=$1; }; f a`: the operand is the function's parameter
  pub operand_is_parameter : x_is (ran bare_start [] with_operand (steps 0 20)) ≡ Some (Some (codes "a"))
  -- `f() { :; }; unset f`: without a variable of the name the function goes, or stays; `unset -f f`
  -- removes it
  pub function_is_defined : defines_f (ran bare_start [] (undefined (codes "f" ∷ [])) (steps 0 5)) ≡ Some true
  pub unset_leaves_function : defines_f (ran bare_start [] (undefined (codes "f" ∷ [])) (steps 0 12)) ≡ Some true
  pub unset_takes_function : defines_f (ran bare_start [] (undefined (codes "f" ∷ [])) (steps 0 11 ++ by 0 (record quiet { takes_function = true }) ∷ [])) ≡ Some false
  pub unset_of_functions : defines_f (ran bare_start [] (undefined (codes "-f" ∷ codes "f" ∷ [])) (steps 0 13)) ≡ Some false
  -- `f() { :; }; x=1 f`: x is set in the function, and outlives it, or is put back
  pub prefix_is_set : x_is (ran bare_start [] passed passed_moves) ≡ Some (Some (codes "1"))
  pub prefix_outlives : x_is (ran bare_start [] passed (passed_moves ++ steps 0 1)) ≡ Some (Some (codes "1"))
  pub prefix_is_put_back : x_is (ran (start_with (codes "o")) [] passed (passed_moves ++ by 0 put_back ∷ [])) ≡ Some (Some (codes "o"))
  pub prefix_is_removed : x_is (ran bare_start [] passed (passed_moves ++ by 0 put_back ∷ [])) ≡ Some None
  -- `x=1 :` and `x=1 true`: a special built-in utility has the assignment in the shell's own
  -- environment, another utility has not
  pub prefix_stays : x_is (ran bare_start [] (passed_to (codes ":")) (steps 0 7)) ≡ Some (Some (codes "1"))
  pub prefix_is_passed : x_is (ran bare_start [] (passed_to (codes "true")) (steps 0 8)) ≡ Some None
  -- `false && a || x=1`: the first operator skips `a`, and the second goes on
  pub alternative_is_taken : x_is (ran bare_start [] alternatives (steps 0 13)) ≡ Some (Some (codes "1"))
  -- `while a; do break; done`: a turn, and the end; no turn, and status zero
  pub loop_breaks : lives 0 (ran bare_start [] broken_loop (steps 0 23)) ≡ Some false
  pub loop_takes_no_turn : status (ran bare_start [] broken_loop (steps 0 10 ++ by 0 (with_status 1) ∷ steps 0 4)) ≡ Some 0
  pub loop_is_over : lives 0 (ran bare_start [] broken_loop (steps 0 10 ++ by 0 (with_status 1) ∷ steps 0 6)) ≡ Some false
  -- `while a; do while a; do break 2; done; done`: both loops end
  pub break_leaves_two : lives 0 (ran bare_start [] broken_loops (steps 0 38)) ≡ Some false
  -- `until a; do b; done`: a turn after another status than zero; the status is that of the last
  -- turn
  pub until_has_last_status : status (ran bare_start [] until_loop until_moves) ≡ Some 7
  -- `for x in a b; do c; done`
  pub for_first : x_is (ran bare_start [] for_two (steps 0 8)) ≡ Some (Some (codes "a"))
  pub for_second : x_is (ran bare_start [] for_two (steps 0 18)) ≡ Some (Some (codes "b"))
  pub for_ends : lives 0 (ran bare_start [] for_two (steps 0 31)) ≡ Some false
  -- `for x in a b; do continue; y=1; done`: the second turn comes at once
  pub continue_takes_next_turn : x_is (ran bare_start [] continued (steps 0 15)) ≡ Some (Some (codes "b"))
  pub continue_skips : y_is (ran bare_start [] continued (steps 0 25)) ≡ Some None
  -- `for x do c; done` and `for x in "$@"; do c; done`, with the parameters a and b
  pub for_parameters : x_is (ran bare_start a_and_b (for_x every_parameter) (steps 0 15)) ≡ Some (Some (codes "b"))
  pub for_every_first : x_is (ran bare_start a_and_b (for_x in_every) (steps 0 7)) ≡ Some (Some (codes "a"))
  pub for_every_second : x_is (ran bare_start a_and_b (for_x in_every) (steps 0 17)) ≡ Some (Some (codes "b"))
  -- `case a in a) x=1;& b) y=1;; esac`: both lists are done, without a match of `b`
  pub case_matches : x_is (ran bare_start [] falling (steps 0 5 ++ by 0 (matching 0) ∷ steps 0 5)) ≡ Some (Some (codes "1"))
  pub case_falls_through : y_is (ran bare_start [] falling (steps 0 5 ++ by 0 (matching 0) ∷ steps 0 14)) ≡ Some (Some (codes "1"))
  -- `case a in *) x=1;; esac`: `*` matches, whatever the answer is
  pub case_any : x_is (ran bare_start [] any_pattern (steps 0 11)) ≡ Some (Some (codes "1"))
  -- `false; case a in b) c;; esac`: `false` has another status than zero; after no match it is zero
  pub case_before : status (ran bare_start [] unmatched (steps 0 8)) ≡ Some 1
  pub case_without_match : status (ran bare_start [] unmatched (steps 0 16)) ≡ Some 0
  -- `case a in a) ;; esac`: the status is the answer's
  pub case_empty_list : status (ran bare_start [] empty_clause (steps 0 5 ++ by 0 (matching 5) ∷ [])) ≡ Some 5
  -- `x=1 | y=2`: the shell waits for parts that share; both variables are set then, in either
  -- order; parts that copy set neither in the shell
  pub pipeline_waits : steps_next (ran bare_start [] piped (shared ++ steps 1 5)) ≡ Some false
  pub pipeline_goes_on : steps_next (ran bare_start [] piped (shared ++ steps 1 5 ++ steps 2 5)) ≡ Some true
  pub shared_left_first : x_is (ran bare_start [] piped (shared ++ steps 1 5 ++ steps 2 5)) ≡ Some (Some (codes "1"))
  pub shared_left_first_too : y_is (ran bare_start [] piped (shared ++ steps 1 5 ++ steps 2 5)) ≡ Some (Some (codes "2"))
  pub shared_right_first : x_is (ran bare_start [] piped (shared ++ steps 2 5 ++ steps 1 5)) ≡ Some (Some (codes "1"))
  pub shared_right_first_too : y_is (ran bare_start [] piped (shared ++ steps 2 5 ++ steps 1 5)) ≡ Some (Some (codes "2"))
  pub copied_left : x_is (ran bare_start [] piped (copied ++ steps 1 5 ++ steps 2 5)) ≡ Some None
  pub copied_right : y_is (ran bare_start [] piped (copied ++ steps 1 5 ++ steps 2 5)) ≡ Some None
  pub copied_right_first : x_is (ran bare_start [] piped (copied ++ steps 2 5 ++ steps 1 5)) ≡ Some None
  pub copied_right_first_too : y_is (ran bare_start [] piped (copied ++ steps 2 5 ++ steps 1 5)) ≡ Some None
  pub copied_own : variable (codes "x") 1 (ran bare_start [] piped (copied ++ steps 1 5 ++ steps 2 5)) ≡ Some (Some (codes "1"))
  -- `(x=1)`: x is set in the copy alone
  pub subshell_own : variable (codes "x") 1 (ran bare_start [] subshell subshell_moves) ≡ Some (Some (codes "1"))
  pub subshell_sets_nothing : x_is (ran bare_start [] subshell subshell_moves) ≡ Some None
  -- `: >f` and `echo >f`, if the redirection fails: a special built-in utility ends the process,
  -- another has a status that is not zero
  pub special_redirection_ends : lives 0 (ran bare_start [] (redirected (codes ":")) redirect_fails) ≡ Some false
  pub other_redirection_goes_on : status (ran bare_start [] (redirected (codes "echo")) redirect_fails) ≡ Some 1
  -- `>${x=w}`: without a command name the word is expanded in the shell, or in a copy
  pub redirection_sets : x_is (ran bare_start [] opened (steps 0 5)) ≡ Some (Some (codes "w"))
  pub redirection_copies : x_is (ran bare_start [] opened (steps 0 4 ++ by 0 (record quiet { redirection_in_copy = true }) ∷ [])) ≡ Some None
  -- `set -- a b; shift`
  pub set_gives_parameters : frame (ran bare_start [] shifted (steps 0 9)) ≡ Some a_and_b
  pub shift_removes_one : frame (ran bare_start [] shifted (steps 0 16)) ≡ Some (codes "b" ∷ [])
  -- `shift`, with no parameters: its status is not zero
  pub shift_fails : status (ran bare_start [] (lone (says_one (codes "shift"))) (steps 0 6)) ≡ Some 1
  -- `set -- "$@"`: as many parameters as before, with or without some
  pub every_stands : frame (ran bare_start a_and_b (set_to every) set_moves) ≡ Some a_and_b
  pub every_of_none : frame (ran bare_start [] (set_to every) set_moves) ≡ Some []
  -- `set -- $x`: white space splits, and none is left at the ends; each other separator ends a
  -- field; a value that is empty gives none
  pub blanks_split : frame (ran (start_with (codes " a  b ")) [] (set_to bare_x) set_moves) ≡ Some a_and_b
  pub colons_split : frame (ran (colon_start (codes "a::b:")) [] (set_to bare_x) set_moves) ≡ Some (codes "a" ∷ [] ∷ codes "b" ∷ [])
  pub empty_gives_none : frame (ran (start_with []) a_and_b (set_to bare_x) set_moves) ≡ Some []
  pub quoted_gives_one : frame (ran (start_with []) a_and_b (set_to quoted_x) set_moves) ≡ Some ([] ∷ [])
  -- `read -r x y`: on zero both get values, empty ones if the answer has none; otherwise they may
  -- stay as before
  pub read_first : x_is (ran bare_start [] read_two (reads 0 (Some (codes "a")) None)) ≡ Some (Some (codes "a"))
  pub read_second : y_is (ran bare_start [] read_two (reads 0 (Some (codes "a")) None)) ≡ Some (Some [])
  pub read_fails_first : x_is (ran (start_with (codes "o")) [] read_two (reads 1 None (Some (codes "b")))) ≡ Some (Some (codes "o"))
  pub read_fails_second : y_is (ran (start_with (codes "o")) [] read_two (reads 1 None (Some (codes "b")))) ≡ Some (Some (codes "b"))
  -- `getopts a: x` and `cd d` give what the answer has
  pub getopts_gives :
      map (in_first (ran bare_start [] next_option option_moves)) (codes "x" ∷ codes "OPTIND" ∷ codes "OPTARG" ∷ []) ≡ map is_set_to (codes "a" ∷ codes "3" ∷ codes "v" ∷ [])
  pub cd_gives : map (in_first (ran bare_start [] change change_moves)) (codes "PWD" ∷ codes "OLDPWD" ∷ []) ≡ map is_set_to (codes "/d" ∷ codes "/" ∷ [])
  -- `: ${x=w}` sets x; `: ${x?w}` ends the process, if x is not set
  pub default_is_assigned : x_is (ran bare_start [] (colon (x_used action.Assign false)) (steps 0 5)) ≡ Some (Some (codes "w"))
  pub default_is_not_needed : x_is (ran (start_with (codes "v")) [] (colon (x_used action.Assign false)) (steps 0 5)) ≡ Some (Some (codes "v"))
  pub fault_ends : lives 0 (ran bare_start [] (colon (x_used action.Fault false)) (steps 0 5)) ≡ Some false
  pub fault_sets_nothing : x_is (ran bare_start [] (colon (x_used action.Fault false)) (steps 0 5)) ≡ Some None
  pub no_fault : lives 0 (ran (start_with (codes "v")) [] (colon (x_used action.Fault false)) (steps 0 5)) ≡ Some true
  -- `echo $x` with `a b`: a Split event; `echo "$x"`: none; if x is not set, an Unset event
  pub bare_splits : split_next (ran (start_with (codes "a b")) [] (echo bare_x) (steps 0 4)) ≡ Some true
  pub quoted_stays_whole : split_next (ran (start_with (codes "a b")) [] (echo quoted_x) (steps 0 4)) ≡ Some false
  pub quoted_is_unset : unset_next (ran bare_start [] (echo quoted_x) (steps 0 4)) ≡ Some true
  pub quoted_is_set : unset_next (ran (start_with (codes "a b")) [] (echo quoted_x) (steps 0 4)) ≡ Some false
  -- `echo y=$x` splits; `export y=$x` does not, and sets y
  pub assignment_word_splits : split_next (ran (start_with (codes "a b")) [] (echo y_of_x) (steps 0 4)) ≡ Some true
  pub declaration_stays_whole : split_next (ran (start_with (codes "a b")) [] exported (steps 0 4)) ≡ Some false
  pub declaration_sets : y_is (ran (start_with (codes "a b")) [] exported (steps 0 7)) ≡ Some (Some (codes "a b"))
  -- `echo $((x + 1))`: an Unset event if x is not set; after a value that is no integer constant no
  -- step comes
  pub sum_is_unset : unset_next (ran bare_start [] (echo sum) (steps 0 4)) ≡ Some true
  pub sum_is_set : unset_next (ran (start_with (codes "1")) [] (echo sum) (steps 0 4)) ≡ Some false
  pub sum_goes_on : steps_next (ran (start_with (codes "1")) [] (echo sum) (steps 0 5)) ≡ Some true
  pub sum_is_over : steps_next (ran (start_with (codes "a")) [] (echo sum) (steps 0 5)) ≡ Some false
  -- `: $((x = 2))`: x has the result
  pub arithmetic_assigns : x_is (ran bare_start [] arithmetic result_moves) ≡ Some (Some (codes "2"))
  -- `unset x`
  pub unset_removes : x_is (ran (start_with (codes "v")) [] (lone (says (codes "unset" ∷ codes "x" ∷ []))) (steps 0 7)) ≡ Some None
  -- `exec`: the shell goes on, unless an error ends it
  pub exec_goes_on : lives 0 (ran bare_start [] (lone (says_one (codes "exec"))) (steps 0 6)) ≡ Some true
  pub exec_fails : lives 0 (ran bare_start [] (lone (says_one (codes "exec"))) (steps 0 5 ++ by 0 (record quiet { special_ends = true }) ∷ [])) ≡ Some false
  -- `exit`
  pub exit_ends : lives 0 (ran bare_start [] (lone (says_one (codes "exit"))) (steps 0 6)) ≡ Some false
  -- `sleep 1 & echo "$!"`: a process is started, and `!` is set; `echo "$!"` alone has an Unset
  -- event
  pub asynchronous_starts : lives 1 (ran bare_start [] asynchronous (steps 0 1)) ≡ Some true
  pub job_is_set : unset_next (ran bare_start [] asynchronous (steps 0 5)) ≡ Some false
  pub job_is_unset : unset_next (ran bare_start [] (echo job_word) (steps 0 4)) ≡ Some true
  -- `! false`: `false` has another status than zero, whose negation is zero
  pub negation_inside : status (ran bare_start [] negated (steps 0 7)) ≡ Some 1
  pub negation_behind : status (ran bare_start [] negated (steps 0 8)) ≡ Some 0
