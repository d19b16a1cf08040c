-- Runs of small programs to their end, against which the steps of commands are held.
-- POSIX.1-2024, XCU 2.7 (redirection), 2.8.1 (consequences of shell errors), 2.9 (shell commands),
-- 2.15 (special built-in utilities).
use Rattle.std.specs.Prelude.{◌≡◌, ℕ, zero, suc, ◌==◌, ◌||◌, Bool, true, false, List, [], ◌∷◌, replicate, map, codes, Option, Some, None, is_some, unwrap_or, option_map, slice_get}
use Rattle.std.specs.List.{flat_map}
use Rattle.sh_tree.specs.declared.tree.Action.TheVariants as action
use Rattle.sh_tree.specs.declared.tree.ClauseEnd.TheVariants as clause
use Rattle.sh_tree.specs.declared.tree.Link.TheVariants as link
use Rattle.sh_tree.specs.declared.tree.LoopKind.{LoopKind}
use Rattle.sh_tree.specs.declared.tree.LoopKind.TheVariants as loop
use Rattle.sh_tree.specs.declared.tree.Special as tree
use Rattle.sh_tree.specs.declared.tree.Special.TheVariants as special
use Rattle.sh_tree.specs.standard.program.Syntax.{Text, Variable, Positional, Special, Plain, Double, Expansion, Word, more_parts, Value, Use, Items, more_items, and_or, Links, no_links, more_links, Pipeline, pipeline, Command, no_commands, more_commands, command, Kind, Group, Subshell, Conditional, Loop, For, Case, Define, no_elements, assignment, redirection, File, no_redirects, more_redirects, Branches, more_branches, no_branches, no_else, else_of, listed, no_clauses, more_clauses}
use Rattle.sh_tree.specs.examples.Program as program
use Rattle.sh_tree.specs.examples.Program.{only, plain, simple, alone, lone}
use Rattle.sh_runs.specs.standard.runs.Environment.{Environment, Frame, with_variable}
use Rattle.sh_runs.specs.standard.runs.Answers.{Answer}
use Rattle.sh_runs.specs.standard.runs.Work.{Work, Words, Again, Return}
use Rattle.sh_runs.specs.standard.runs.Worlds.{World, Move, step, has_unset_event, has_split_event, start_world}
use Rattle.sh_runs.specs.examples.Runs.{elements_of, words_of, utility, assign, says, says_one, compound, list, both, bare_start, start_with, quiet, with_status, by, a_and_b, put_back}

-- Words and commands

-- the variable in double quotes; `"${name=t}"`, `"${name?}"`; a special parameter in quotes
abbrev pub value_of : Text → Word
value_of name = only (Double (only (Expansion 0 (Variable name) Value)))

abbrev pub assigning : Text → Text → Word
assigning name t = only (Double (only (Expansion 0 (Variable name) (Use action.Assign false (plain t)))))

abbrev pub demanded : Text → Word
demanded name = only (Double (only (Expansion 0 (Variable name) (Use action.Fault false (plain [])))))

abbrev pub special_of : tree.Special → Word
special_of c = only (Double (only (Expansion 0 (Special c) Value)))

-- `name=word`, alone and before a command
abbrev pub gives : Text → Word → Command
gives name w = simple 1 0 (assignment name w no_elements)

abbrev pub before : Text → Word → List Word → Command
before name w ws = simple 1 0 (assignment name w (elements_of ws))

-- `s="$?"`
abbrev pub notes : Command
notes = gives (codes "s") (special_of special.QuestionMark)

-- words, and a redirection to the last one
abbrev pub opens : List Word → Word → Command
opens ws target = simple 1 0 (redirection (File target) (elements_of ws))

abbrev pub group : List Command → Command
group cs = compound (Group (list cs))

abbrev pub subshell : List Command → Command
subshell cs = compound (Subshell (list cs))

-- `{ .. } >target`, `( .. ) >target`
abbrev pub opened : Kind → Word → Command
opened kind target = command 1 0 kind (more_redirects (File target) no_redirects)

abbrev pub function : Text → List Command → Command
function name cs = compound (Define name (group cs))

abbrev pub over : Text → List Text → List Command → Command
over name ts cs = compound (For name (listed (words_of (map plain ts))) (list cs))

abbrev pub turning : LoopKind → Command → List Command → Command
turning kind condition cs = compound (Loop kind (list (condition ∷ [])) (list cs))

abbrev pub condition : Command → List Command → Branches → Branches
condition c cs rest = more_branches (list (c ∷ [])) (list cs) rest

abbrev pub piece : Command → Pipeline
piece c = pipeline false (more_commands c no_commands)

-- an and-or list before `s="$?"`
abbrev pub chained : Command → Links → Items
chained c rest = more_items (and_or (piece c) rest) false (list (notes ∷ []))

abbrev pub and_then : Command → Links → Links
and_then c rest = more_links link.AndThen (piece c) rest

abbrev pub or_else : Command → Links → Links
or_else c rest = more_links link.OrElse (piece c) rest

abbrev pub x : Text
x = codes "x"

abbrev pub y : Text
y = codes "y"

abbrev pub z : Text
z = codes "z"

abbrev pub f : Text
f = codes "f"

-- `name=1`
abbrev pub one : Text → Command
one name = assign name (codes "1")

abbrev pub true_command : Command
true_command = says_one (codes "true")

abbrev pub false_command : Command
false_command = says_one (codes "false")

-- Runs

-- as many steps of a process as it has, at most so many, each with this answer
unfoldable pub far : ℕ → ℕ → Answer → World → World
far zero p a w = w
far (suc n) p a w = unwrap_or (option_map (far n p a) (step w (by p a))) w

-- whether one of them has the event
unfoldable pub comes_to : (World → Move → Bool) → ℕ → ℕ → Answer → World → Bool
comes_to event zero p a w = false
comes_to event (suc n) p a w = event w (by p a) || unwrap_or (option_map (comes_to event n p a) (step w (by p a))) false

-- the first process to its end, in a hundred steps
abbrev pub ends_by : Answer → Environment → Frame → Items → World
ends_by a e ts t = far 100 0 a (start_world e ts t)

abbrev pub meets_unset : Answer → Environment → Items → Bool
meets_unset a e t = comes_to has_unset_event 100 0 a (start_world e [] t)

abbrev pub meets_split : Answer → Environment → Items → Bool
meets_split a e t = comes_to has_split_event 100 0 a (start_world e [] t)

-- a variable of the shell, and some of them
abbrev pub value : Text → World → Option Text
value name w = (w.environments 0).variables name

abbrev pub values : List Text → World → List (Option Text)
values names w = map (λ name. value name w) names

abbrev pub x_y_z : World → List (Option Text)
x_y_z w = values (x ∷ y ∷ z ∷ []) w

-- of a run from a bare start, quietly or with an answer
abbrev pub gives_x_y_z : List Command → List (Option Text)
gives_x_y_z cs = x_y_z (ends_by quiet bare_start [] (list cs))

abbrev pub seen : Answer → List Text → List Command → List (Option Text)
seen a names cs = values names (ends_by a bare_start [] (list cs))

-- x, and the status that `s="$?"` notes
abbrev pub x_and_status : Answer → List Command → List (Option Text)
x_and_status a cs = seen a (x ∷ codes "s" ∷ []) cs

-- the parameters of the shell, from a and b
abbrev pub parameters : Answer → List Command → Frame
parameters a cs = (ends_by a bare_start a_and_b (list cs)).frames 0

abbrev pub is_defined : Answer → List Command → Bool
is_defined a cs = is_some (((ends_by a bare_start [] (list cs)).environments 0).functions f)

abbrev pub copying : Answer
copying = record quiet { redirection_in_copy = true; value_in_copy = true; redirections_in_process = true }

abbrev pub failing : Answer
failing = record quiet { redirection_fails = true }

abbrev pub failing_first : Answer
failing_first = record quiet { redirection_fails = true; assignment_first = true }

abbrev pub failing_ends : Answer
failing_ends = record quiet { redirection_fails = true; redirection_ends = true; redirection_leaves_out = true }

abbrev pub ending : Answer
ending = record quiet { assignment_fails = true; special_ends = true }

abbrev pub assigning_first : Answer
assigning_first = record quiet { assignment_first = true }

abbrev pub just : Text → Option Text
just t = Some t

-- Loops and lists

-- `for x in a b; do for y in c d; do jump; done; z=1; done`
abbrev pub two_loops : List Text → List Command
two_loops jump = over x a_and_b (over y (codes "c" ∷ codes "d" ∷ []) (says jump ∷ []) ∷ one z ∷ []) ∷ []

-- `if first; then x=1; elif second; then x=2; else x=3; fi`
abbrev pub three_ways : Command → Command → List Command
three_ways first second =
    compound (Conditional (condition first (one x ∷ []) (condition second (assign x (codes "2") ∷ []) no_branches)) (else_of (list (assign x (codes "3") ∷ [])))) ∷ []

pub record JumpsAsExpected : Type 0 where
  -- `break`, `break 2`, `break 5` in two loops: the inner one, and the outer one
  pub break_inner : gives_x_y_z (two_loops (codes "break" ∷ [])) ≡ just (codes "b") ∷ just (codes "c") ∷ just (codes "1") ∷ []
  pub break_outer : gives_x_y_z (two_loops (codes "break" ∷ codes "2" ∷ [])) ≡ just (codes "a") ∷ just (codes "c") ∷ None ∷ []
  pub break_outermost : gives_x_y_z (two_loops (codes "break" ∷ codes "5" ∷ [])) ≡ just (codes "a") ∷ just (codes "c") ∷ None ∷ []
  -- `continue`, `continue 2`, `continue 5`
  pub continue_inner : gives_x_y_z (two_loops (codes "continue" ∷ [])) ≡ just (codes "b") ∷ just (codes "d") ∷ just (codes "1") ∷ []
  pub continue_outer : gives_x_y_z (two_loops (codes "continue" ∷ codes "2" ∷ [])) ≡ just (codes "b") ∷ just (codes "c") ∷ None ∷ []
  pub continue_outermost : gives_x_y_z (two_loops (codes "continue" ∷ codes "5" ∷ [])) ≡ just (codes "b") ∷ just (codes "c") ∷ None ∷ []
  -- `f() { break; z=1; }; for x in a b; do f; done`
  pub break_in_function : gives_x_y_z (function f (says_one (codes "break") ∷ one z ∷ []) ∷ over x a_and_b (says_one f ∷ []) ∷ []) ≡ just (codes "b") ∷ None ∷ just (codes "1") ∷ []
  -- `f() { while :; do break; done; z=1; }; f; y=1`
  pub break_inside_function :
      gives_x_y_z (function f (turning loop.While (says_one (codes ":")) (says_one (codes "break") ∷ []) ∷ one z ∷ []) ∷ says_one f ∷ one y ∷ [])
      ≡ None ∷ just (codes "1") ∷ just (codes "1") ∷ []
  -- `for x in a b; do continue; z=1; done; y=1`
  pub continue_in_for : gives_x_y_z (over x a_and_b (says_one (codes "continue") ∷ one z ∷ []) ∷ one y ∷ []) ≡ just (codes "b") ∷ just (codes "1") ∷ None ∷ []
  -- `until false; do x=1; break; done`, `until true; do x=1; done`, `while false; do x=1; done`,
  -- each before `s="$?"`
  pub until_false : x_and_status quiet (turning loop.Until false_command (one x ∷ says_one (codes "break") ∷ []) ∷ notes ∷ []) ≡ just (codes "1") ∷ just (codes "0") ∷ []
  pub until_true : x_and_status quiet (turning loop.Until true_command (one x ∷ []) ∷ notes ∷ []) ≡ None ∷ just (codes "0") ∷ []
  pub while_false : x_and_status quiet (turning loop.While false_command (one x ∷ []) ∷ notes ∷ []) ≡ None ∷ just (codes "0") ∷ []
  -- `for x in a b; do false; done; s="$?"`, `for x in; do false; done; s="$?"` after `false`
  pub for_status : x_and_status quiet (over x a_and_b (false_command ∷ []) ∷ notes ∷ []) ≡ just (codes "b") ∷ just (codes "1") ∷ []
  pub for_nothing : x_and_status quiet (false_command ∷ over x [] (false_command ∷ []) ∷ notes ∷ []) ≡ None ∷ just (codes "0") ∷ []
  -- `false && x=1`, `true && x=1`, `false || x=1`, `true || x=1`
  pub false_and : values (x ∷ codes "s" ∷ []) (ends_by quiet bare_start [] (chained false_command (and_then (one x) no_links))) ≡ None ∷ just (codes "1") ∷ []
  pub true_and : values (x ∷ codes "s" ∷ []) (ends_by quiet bare_start [] (chained true_command (and_then (one x) no_links))) ≡ just (codes "1") ∷ just (codes "0") ∷ []
  pub false_or : values (x ∷ codes "s" ∷ []) (ends_by quiet bare_start [] (chained false_command (or_else (one x) no_links))) ≡ just (codes "1") ∷ just (codes "0") ∷ []
  pub true_or : values (x ∷ codes "s" ∷ []) (ends_by quiet bare_start [] (chained true_command (or_else (one x) no_links))) ≡ None ∷ just (codes "0") ∷ []
  -- `false && x=1 || y=1`, `true || x=1 && y=1`
  pub and_or_else : x_y_z (ends_by quiet bare_start [] (chained false_command (and_then (one x) (or_else (one y) no_links)))) ≡ None ∷ just (codes "1") ∷ None ∷ []
  pub or_and_then : x_y_z (ends_by quiet bare_start [] (chained true_command (or_else (one x) (and_then (one y) no_links)))) ≡ None ∷ just (codes "1") ∷ None ∷ []
  -- `if .. elif .. else .. fi`; `if false; then x=1; fi; s="$?"`; `if true; then false; fi; s="$?"`
  pub if_first : gives_x_y_z (three_ways true_command true_command) ≡ just (codes "1") ∷ None ∷ None ∷ []
  pub if_second : gives_x_y_z (three_ways false_command true_command) ≡ just (codes "2") ∷ None ∷ None ∷ []
  pub if_else : gives_x_y_z (three_ways false_command false_command) ≡ just (codes "3") ∷ None ∷ None ∷ []
  pub if_nothing : x_and_status quiet (compound (Conditional (condition false_command (one x ∷ []) no_branches) no_else) ∷ notes ∷ []) ≡ None ∷ just (codes "0") ∷ []
  pub if_status : x_and_status quiet (compound (Conditional (condition true_command (false_command ∷ []) no_branches) no_else) ∷ notes ∷ []) ≡ None ∷ just (codes "1") ∷ []

-- Redirections and assignments

-- `"${x=t}"`, by which a redirection sets x
abbrev pub x_set : Word
x_set = assigning x (codes "t")

abbrev pub target : Word
target = plain (codes "t")

-- `x="$y" >"${y=t}"`, and before these words
abbrev pub crossing : List Word → Command
crossing ws = simple 1 0 (assignment x (value_of y) (redirection (File (assigning y (codes "t"))) (elements_of ws)))

abbrev pub ls : Text
ls = codes "ls"

-- `x="${y=t}" name >"$y"`, and `x=1 name >target`
abbrev pub valued_before : Text → List Command
valued_before name = simple 1 0 (assignment x (assigning y (codes "t")) (redirection (File (value_of y)) (elements_of (plain name ∷ [])))) ∷ []

abbrev pub prefixed_to : Text → Word → Command
prefixed_to name target = simple 1 0 (assignment x (plain (codes "1")) (redirection (File target) (elements_of (plain name ∷ []))))

abbrev pub restoring_first : Answer
restoring_first = record assigning_first { restores = λ n. true }

-- `x=1 >t` before `s="$?"`
abbrev pub opens_behind : World
opens_behind = start_world bare_start [] (list (simple 1 0 (assignment x (plain (codes "1")) (redirection (File target) no_elements)) ∷ notes ∷ []))

-- `( :; ) >"${x=t}" >"$x"`
abbrev pub opens_twice : Items
opens_twice = list (command 1 0 (Subshell (list (says_one (codes ":") ∷ []))) (more_redirects (File x_set) (more_redirects (File (value_of x)) no_redirects)) ∷ [])

-- and the other way round
abbrev pub opens_twice_before : Items
opens_twice_before = list (command 1 0 (Subshell (list (says_one (codes ":") ∷ []))) (more_redirects (File (value_of x)) (more_redirects (File x_set) no_redirects)) ∷ [])

pub record RedirectsAsExpected : Type 0 where
  -- `>"${x=t}"`, `ls >"${x=t}"`, `f >"${x=t}"`, `( :; ) >"${x=t}"`: in the shell, or in a copy
  pub nameless_here : x_and_status quiet (opens [] x_set ∷ notes ∷ []) ≡ just (codes "t") ∷ just (codes "0") ∷ []
  pub nameless_copied : x_and_status copying (opens [] x_set ∷ notes ∷ []) ≡ None ∷ just (codes "0") ∷ []
  pub utility_here : x_and_status quiet (opens (plain (codes "ls") ∷ []) x_set ∷ notes ∷ []) ≡ just (codes "t") ∷ just (codes "0") ∷ []
  pub utility_copied : x_and_status copying (opens (plain (codes "ls") ∷ []) x_set ∷ notes ∷ []) ≡ None ∷ just (codes "0") ∷ []
  pub function_here : seen quiet (x ∷ y ∷ []) (function f (one y ∷ []) ∷ opens (plain f ∷ []) x_set ∷ []) ≡ just (codes "t") ∷ just (codes "1") ∷ []
  pub function_copied : seen copying (x ∷ y ∷ []) (function f (one y ∷ []) ∷ opens (plain f ∷ []) x_set ∷ []) ≡ None ∷ just (codes "1") ∷ []
  pub subshell_here : x_and_status quiet (opened (Subshell (list (says_one (codes ":") ∷ []))) x_set ∷ notes ∷ []) ≡ just (codes "t") ∷ just (codes "0") ∷ []
  pub subshell_copied : x_and_status copying (opened (Subshell (list (says_one (codes ":") ∷ []))) x_set ∷ notes ∷ []) ≡ None ∷ just (codes "0") ∷ []
  -- a redirection sees what those before it set, in the shell and in the process that it starts
  pub subshell_sees : map (λ a. meets_unset a bare_start opens_twice) (quiet ∷ copying ∷ []) ≡ false ∷ false ∷ []
  pub subshell_sees_own : comes_to has_unset_event 100 1 quiet (far 100 0 copying (start_world bare_start [] opens_twice)) ≡ false
  pub subshell_sets : value x (far 100 0 quiet (start_world bare_start [] opens_twice)) ≡ just (codes "t")
  pub subshell_sets_own : ((far 100 1 quiet (far 100 0 copying (start_world bare_start [] opens_twice))).environments 1).variables x ≡ just (codes "t")
  -- `( :; ) >"$x" >"${x=t}"`: and not what those after it set
  pub subshell_meets : meets_unset quiet bare_start opens_twice_before ≡ true
  pub subshell_meets_own : comes_to has_unset_event 100 1 quiet (far 100 0 copying (start_world bare_start [] opens_twice_before)) ≡ true
  -- `: >"${x=t}"` and `{ :; } >"${x=t}"`: in the shell
  pub special_not_copied : x_and_status copying (opens (plain (codes ":") ∷ []) x_set ∷ notes ∷ []) ≡ just (codes "t") ∷ just (codes "0") ∷ []
  pub group_not_copied : x_and_status copying (opened (Group (list (says_one (codes ":") ∷ []))) x_set ∷ notes ∷ []) ≡ just (codes "t") ∷ just (codes "0") ∷ []
  -- `>"${y?}"`: the shell ends, or goes on with another status than zero
  pub fault_here : x_and_status quiet (opens [] (demanded y) ∷ notes ∷ []) ≡ None ∷ None ∷ []
  pub fault_copied : x_and_status copying (opens [] (demanded y) ∷ notes ∷ []) ≡ None ∷ just (codes "1") ∷ []
  -- a redirection that fails: `>t`, `read -r x <t` (not run), `: >t` (ends), each before `s="$?"`
  pub nameless_fails : x_and_status failing (opens [] target ∷ notes ∷ []) ≡ None ∷ just (codes "1") ∷ []
  -- `x=1 >t`: with the redirection first x may be set or not, and with the assignment first it is
  pub assignment_behind : values (x ∷ codes "s" ∷ []) (far 100 0 quiet (far 5 0 failing opens_behind)) ≡ just (codes "1") ∷ just (codes "1") ∷ []
  pub assignment_left_out : values (x ∷ codes "s" ∷ []) (far 100 0 quiet (far 5 0 failing_ends opens_behind)) ≡ None ∷ just (codes "1") ∷ []
  pub assignment_done : values (x ∷ codes "s" ∷ []) (far 100 0 quiet (far 6 0 failing_first opens_behind)) ≡ just (codes "1") ∷ just (codes "1") ∷ []
  pub utility_fails : x_and_status failing (opens (map plain (codes "read" ∷ codes "-r" ∷ codes "x" ∷ [])) target ∷ notes ∷ []) ≡ None ∷ just (codes "1") ∷ []
  pub special_fails : x_and_status failing (opens (plain (codes ":") ∷ []) target ∷ notes ∷ []) ≡ None ∷ None ∷ []
  -- `{ x=1; } >t` is not done, and may end
  pub group_fails : x_and_status failing (opened (Group (list (one x ∷ []))) target ∷ notes ∷ []) ≡ None ∷ just (codes "1") ∷ []
  pub group_ends : x_and_status failing_ends (opened (Group (list (one x ∷ []))) target ∷ notes ∷ []) ≡ None ∷ None ∷ []
  -- `{ x=1; } >"${y?}"`: the shell ends, or the redirection has failed
  pub group_fault_ends : x_and_status quiet (opened (Group (list (one x ∷ []))) (demanded y) ∷ notes ∷ []) ≡ None ∷ None ∷ []
  pub group_fault_fails : x_and_status failing (opened (Group (list (one x ∷ []))) (demanded y) ∷ notes ∷ []) ≡ None ∷ just (codes "1") ∷ []
  -- `f() { x=1; }; f >t` is not called, and may end
  pub function_fails : x_and_status failing (function f (one x ∷ []) ∷ opens (plain f ∷ []) target ∷ notes ∷ []) ≡ None ∷ just (codes "1") ∷ []
  pub function_ends : x_and_status failing_ends (function f (one x ∷ []) ∷ opens (plain f ∷ []) target ∷ notes ∷ []) ≡ None ∷ None ∷ []
  -- `x="$y" >"${y=t}"`: the redirection first, or the assignment, which then meets y;
  -- `x="$y" : >"${y=t}"` too; before `ls` too
  pub redirection_first : seen quiet (x ∷ y ∷ []) (crossing [] ∷ []) ≡ just (codes "t") ∷ just (codes "t") ∷ []
  pub assignment_first : seen assigning_first (x ∷ y ∷ []) (crossing [] ∷ []) ≡ just [] ∷ just (codes "t") ∷ []
  pub assignment_first_meets : map (λ a. meets_unset a bare_start (list (crossing [] ∷ []))) (quiet ∷ assigning_first ∷ []) ≡ false ∷ true ∷ []
  pub special_meets : map (λ a. meets_unset a bare_start (list (crossing (plain (codes ":") ∷ []) ∷ []))) (quiet ∷ assigning_first ∷ []) ≡ false ∷ true ∷ []
  pub utility_meets : map (λ a. meets_unset a bare_start (list (crossing (plain (codes "ls") ∷ []) ∷ []))) (quiet ∷ assigning_first ∷ []) ≡ false ∷ true ∷ []
  -- `x="${y=t}" ls >"$y"`, and before the function f: the redirection first meets y, and the
  -- assignment first sets it
  pub value_before_meets : map (λ a. meets_unset a bare_start (list (valued_before ls))) (quiet ∷ assigning_first ∷ []) ≡ true ∷ false ∷ []
  pub value_before_call_meets : map (λ a. meets_unset a bare_start (list (function f (one z ∷ []) ∷ valued_before f))) (quiet ∷ assigning_first ∷ []) ≡ true ∷ false ∷ []
  -- `x=1 ls >"$x"`, and before f: the redirection does not see the assignment, in either order
  pub redirection_sees_no_value :
      map (λ name. map (λ a. meets_unset a bare_start (list (function f (one z ∷ []) ∷ prefixed_to name (value_of x) ∷ []))) (quiet ∷ assigning_first ∷ [])) (ls ∷ f ∷ [])
      ≡ (true ∷ true ∷ []) ∷ (true ∷ true ∷ []) ∷ []
  -- `f() { z="$x"; }; x=1 f >"${y=t}"`, with the assignment first: it is called, and x stays, or is
  -- put back; if the redirection fails it is not
  pub call_behind_values :
      map (λ a. seen a (x ∷ y ∷ z ∷ []) (function f (gives z (value_of x) ∷ []) ∷ prefixed_to f (assigning y (codes "t")) ∷ [])) (assigning_first ∷ restoring_first ∷ [])
      ≡ (just (codes "1") ∷ just (codes "t") ∷ just (codes "1") ∷ []) ∷ (None ∷ just (codes "t") ∷ just (codes "1") ∷ []) ∷ []
  pub call_fails_behind_values :
      map (λ a. seen a (x ∷ y ∷ z ∷ []) (function f (gives z (value_of x) ∷ []) ∷ prefixed_to f (assigning y (codes "t")) ∷ []))
      (failing_first ∷ record restoring_first { redirection_fails = true } ∷ [])
      ≡ (just (codes "1") ∷ just (codes "t") ∷ None ∷ []) ∷ (None ∷ just (codes "t") ∷ None ∷ []) ∷ []

-- `x=1 y=word ls`; `"${x+$z}"`
abbrev pub shown_to : Word → Command
shown_to w = simple 1 0 (assignment x (plain (codes "1")) (assignment y w (elements_of (plain (codes "ls") ∷ []))))

abbrev pub z_if_x : Word
z_if_x = only (Double (only (Expansion 0 (Variable x) (Use action.Alternative false (only (Expansion 0 (Variable z) Value))))))

abbrev pub seeing : Answer
seeing = record quiet { sees = true }

-- `x=$y`, as an operand; y with a blank
abbrev pub defined_by_y : Word
defined_by_y = more_parts (Plain (codes "x=")) (only (Expansion 0 (Variable y) Value))

abbrev pub with_y : Environment
with_y = with_variable bare_start y (Some (codes "a b"))

pub record AssignmentsAsExpected : Type 0 where
  -- `x=1 y="$x"`: one after the other; `x=$z` with `a b` in z: one value, and nothing is split
  pub one_after_another : gives_x_y_z (simple 1 0 (assignment x (plain (codes "1")) (assignment y (value_of x) no_elements)) ∷ []) ≡ just (codes "1") ∷ just (codes "1") ∷ None ∷ []
  pub value_stays_whole : gives_x_y_z (assign z (codes "a b") ∷ gives x (only (Expansion 0 (Variable z) Value)) ∷ []) ≡ just (codes "a b") ∷ None ∷ just (codes "a b") ∷ []
  pub value_is_not_split : meets_split quiet (start_with (codes "a b")) (list (gives y (only (Expansion 0 (Variable x) Value)) ∷ [])) ≡ false
  -- `x=$*` with the parameters a and b, under IFS `:`, under an empty one, and without IFS
  pub parameters_joined :
      map (λ (ifs : Option Text). value x (ends_by quiet (with_variable bare_start (codes "IFS") ifs) a_and_b (list (gives x (only (Expansion 0 (Special special.Asterisk) Value)) ∷ []))))
      (just (codes ":") ∷ just [] ∷ None ∷ [])
      ≡ just (codes "a:b") ∷ just (codes "ab") ∷ just (codes "a b") ∷ []
  -- an assignment that fails ends the process
  pub assignment_ends : x_and_status ending (one x ∷ notes ∷ []) ≡ None ∷ None ∷ []
  -- `x=1 :`, `x=1 ls`, and in `f() { z="$x"; }; x=1 f`
  pub before_special : x_and_status quiet (before x (plain (codes "1")) (plain (codes ":") ∷ []) ∷ []) ≡ just (codes "1") ∷ None ∷ []
  pub before_utility : x_and_status quiet (before x (plain (codes "1")) (plain (codes "ls") ∷ []) ∷ []) ≡ None ∷ None ∷ []
  pub before_function : gives_x_y_z (function f (gives z (value_of x) ∷ []) ∷ before x (plain (codes "1")) (plain f ∷ []) ∷ []) ≡ just (codes "1") ∷ None ∷ just (codes "1") ∷ []
  pub before_function_restored :
      seen put_back (x ∷ z ∷ []) (function f (gives z (value_of x) ∷ []) ∷ before x (plain (codes "1")) (plain f ∷ []) ∷ []) ≡ None ∷ just (codes "1") ∷ []
  -- `f() { :; }; y="${x=t}" x=1 f`, with both put back: x was set by the value of y; `x=1 x=2 f`,
  -- with x set before
  pub before_function_seen :
      seen put_back (x ∷ y ∷ [])
      (function f (says_one (codes ":") ∷ []) ∷ simple 1 0 (assignment y (assigning x (codes "t")) (assignment x (plain (codes "1")) (elements_of (plain f ∷ [])))) ∷ [])
      ≡ just (codes "t") ∷ None ∷ []
  pub before_function_twice :
      seen put_back (x ∷ z ∷ [])
      (assign x (codes "0") ∷ function f (gives z (value_of x) ∷ []) ∷ simple 1 0 (assignment x (plain (codes "1")) (assignment x (plain (codes "2")) (elements_of (plain f ∷ [])))) ∷ [])
      ≡ just (codes "0") ∷ just (codes "2") ∷ []
  -- `x="$y" ls`: y is met if it is not set
  pub value_meets : meets_unset quiet bare_start (list (before x (value_of y) (plain (codes "ls") ∷ []) ∷ [])) ≡ true
  pub value_meets_nothing : meets_unset quiet (with_variable bare_start y (Some [])) (list (before x (value_of y) (plain (codes "ls") ∷ []) ∷ [])) ≡ false
  -- `x="${y=t}" ls`: y is set, unless the value is expanded in a copy; `x="${y?}" ls` ends the
  -- process, in a copy too
  pub value_sets : seen quiet (x ∷ y ∷ []) (before x (assigning y (codes "t")) (plain (codes "ls") ∷ []) ∷ []) ≡ None ∷ just (codes "t") ∷ []
  pub value_copied : seen copying (x ∷ y ∷ []) (before x (assigning y (codes "t")) (plain (codes "ls") ∷ []) ∷ []) ≡ None ∷ None ∷ []
  pub value_ends : map (λ a. x_and_status a (before x (demanded y) (plain (codes "ls") ∷ []) ∷ notes ∷ [])) (quiet ∷ copying ∷ []) ≡ (None ∷ None ∷ []) ∷ (None ∷ None ∷ []) ∷ []
  -- `x=1 y="${x?}" ls`, `x=1 y="${x=t}" ls` and `x=1 y="${x+$z}" ls`: the value after it sees x, or
  -- does not; the shell has no x afterwards
  pub seen_goes_on : map (λ a. x_and_status a (shown_to (demanded x) ∷ notes ∷ [])) (quiet ∷ seeing ∷ []) ≡ (None ∷ None ∷ []) ∷ (None ∷ just (codes "0") ∷ []) ∷ []
  pub seen_sets_nothing : map (λ a. seen a (x ∷ []) (shown_to (assigning x (codes "t")) ∷ [])) (quiet ∷ seeing ∷ []) ≡ (just (codes "t") ∷ []) ∷ (None ∷ []) ∷ []
  pub seen_is_set : map (λ a. meets_unset a bare_start (list (shown_to z_if_x ∷ []))) (quiet ∷ seeing ∷ []) ≡ false ∷ true ∷ []
  pub seen_before :
      seen seeing (x ∷ []) (assign x (codes "0") ∷ simple 1 0 (assignment x (plain (codes "1")) (assignment x (plain (codes "2")) (elements_of (plain (codes "ls") ∷ [])))) ∷ [])
      ≡ just (codes "0") ∷ []
  pub seen_own : seen seeing (x ∷ []) (before x (assigning x (codes "t")) (plain (codes "ls") ∷ []) ∷ []) ≡ just (codes "t") ∷ []
  -- `export x=1`, `readonly x=1`, `export x`, and `export "$y"` with `x=1` in y
  pub export_sets : x_and_status quiet (says (codes "export" ∷ codes "x=1" ∷ []) ∷ notes ∷ []) ≡ just (codes "1") ∷ just (codes "0") ∷ []
  pub readonly_sets : x_and_status quiet (says (codes "readonly" ∷ codes "x=1" ∷ []) ∷ notes ∷ []) ≡ just (codes "1") ∷ just (codes "0") ∷ []
  pub export_name : x_and_status quiet (says (codes "export" ∷ codes "x" ∷ []) ∷ notes ∷ []) ≡ None ∷ just (codes "0") ∷ []
  pub export_value : seen quiet (x ∷ []) (assign y (codes "x=1") ∷ utility (plain (codes "export") ∷ value_of y ∷ []) ∷ []) ≡ just (codes "1") ∷ []
  -- `export x=$y` and `ls x=$y` with `a b` in y: one field, and two; `f() { z="$#"; }; f x=$y`
  pub export_stays_whole : seen quiet (x ∷ []) (assign y (codes "a b") ∷ utility (plain (codes "export") ∷ defined_by_y ∷ []) ∷ []) ≡ just (codes "a b") ∷ []
  pub export_is_not_split : meets_split quiet with_y (list (utility (plain (codes "export") ∷ defined_by_y ∷ []) ∷ [])) ≡ false
  pub operand_is_split : meets_split quiet with_y (list (utility (plain (codes "ls") ∷ defined_by_y ∷ []) ∷ [])) ≡ true
  pub operand_splits :
      seen quiet (z ∷ []) (assign y (codes "a b") ∷ function f (gives z (special_of special.NumberSign) ∷ []) ∷ utility (plain f ∷ defined_by_y ∷ []) ∷ []) ≡ just (codes "2") ∷ []

-- Built-in utilities

-- a command of plain words
abbrev pub unsets : List Text → Command
unsets ts = says (codes "unset" ∷ ts)

abbrev pub sets : List Text → Command
sets ts = says (codes "set" ∷ ts)

abbrev pub shifts : List Text → Command
shifts ts = says (codes "shift" ∷ ts)

-- an answer with another status, with the values of names, and with what `unset` removes
abbrev pub of_values : ℕ → List (Option Text) → Answer
of_values n ts = record quiet { status = n; values = λ k. unwrap_or (slice_get ts k) None }

abbrev pub removing : Answer
removing = record quiet { status = 1; removes = λ n. n == 1 }

abbrev pub taking : Answer
taking = record quiet { takes_function = true }

-- `f() { :; }` before other commands
abbrev pub with_f : List Command → List Command
with_f cs = function f (says_one (codes ":") ∷ []) ∷ cs

-- the variable f, and whether the function is defined, after `f() { :; }; f=1; unset letters f`
abbrev pub unset_by : Text → Answer → Option Text × Bool
unset_by letters a =
    let w = ends_by a bare_start [] (list (with_f (one f ∷ unsets (letters ∷ f ∷ []) ∷ []))) in
    (value f w, is_some ((w.environments 0).functions f))

abbrev pub removing_either : Bool → Bool → Answer
removing_either variable function = record quiet { removes_variable = λ n. variable; removes_function = λ n. function }

abbrev pub opt_names : List Text
opt_names = x ∷ codes "OPTIND" ∷ codes "OPTARG" ∷ []

-- `getopts ..`, with `q` in OPTARG before
abbrev pub getopts_command : List Text → List Command
getopts_command ts = assign (codes "OPTARG") (codes "q") ∷ says (codes "getopts" ∷ ts) ∷ []

pub record BuiltinsAsExpected : Type 0 where
  -- `unset x y`: on zero both go; on another status those that are removed; `unset -v x`,
  -- `unset -- x`
  pub unset_both : seen quiet (x ∷ y ∷ []) (one x ∷ one y ∷ unsets (x ∷ y ∷ []) ∷ []) ≡ None ∷ None ∷ []
  pub unset_second : seen removing (x ∷ y ∷ []) (one x ∷ one y ∷ unsets (x ∷ y ∷ []) ∷ []) ≡ just (codes "1") ∷ None ∷ []
  pub unset_variable : seen taking (x ∷ []) (one x ∷ unsets (codes "-v" ∷ x ∷ []) ∷ []) ≡ None ∷ []
  pub unset_behind_dashes : seen quiet (x ∷ []) (one x ∷ unsets (codes "--" ∷ x ∷ []) ∷ []) ≡ None ∷ []
  -- `unset -f f`, `unset -v f`, `unset f` without a variable f, after which the function has gone
  -- or stays, and with one; `f=1; unset -f f`
  pub unset_function : is_defined quiet (with_f (unsets (codes "-f" ∷ f ∷ []) ∷ [])) ≡ false
  pub unset_no_function : is_defined taking (with_f (unsets (codes "-v" ∷ f ∷ []) ∷ [])) ≡ true
  pub unset_either : map (λ a. is_defined a (with_f (unsets (f ∷ []) ∷ []))) (taking ∷ quiet ∷ []) ≡ false ∷ true ∷ []
  pub unset_variable_first : is_defined taking (with_f (one f ∷ unsets (f ∷ []) ∷ [])) ≡ true
  pub unset_function_alone : seen quiet (f ∷ []) (with_f (one f ∷ unsets (codes "-f" ∷ f ∷ []) ∷ [])) ≡ just (codes "1") ∷ []
  -- `f=1; unset -vf f`, and `-n`, which the standard does not have: the variable goes or stays, and
  -- the function does, on zero too
  pub unset_letters :
      map (λ a. map (λ letters. unset_by letters a) (codes "-vf" ∷ codes "-n" ∷ [])) (removing_either false false ∷ removing_either true false ∷ removing_either false true ∷ removing_either true true ∷ [])
      ≡ replicate 2 (just (codes "1"), true) ∷ replicate 2 (None, true) ∷ replicate 2 (just (codes "1"), false) ∷ replicate 2 (None, false) ∷ []
  pub unset_ends : seen ending (x ∷ []) (unsets (x ∷ []) ∷ one x ∷ []) ≡ None ∷ []
  -- `set c`, on zero and on another status, when the parameters may change; `set -o errexit`,
  -- `set -e`, `set -eo errexit c`, `set -e -- -c`, `set --`, `set +e c`
  pub set_one : parameters quiet (sets (codes "c" ∷ []) ∷ []) ≡ codes "c" ∷ []
  pub set_fails : parameters (with_status 1) (sets (codes "c" ∷ []) ∷ []) ≡ a_and_b
  pub set_fails_behind : parameters (record quiet { status = 1; sets_parameters = true }) (sets (codes "c" ∷ []) ∷ []) ≡ codes "c" ∷ []
  pub set_option_word : parameters quiet (sets (codes "-o" ∷ codes "errexit" ∷ []) ∷ []) ≡ a_and_b
  pub set_option : parameters quiet (sets (codes "-e" ∷ []) ∷ []) ≡ a_and_b
  pub set_alone : parameters quiet (sets [] ∷ []) ≡ a_and_b
  pub set_options_and_word : parameters quiet (sets (codes "-eo" ∷ codes "errexit" ∷ codes "c" ∷ []) ∷ []) ≡ codes "c" ∷ []
  pub set_behind_dashes : parameters quiet (sets (codes "-e" ∷ codes "--" ∷ codes "-c" ∷ []) ∷ []) ≡ codes "-c" ∷ []
  pub set_nothing : parameters quiet (sets (codes "--" ∷ []) ∷ []) ≡ []
  pub set_plus : parameters quiet (sets (codes "+e" ∷ codes "c" ∷ []) ∷ []) ≡ codes "c" ∷ []
  -- with the parameters a and b: `shift`, `shift 2`, `shift 0`, `shift 3` (nothing changes, and it
  -- may end), `shift w`
  pub shift_one : parameters quiet (shifts [] ∷ []) ≡ codes "b" ∷ []
  pub shift_two : parameters quiet (shifts (codes "2" ∷ []) ∷ []) ≡ []
  pub shift_none : parameters quiet (shifts (codes "0" ∷ []) ∷ []) ≡ a_and_b
  pub shift_too_many : parameters quiet (shifts (codes "3" ∷ []) ∷ []) ≡ a_and_b
  pub shift_status :
      map (λ t. value (codes "s") (ends_by quiet bare_start a_and_b (list (shifts (t ∷ []) ∷ notes ∷ [])))) (codes "2" ∷ codes "3" ∷ []) ≡ just (codes "0") ∷ just (codes "1") ∷ []
  pub shift_ends : seen ending (x ∷ []) (shifts [] ∷ one x ∷ []) ≡ None ∷ []
  pub shift_word : map (λ n. parameters (record quiet { count = n }) (shifts (codes "w" ∷ []) ∷ [])) (0 ∷ 1 ∷ 2 ∷ []) ≡ a_and_b ∷ (codes "b" ∷ []) ∷ [] ∷ []
  -- `getopts ab: x`: x, OPTIND and OPTARG, on zero, and on another status, with OPTARG set before;
  -- `getopts -- ab x`, `getopts ab 1x`
  pub getopts_option : seen (of_values 0 (just (codes "a") ∷ just (codes "2") ∷ [])) opt_names (getopts_command (codes "ab:" ∷ x ∷ [])) ≡ just (codes "a") ∷ just (codes "2") ∷ None ∷ []
  pub getopts_argument :
      seen (of_values 0 (just (codes "b") ∷ just (codes "3") ∷ just (codes "v") ∷ [])) opt_names (getopts_command (codes "ab:" ∷ x ∷ []))
      ≡ just (codes "b") ∷ just (codes "3") ∷ just (codes "v") ∷ []
  pub getopts_sets : seen quiet opt_names (getopts_command (codes "ab:" ∷ x ∷ [])) ≡ just [] ∷ just [] ∷ None ∷ []
  pub getopts_end :
      seen (of_values 1 (just (codes "?") ∷ None ∷ just (codes "q") ∷ [])) opt_names (getopts_command (codes "ab:" ∷ x ∷ []))
      ≡ just (codes "?") ∷ just (codes "1") ∷ just (codes "q") ∷ []
  pub getopts_dashes :
      seen (of_values 0 (just (codes "a") ∷ just (codes "2") ∷ [])) opt_names (getopts_command (codes "--" ∷ codes "ab" ∷ x ∷ [])) ≡ just (codes "a") ∷ just (codes "2") ∷ None ∷ []
  pub getopts_no_name :
      seen (of_values 2 (just (codes "a") ∷ None ∷ just (codes "q") ∷ [])) opt_names (getopts_command (codes "ab" ∷ codes "1x" ∷ []))
      ≡ None ∷ just (codes "1") ∷ just (codes "q") ∷ []
  -- `x=1 read -r x` and `x=1 read -r y`, on zero: x may stay, and y is set
  pub read_stays : x_and_status quiet (before x (plain (codes "1")) (map plain (codes "read" ∷ codes "-r" ∷ x ∷ [])) ∷ notes ∷ []) ≡ None ∷ just (codes "0") ∷ []
  pub read_sets :
      x_and_status (of_values 0 (just (codes "v") ∷ [])) (before x (plain (codes "1")) (map plain (codes "read" ∷ codes "-r" ∷ x ∷ [])) ∷ notes ∷ [])
      ≡ just (codes "v") ∷ just (codes "0") ∷ []
  pub read_other : seen quiet (x ∷ y ∷ []) (before x (plain (codes "1")) (map plain (codes "read" ∷ codes "-r" ∷ y ∷ [])) ∷ []) ≡ None ∷ just [] ∷ []
  -- `read -d y x`, `read -rd: x`, `read -- x`: x alone is a name; `read -t 1 x`: no option of the
  -- standard
  pub read_delimited : seen quiet (x ∷ y ∷ []) (utility (plain (codes "read") ∷ plain (codes "-d") ∷ plain y ∷ plain x ∷ []) ∷ []) ≡ just [] ∷ None ∷ []
  pub read_delimiter_behind : seen quiet (x ∷ y ∷ []) (says (codes "read" ∷ codes "-rd:" ∷ x ∷ []) ∷ []) ≡ just [] ∷ None ∷ []
  pub read_behind_dashes : seen quiet (x ∷ y ∷ []) (says (codes "read" ∷ codes "--" ∷ x ∷ []) ∷ []) ≡ just [] ∷ None ∷ []
  pub read_timed : x_and_status (of_values 0 (just (codes "v") ∷ [])) (says (codes "read" ∷ codes "-t" ∷ codes "1" ∷ x ∷ []) ∷ notes ∷ []) ≡ None ∷ just (codes "1") ∷ []
  -- `cd /`, if PWD and OLDPWD get values and if they do not
  pub cd_sets :
      seen (of_values 0 (just (codes "/") ∷ just (codes "/o") ∷ [])) (codes "PWD" ∷ codes "OLDPWD" ∷ []) (says (codes "cd" ∷ codes "/" ∷ []) ∷ [])
      ≡ just (codes "/") ∷ just (codes "/o") ∷ []
  pub cd_stays : seen quiet (codes "PWD" ∷ codes "OLDPWD" ∷ []) (says (codes "cd" ∷ codes "/" ∷ []) ∷ []) ≡ None ∷ None ∷ []
  -- `exec ls` goes on with another status than zero alone, or ends; `exit 3` ends; `true` is zero,
  -- and `false` another status
  pub exec_fails : x_and_status quiet (says (codes "exec" ∷ codes "ls" ∷ []) ∷ notes ∷ []) ≡ None ∷ just (codes "1") ∷ []
  pub exec_ends : x_and_status ending (says (codes "exec" ∷ codes "ls" ∷ []) ∷ notes ∷ []) ≡ None ∷ None ∷ []
  pub exec_alone : x_and_status quiet (says (codes "exec" ∷ []) ∷ notes ∷ []) ≡ None ∷ just (codes "0") ∷ []
  pub exit_ends : x_and_status quiet (says (codes "exit" ∷ codes "3" ∷ []) ∷ notes ∷ []) ≡ None ∷ None ∷ []
  pub statuses : map (λ c. x_and_status (with_status 7) (c ∷ notes ∷ [])) (true_command ∷ false_command ∷ []) ≡ (None ∷ just (codes "0") ∷ []) ∷ (None ∷ just (codes "7") ∷ []) ∷ []

-- Functions and processes

-- `return 3`
abbrev pub returns : Command
returns = says (codes "return" ∷ codes "3" ∷ [])

-- `name="$#"`
abbrev pub counts : Text → Command
counts name = gives name (special_of special.NumberSign)

-- `f() { x="$1"; g b c; y="$#"; }; g() { z="$#"; }; f a; s="$#"`
abbrev pub nested_calls : List Command
nested_calls =
    let calls_g = function f (gives x (only (Double (only (Expansion 0 (Positional 1) Value)))) ∷ says (codes "g" ∷ codes "b" ∷ codes "c" ∷ []) ∷ counts y ∷ []) in
    calls_g ∷ function (codes "g") (counts z ∷ []) ∷ says (f ∷ codes "a" ∷ []) ∷ counts (codes "s") ∷ []

-- each of these processes in turn, to its end or to where it waits
unfoldable pub behind : List ℕ → World → World
behind [] w = w
behind (p ∷ ps) w = behind ps (far 100 p quiet w)

-- `sleep 1 & ( x="$!" )`; the steps in the subshell, which is process 2
abbrev pub subshell_job : Items
subshell_job = more_items (and_or (piece (says (codes "sleep" ∷ codes "1" ∷ []))) no_links) true (list (subshell (gives x (special_of special.Exclamation) ∷ []) ∷ []))

abbrev pub job_met : Bool → Bool
job_met carries = comes_to has_unset_event 100 2 quiet (far 100 0 (record quiet { carries = λ n. carries }) (start_world bare_start [] subshell_job))

-- `case a in "${x=t}"|"${y=t}") z=1;; esac`
abbrev pub two_patterns : List Command
two_patterns =
    compound (Case (plain (codes "a")) (more_clauses (words_of (assigning x (codes "t") ∷ assigning y (codes "t") ∷ [])) (list (one z ∷ [])) clause.Break no_clauses)) ∷ []

-- the two parts of a pipeline started, sharing the environment of their shell or not, with the
-- parameters a and b
abbrev pub parted : Bool → Command → Command → World
parted share c d = far 2 0 (record quiet { shares = λ n. share }) (start_world bare_start a_and_b (both c d))

-- a command in the background, before `s="$?"`; a pipeline, before that
abbrev pub in_background : Command → Items
in_background c = more_items (and_or (piece c) no_links) true (list (notes ∷ []))

abbrev pub before_notes : Command → Command → Items
before_notes c d = more_items (and_or (pipeline false (more_commands c (more_commands d no_commands))) no_links) false (list (notes ∷ []))

-- `{ x=1; x=2; }`
abbrev pub twice : Command
twice = group (one x ∷ assign x (codes "2") ∷ [])

-- `f() { :; } >"${x=$1}"`
abbrev pub opening_function : Command
opening_function =
    let first = only (Expansion 0 (Positional 1) Value) in
    compound (Define f (opened (Group (list (says_one (codes ":") ∷ []))) (only (Double (only (Expansion 0 (Variable x) (Use action.Assign false first)))))))

-- the number of the command that a piece of work belongs to, and the function at a return mark
unfoldable pub numbered : Work → List (ℕ × Text)
numbered (Words c left ts rs xs) = (c.number, []) ∷ []
numbered (Again n kind while_list body) = (n, []) ∷ []
numbered (Return n t saved) = (n, t) ∷ []
numbered _ = []

-- `f() { while :; do break; done; }; f`, with the numbers of its commands
abbrev pub numbered_calls : Items
numbered_calls =
    let loops = command 3 0 (Loop loop.While (lone (program.utility 4 0 (codes ":"))) (lone (program.utility 5 0 (codes "break")))) no_redirects in
    let defines = command 1 0 (Define f (command 2 0 (Group (lone loops)) no_redirects)) no_redirects in
    alone defines (lone (program.utility 6 0 f))

pub record CallsAsExpected : Type 0 where
  -- `f() { return 3; x=1; }; f`; `f() { return; x=1; }; f` and `f() { return 256; }; f`, which have
  -- any status; `return 3` outside
  pub return_in_function : x_and_status quiet (function f (returns ∷ one x ∷ []) ∷ says_one f ∷ notes ∷ []) ≡ None ∷ just (codes "3") ∷ []
  pub return_alone : x_and_status (with_status 7) (function f (says_one (codes "return") ∷ one x ∷ []) ∷ says_one f ∷ notes ∷ []) ≡ None ∷ just (codes "7") ∷ []
  pub return_beyond : x_and_status (with_status 7) (function f (says (codes "return" ∷ codes "256" ∷ []) ∷ []) ∷ says_one f ∷ notes ∷ []) ≡ None ∷ just (codes "7") ∷ []
  pub return_outside : x_and_status quiet (returns ∷ notes ∷ []) ≡ None ∷ just (codes "3") ∷ []
  pub return_ends : x_and_status ending (returns ∷ notes ∷ []) ≡ None ∷ None ∷ []
  -- `f() { return "$x"; }; x=3; f`: an operand that is computed may give any status
  pub return_computed :
      x_and_status (with_status 7) (function f (utility (plain (codes "return") ∷ value_of x ∷ []) ∷ []) ∷ assign x (codes "3") ∷ says_one f ∷ notes ∷ []) ≡ just (codes "3") ∷ just (codes "7") ∷ []
  -- `f() { while :; do break; done; }; f`: at `break` the work knows its commands by their numbers,
  -- and the function that it returns from
  pub work_is_numbered :
      option_map (λ r. flat_map numbered r.work) ((far 30 0 quiet (start_world bare_start [] numbered_calls)).processes 0) ≡ Some ((5, []) ∷ (3, []) ∷ (6, f) ∷ [])
  -- `f() { for x in a b; do return 3; done; }; f`: the loop is left
  pub return_in_loop : x_and_status quiet (function f (over x a_and_b (returns ∷ []) ∷ []) ∷ says_one f ∷ notes ∷ []) ≡ just (codes "a") ∷ just (codes "3") ∷ []
  -- `f() { g() { x=1; }; }; f; g`, and without `f`, so that g is a utility;
  -- `f() { f() { x=1; }; }; f; f`
  pub inner_definition : seen quiet (x ∷ []) (function f (function (codes "g") (one x ∷ []) ∷ []) ∷ says_one f ∷ says_one (codes "g") ∷ []) ≡ just (codes "1") ∷ []
  pub no_inner_definition : seen quiet (x ∷ []) (function f (function (codes "g") (one x ∷ []) ∷ []) ∷ says_one (codes "g") ∷ []) ≡ None ∷ []
  pub definition_again : seen quiet (x ∷ []) (function f (function f (one x ∷ []) ∷ []) ∷ says_one f ∷ says_one f ∷ []) ≡ just (codes "1") ∷ []
  -- `f() { :; } >"${x=$1}"`, and then `f a`: the redirection is the body's
  pub definition_opens_nothing : seen quiet (x ∷ []) (opening_function ∷ []) ≡ None ∷ []
  pub call_opens : seen quiet (x ∷ []) (opening_function ∷ says (f ∷ codes "a" ∷ []) ∷ []) ≡ just (codes "a") ∷ []
  -- the operands of each call are its parameters, and those of its caller are back after it
  pub calls_have_parameters : seen quiet (x ∷ y ∷ z ∷ codes "s" ∷ []) nested_calls ≡ just (codes "a") ∷ just (codes "1") ∷ just (codes "2") ∷ just (codes "0") ∷ []
  -- `f() { shift; set c d e; y="$#"; }; f q; x="$#"`, with the parameters a and b
  pub own_parameters :
      x_y_z (ends_by quiet bare_start a_and_b (list (function f (shifts [] ∷ sets (codes "c" ∷ codes "d" ∷ codes "e" ∷ []) ∷ counts y ∷ []) ∷ says (f ∷ codes "q" ∷ []) ∷ counts x ∷ [])))
      ≡ just (codes "2") ∷ just (codes "3") ∷ None ∷ []
  -- `x=1; (x=2; shift)`, with the parameters a and b: those of the shell stay as they are
  pub subshell_apart : value x (behind (0 ∷ 1 ∷ []) (start_world bare_start a_and_b (list (one x ∷ subshell (assign x (codes "2") ∷ shifts [] ∷ []) ∷ [])))) ≡ just (codes "1")
  pub subshell_own :
      ((behind (0 ∷ 1 ∷ []) (start_world bare_start a_and_b (list (one x ∷ subshell (assign x (codes "2") ∷ shifts [] ∷ []) ∷ [])))).environments 1).variables x ≡ just (codes "2")
  pub subshell_parameters : map (behind (0 ∷ 1 ∷ []) (start_world bare_start a_and_b (list (subshell (shifts [] ∷ []) ∷ [])))).frames (0 ∷ 1 ∷ []) ≡ a_and_b ∷ (codes "b" ∷ []) ∷ []
  -- `sleep 1 & ( x="$!" )`: `!` is in the copy, or is lost
  pub job_is_carried : job_met true ≡ false
  pub job_is_lost : job_met false ≡ true
  -- `case a in "${x=t}"|"${y=t}") z=1;; esac`: the first pattern matches; the second one, tried
  -- first, does; none does
  pub pattern_first : seen (record quiet { matches = true }) (x ∷ y ∷ z ∷ []) two_patterns ≡ just (codes "t") ∷ None ∷ just (codes "1") ∷ []
  pub pattern_second : seen (record quiet { matches = true; pattern = 1 }) (x ∷ y ∷ z ∷ []) two_patterns ≡ None ∷ just (codes "t") ∷ just (codes "1") ∷ []
  pub pattern_none :
      map (λ n. seen (record quiet { pattern = n }) (x ∷ y ∷ z ∷ []) two_patterns) (0 ∷ 1 ∷ [])
      ≡ (just (codes "t") ∷ just (codes "t") ∷ None ∷ []) ∷ (just (codes "t") ∷ just (codes "t") ∷ None ∷ []) ∷ []
  -- `shift | ls`: a part that shares removes a parameter of the shell, and another part does not
  pub shift_shared : (behind (1 ∷ 2 ∷ 0 ∷ []) (parted true (shifts []) (says_one (codes "ls")))).frames 0 ≡ codes "b" ∷ []
  pub shift_copied : (behind (1 ∷ 2 ∷ 0 ∷ []) (parted false (shifts []) (says_one (codes "ls")))).frames 0 ≡ a_and_b
  -- `{ x=1; x=2; } | y="$x"`, with parts that share: y is read before, between and after
  pub interleaved :
      map (λ n. value y (behind (1 ∷ 0 ∷ []) (behind (2 ∷ []) (far n 1 quiet (parted true twice (gives y (value_of x))))))) (0 ∷ 9 ∷ 100 ∷ [])
      ≡ just [] ∷ just (codes "1") ∷ just (codes "2") ∷ []
  pub interleaved_end :
      map (λ n. value x (behind (1 ∷ 0 ∷ []) (behind (2 ∷ []) (far n 1 quiet (parted true twice (gives y (value_of x))))))) (0 ∷ 9 ∷ 100 ∷ [])
      ≡ just (codes "2") ∷ just (codes "2") ∷ just (codes "2") ∷ []
  pub interleaved_meets : map (λ n. comes_to has_unset_event 100 2 quiet (far n 1 quiet (parted true twice (gives y (value_of x))))) (0 ∷ 9 ∷ 100 ∷ []) ≡ true ∷ false ∷ false ∷ []
  -- `{ x=1; x=2; } | y="$x"`, with copies: each has its own x
  pub copied_apart : x_y_z (behind (1 ∷ 2 ∷ 0 ∷ []) (parted false twice (gives y (value_of x)))) ≡ None ∷ None ∷ None ∷ []
  pub copied_own : ((behind (1 ∷ []) (parted false twice (gives y (value_of x)))).environments 1).variables x ≡ just (codes "2")
  pub copied_meets : comes_to has_unset_event 100 2 quiet (behind (1 ∷ []) (parted false twice (gives y (value_of x)))) ≡ true
  -- `x=1 &`: the shell's x stays, and the status is zero
  pub asynchronous_apart : value x (behind (0 ∷ 1 ∷ []) (start_world bare_start [] (in_background (one x)))) ≡ None
  pub asynchronous_own : ((behind (0 ∷ 1 ∷ []) (start_world bare_start [] (in_background (one x)))).environments 1).variables x ≡ just (codes "1")
  pub asynchronous_status : value (codes "s") (ends_by (with_status 7) bare_start [] (in_background false_command)) ≡ just (codes "0")
  -- a subshell, a pipeline, an assignment, `break` and `continue` have any status;
  -- `f() { false; }; f` has that of its body
  pub any_status :
      map (λ t. value (codes "s") (ends_by (with_status 7) bare_start [] t))
      (list (subshell (says_one (codes ":") ∷ []) ∷ notes ∷ []) ∷ before_notes true_command true_command ∷ list (one x ∷ notes ∷ [])
      ∷ list (over x a_and_b (says_one (codes "break") ∷ []) ∷ notes ∷ []) ∷ list (over x a_and_b (says_one (codes "continue") ∷ []) ∷ notes ∷ [])
      ∷ list (function f (false_command ∷ []) ∷ says_one f ∷ notes ∷ []) ∷ [])
      ≡ replicate 6 (just (codes "7"))

pub record StepsAsExpected : Type 0 where
  pub jumps : JumpsAsExpected
  pub redirects : RedirectsAsExpected
  pub assignments : AssignmentsAsExpected
  pub builtins : BuiltinsAsExpected
  pub calls : CallsAsExpected
