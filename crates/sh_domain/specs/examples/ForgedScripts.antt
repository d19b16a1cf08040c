-- Certificates that claim more than any run keeps, each as a wrong rule would allow it, and the
-- rule that refuses it.
-- POSIX.1-2024, XCU 2.6 (word expansions), 2.9 (shell commands), 2.15 (special built-in utilities),
-- 3 (read).
use Rattle.std.specs.Prelude.{◌≡◌, true, false, [], ◌∷◌, codes}
use Rattle.sh_tree.specs.declared.tree.Action.TheVariants as action
use Rattle.sh_tree.specs.declared.tree.ClauseEnd.TheVariants as clause
use Rattle.sh_tree.specs.declared.tree.Link.TheVariants as link
use Rattle.sh_tree.specs.declared.tree.LoopKind.TheVariants as loop
use Rattle.sh_tree.specs.declared.tree.Special.TheVariants as special
use Rattle.sh_tree.specs.examples.Program.{only, plain, simple, alone, lone}
use Rattle.sh_tree.specs.standard.program.Syntax.{Items, Variable, Positional, Special, Plain, Double, Expansion, Arithmetic, Substitution, Tilde, no_parts, more_parts, Value, Length, Use, Name, no_items, more_items, and_or, no_links, more_links, pipeline, no_commands, more_commands, command, Group, Subshell, Conditional, Loop, For, Case, Define, no_elements, assignment, operand, redirection, File, Here, no_redirects, more_redirects, no_branches, more_branches, no_else, else_of, every_parameter, listed, no_words, more_words, no_clauses, more_clauses}
use Rattle.sh_runs.specs.examples.Steps.{piece}
use Rattle.sh_domain.specs.Facts.{Unreached}
use Rattle.sh_domain.specs.declared.rule.FlowRule.TheVariants.{F1, F4, F5, F7, F8, F9, F10, F11, F12, F13, F14, F15}
use Rattle.sh_domain.specs.examples.Programs.{quoted, quoted_parameter, text, compound, known, dropping, row, function, Sheet, declared, Breaks, answers}

-- what the body of a loop leaves, taken as known after the loop
-- `for y in a "$@"; do shift; NL done; `, 2 positional parameters
abbrev pub loop_gains_program : Items
loop_gains_program =
    lone (compound 1 0 (For (codes "y") (listed (more_words (plain (codes "a")) (more_words (only (quoted_parameter 12 (Special special.At)))
    no_words))) (lone (simple 2 20 (text (codes "shift") no_elements)))))

abbrev pub loop_gains_sheet : Sheet
loop_gains_sheet =
    let a = known (codes "IFS OPTIND PPID") [] 2 in
    let b = known (codes "IFS OPTIND PPID y") [] 0 in
    let c = known (codes "IFS OPTIND PPID") [] 0 in
    record { commands = row a b b ∷ row b b b ∷ []; heads = (1, c) ∷ []; functions = [] }

-- what the body of a loop leaves, taken as known after the loop
-- `while read -r l; do echo "$l"; done`
abbrev pub loop_gains_again_program : Items
loop_gains_again_program =
    lone (compound 1 0 (Loop loop.While (lone (simple 2 6 (text (codes "read") (text (codes "-r") (text (codes "l") no_elements))))) (lone (simple 3
    20 (text (codes "echo") (operand (only (quoted 26 (codes "l"))) no_elements))))))

abbrev pub loop_gains_again_sheet : Sheet
loop_gains_again_sheet =
    let a = known (codes "IFS OPTIND PPID") [] 0 in
    let b = known (codes "IFS OPTIND PPID l") [] 0 in
    record { commands = row a b b ∷ row a b a ∷ row b b b ∷ []; heads = (1, a) ∷ []; functions = [] }

-- the names of `read`, taken as set if it fails
-- `x=1 read g g;`, x declared, y declared
abbrev pub failed_read_program : Items
failed_read_program =
    lone (simple 1 0 (assignment (codes "x") (plain (codes "1")) (text (codes "read") (text (codes "g") (text (codes "g") no_elements)))))

abbrev pub failed_read_sheet : Sheet
failed_read_sheet =
    let a = known (codes "IFS OPTIND PPID x y") [] 0 in
    let b = known (codes "IFS OPTIND PPID g x y") [] 0 in
    record { commands = row a b b ∷ []; heads = []; functions = [] }

-- the names of `read`, taken as set if it fails
-- `x=1 read g y; `, x declared, 2 positional parameters
abbrev pub failed_read_again_program : Items
failed_read_again_program =
    lone (simple 1 0 (assignment (codes "x") (plain (codes "1")) (text (codes "read") (text (codes "g") (text (codes "y") no_elements)))))

abbrev pub failed_read_again_sheet : Sheet
failed_read_again_sheet =
    let a = known (codes "IFS OPTIND PPID x") [] 2 in
    let b = known (codes "IFS OPTIND PPID g x y") [] 2 in
    record { commands = row a b b ∷ []; heads = []; functions = [] }

-- the name of a prefix assignment, taken as set after a call
-- `f() { echo "$x"; } NL x=1 f NL echo "$x"`
abbrev pub prefix_kept_program : Items
prefix_kept_program =
    alone (compound 1 0 (Define (codes "f") (compound 2 4 (Group (lone (simple 3 6 (text (codes "echo") (operand (only (quoted 12 (codes "x")))
    no_elements)))))))) (alone (simple 4 19 (assignment (codes "x") (plain (codes "1")) (text (codes "f") no_elements))) (lone (simple 5 25 (text
    (codes "echo") (operand (only (quoted 31 (codes "x"))) no_elements)))))

abbrev pub prefix_kept_sheet : Sheet
prefix_kept_sheet =
    let a = known (codes "IFS OPTIND PPID") [] 0 in
    let b = known (codes "IFS OPTIND PPID") (codes "f") 0 in
    let c = known (codes "IFS OPTIND PPID x") (codes "f") 0 in
    record {
      commands = row a b Unreached ∷ row c c c ∷ row c c c ∷ row b c c ∷ row c c c ∷ [];
      heads = [];
      functions = function (codes "f") c
          (dropping [] []) c c ∷ [];
    }

-- the name of a prefix assignment, taken as set after a call
-- `g() if cmd NL then NL ! g a 2>"$x" && x=$1 f NL fi NL x="$#" g NL echo "$x"`
abbrev pub prefix_kept_again_program : Items
prefix_kept_again_program =
    alone (compound 1 0 (Define (codes "g") (compound 2 4 (Conditional (more_branches (lone (simple 3 7 (text (codes "cmd") no_elements)))
    (more_items (and_or (pipeline true (more_commands (simple 4 18 (text (codes "g") (text (codes "a") (redirection (File (only (quoted 25
    (codes "x")))) no_elements)))) no_commands)) (more_links link.AndThen (piece (simple 5 32 (assignment (codes "x") (only (Expansion 34 (Positional
    1) Value)) (text (codes "f") no_elements)))) no_links)) false no_items) no_branches) no_else)))) (alone (simple 6 42 (assignment (codes "x")
    (only (quoted_parameter 45 (Special special.NumberSign))) (text (codes "g") no_elements))) (lone (simple 7 51 (text (codes "echo") (operand (only
    (quoted 57 (codes "x"))) no_elements)))))

abbrev pub prefix_kept_again_sheet : Sheet
prefix_kept_again_sheet =
    let a = known (codes "IFS OPTIND PPID") [] 0 in
    let b = known (codes "IFS OPTIND PPID") (codes "g") 0 in
    let c = known (codes "IFS OPTIND PPID x") (codes "g") 0 in
    record {
      commands = row a b Unreached ∷ row c c c ∷ row c c c ∷ row c c c ∷ row c c c ∷ row b c c ∷ row c c c ∷ [];
      heads = [];
      functions =
          function (codes "g") c (dropping [] []) c c ∷ [];
    }

-- what a function sets, taken as set though the function may be undefined
-- `if cd /; then f() { x=1; }; fi; f; echo "$x"`
abbrev pub maybe_defined_program : Items
maybe_defined_program =
    alone (compound 1 0 (Conditional (more_branches (lone (simple 2 3 (text (codes "cd") (text (codes "/") no_elements)))) (lone (compound 3 14
    (Define (codes "f") (compound 4 18 (Group (lone (simple 5 20 (assignment (codes "x") (plain (codes "1")) no_elements)))))))) no_branches)
    no_else)) (alone (simple 6 32 (text (codes "f") no_elements)) (lone (simple 7 35 (text (codes "echo") (operand (only (quoted 41 (codes "x")))
    no_elements)))))

abbrev pub maybe_defined_sheet : Sheet
maybe_defined_sheet =
    let a = known (codes "IFS OPTIND PPID") [] 0 in
    let b = known (codes "IFS OPTIND PPID") (codes "f") 0 in
    let c = known (codes "IFS OPTIND PPID x") [] 0 in
    record {
      commands = row a a Unreached ∷ row a a a ∷ row a b Unreached ∷ row a c c ∷ row a c c ∷ row a c c ∷ row c c c ∷ [];
      heads = [];
      functions
          = function (codes "f") a (dropping [] []) c c ∷ [];
    }

-- what a function sets, taken as set though the function may be undefined
-- `f() { NL ! x="${x-$x}" NL } NL ( NL x=1 read -r x || x=1 NL read() { NL f() { NL export x NL
-- } NL } NL x="$x" NL ) NL echo "$x"`, x declared
abbrev pub maybe_defined_again_program : Items
maybe_defined_again_program =
    alone (compound 1 0 (Define (codes "f") (compound 2 4 (Group (more_items (and_or (pipeline true (more_commands (simple 3 8 (assignment
    (codes "x") (only (Double (only (Expansion 11 (Variable (codes "x")) (Use action.Default false (only (Expansion 15 (Variable (codes "x"))
    Value))))))) no_elements)) no_commands)) no_links) false no_items))))) (alone (compound 4 22 (Subshell (more_items (and_or (piece (simple 5 24
    (assignment (codes "x") (plain (codes "1")) (text (codes "read") (text (codes "-r") (text (codes "x") no_elements)))))) (more_links link.OrElse
    (piece (simple 6 41 (assignment (codes "x") (plain (codes "1")) no_elements))) no_links)) false (alone (compound 7 45 (Define (codes "read")
    (compound 8 52 (Group (lone (compound 9 54 (Define (codes "f") (compound 10 58 (Group (lone (simple 11 60 (text (codes "export") (text
    (codes "x") no_elements))))))))))))) (lone (simple 12 73 (assignment (codes "x") (only (quoted 76 (codes "x"))) no_elements))))))) (lone (simple
    13 82 (text (codes "echo") (operand (only (quoted 88 (codes "x"))) no_elements)))))

abbrev pub maybe_defined_again_sheet : Sheet
maybe_defined_again_sheet =
    let a = known (codes "IFS OPTIND PPID x") [] 0 in
    let b = known (codes "IFS OPTIND PPID x") (codes "f") 0 in
    let c = known (codes "IFS OPTIND PPID x") (codes "f read") 0 in
    let d = known (codes "IFS OPTIND PPID x") (codes "f") 2 in
    record {
      commands = row a b Unreached ∷ row Unreached Unreached Unreached ∷ row Unreached Unreached Unreached ∷ row b b b ∷ row b b Unreached ∷
          row Unreached Unreached Unreached ∷ row b c Unreached ∷ row d d Unreached ∷ row d d Unreached ∷ row Unreached Unreached Unreached ∷ row Unreached
          Unreached Unreached ∷ row c c c ∷ row b b b ∷ [];
      heads = [];
      functions = function (codes "f") Unreached (dropping [] []) Unreached Unreached ∷
          function (codes "read") d (dropping [] []) d Unreached ∷ [];
    }

-- what a substitution sets, taken as set outside
-- `: "$(echo "${x?}")"; echo "$x"`
abbrev pub substitution_gains_program : Items
substitution_gains_program =
    alone (simple 1 0 (text (codes ":") (operand (only (Double (only (Substitution 3 (lone (simple 2 5 (text (codes "echo") (operand (only (Double
    (only (Expansion 11 (Variable (codes "x")) (Use action.Fault false no_parts))))) no_elements)))))))) no_elements))) (lone (simple 3 21 (text
    (codes "echo") (operand (only (quoted 27 (codes "x"))) no_elements))))

abbrev pub substitution_gains_sheet : Sheet
substitution_gains_sheet =
    let a = known (codes "IFS OPTIND PPID") [] 0 in
    let b = known (codes "IFS OPTIND PPID x") [] 0 in
    record { commands = row a b Unreached ∷ row a b b ∷ row b b b ∷ []; heads = []; functions = [] }

-- what is known at `break`, not counted after the loop
-- `while :; do break; done; echo "$x"`
abbrev pub break_forgotten_program : Items
break_forgotten_program =
    alone (compound 1 0 (Loop loop.While (lone (simple 2 6 (text (codes ":") no_elements))) (lone (simple 3 12 (text (codes "break") no_elements)))))
    (lone (simple 4 25 (text (codes "echo") (operand (only (quoted 31 (codes "x"))) no_elements))))

abbrev pub break_forgotten_sheet : Sheet
break_forgotten_sheet =
    let a = known (codes "IFS OPTIND PPID") [] 0 in
    record {
      commands = row a Unreached Unreached ∷ row a a Unreached ∷ row a Unreached Unreached ∷ row Unreached Unreached Unreached ∷ [];
      heads =
          (1, a) ∷ [];
      functions = [];
    }

-- what is known at `break`, not counted after the loop
-- `f() { while :; do break 2; done; }; for i in a; do f; done; echo "$1"`, 1 positional parameter
abbrev pub break_forgotten_again_program : Items
break_forgotten_again_program =
    alone (compound 1 0 (Define (codes "f") (compound 2 4 (Group (lone (compound 3 6 (Loop loop.While (lone (simple 4 12 (text (codes ":")
    no_elements))) (lone (simple 5 18 (text (codes "break") (text (codes "2") no_elements))))))))))) (alone (compound 6 36 (For (codes "i") (listed
    (more_words (plain (codes "a")) no_words)) (lone (simple 7 51 (text (codes "f") no_elements))))) (lone (simple 8 60 (text (codes "echo") (operand
    (only (quoted_parameter 66 (Positional 1))) no_elements)))))

abbrev pub break_forgotten_again_sheet : Sheet
break_forgotten_again_sheet =
    let a = known (codes "IFS OPTIND PPID") [] 1 in
    let b = known (codes "IFS OPTIND PPID") (codes "f") 1 in
    let c = known (codes "IFS OPTIND PPID i") (codes "f") 0 in
    let d = known (codes "IFS OPTIND PPID i") (codes "f") 1 in
    record {
      commands = row a b Unreached ∷ row c Unreached Unreached ∷ row c Unreached Unreached ∷ row c c Unreached ∷ row c Unreached Unreached ∷
          row b b b ∷ row d Unreached Unreached ∷ row b b b ∷ [];
      heads = (3, c) ∷ (6, b) ∷ [];
      functions = function (codes "f") c (dropping [] [])
          Unreached Unreached ∷ [];
    }

-- a function, taken as defined after `unset` of its name
-- `f() ( NL unset -f g NL ) NL g() ( NL export x="$x" NL ) NL unset f NL { NL unset -f f NL
-- unset -v x NL cmd NL } NL echo "${#y}"`, 1 positional parameter
abbrev pub function_kept_program : Items
function_kept_program =
    alone (compound 1 0 (Define (codes "f") (compound 2 4 (Subshell (lone (simple 3 6 (text (codes "unset") (text (codes "-f") (text (codes "g")
    no_elements))))))))) (alone (compound 4 19 (Define (codes "g") (compound 5 23 (Subshell (lone (simple 6 25 (text (codes "export") (operand
    (more_parts (Plain (codes "x=")) (only (quoted 35 (codes "x")))) no_elements)))))))) (alone (simple 7 41 (text (codes "unset") (text (codes "f")
    no_elements))) (alone (compound 8 49 (Group (alone (simple 9 51 (text (codes "unset") (text (codes "-f") (text (codes "f") no_elements)))) (alone
    (simple 10 62 (text (codes "unset") (text (codes "-v") (text (codes "x") no_elements)))) (lone (simple 11 73 (text (codes "cmd")
    no_elements))))))) (lone (simple 12 79 (text (codes "echo") (operand (only (Double (only (Expansion 85 (Variable (codes "y")) Length))))
    no_elements)))))))

abbrev pub function_kept_sheet : Sheet
function_kept_sheet =
    let a = known (codes "IFS OPTIND PPID") [] 1 in
    let b = known (codes "IFS OPTIND PPID") (codes "f") 1 in
    let c = known (codes "IFS OPTIND PPID") (codes "f g") 1 in
    let d = known (codes "IFS OPTIND PPID") (codes "g") 1 in
    record {
      commands = row a b Unreached ∷ row Unreached Unreached Unreached ∷ row Unreached Unreached Unreached ∷ row b c Unreached ∷ row Unreached
          Unreached Unreached ∷ row Unreached Unreached Unreached ∷ row c c c ∷ row c d d ∷ row c d d ∷ row d d d ∷ row d d d ∷ row d d d ∷ [];
      heads = [];
      functions = function (codes "f") Unreached (dropping [] []) Unreached Unreached ∷ function (codes "g") Unreached (dropping [] []) Unreached
          Unreached ∷ [];
    }

-- a function, taken as defined after `unset` of its name
-- `f() { NL ! f a NL } NL if cmd NL then NL unset y f && unset x NL exit 1 NL echo "$x" NL else NL
-- echo $# "$y" NL fi NL echo "$1" "$2"`, x declared, 1 positional parameter
abbrev pub function_kept_again_program : Items
function_kept_again_program =
    alone (compound 1 0 (Define (codes "f") (compound 2 4 (Group (more_items (and_or (pipeline true (more_commands (simple 3 8 (text (codes "f")
    (text (codes "a") no_elements))) no_commands)) no_links) false no_items))))) (alone (compound 4 14 (Conditional (more_branches (lone (simple 5 17
    (text (codes "cmd") no_elements))) (more_items (and_or (piece (simple 6 26 (text (codes "unset") (text (codes "y") (text (codes "f")
    no_elements))))) (more_links link.AndThen (piece (simple 7 39 (text (codes "unset") (text (codes "x") no_elements)))) no_links)) false (alone
    (simple 8 47 (text (codes "exit") (text (codes "1") no_elements))) (lone (simple 9 54 (text (codes "echo") (operand (only (quoted 60
    (codes "x"))) no_elements)))))) no_branches) (else_of (lone (simple 10 69 (text (codes "echo") (operand (only (Expansion 74 (Special
    special.NumberSign) Value)) (operand (only (quoted 78 (codes "y"))) no_elements)))))))) (lone (simple 11 85 (text (codes "echo") (operand (only
    (quoted_parameter 91 (Positional 1))) (operand (only (quoted_parameter 96 (Positional 2))) no_elements))))))

abbrev pub function_kept_again_sheet : Sheet
function_kept_again_sheet =
    let a = known (codes "IFS OPTIND PPID x") [] 1 in
    let b = known (codes "IFS OPTIND PPID x") (codes "f") 1 in
    let c = known (codes "IFS OPTIND PPID") (codes "f") 1 in
    record {
      commands = row a b Unreached ∷ row Unreached Unreached Unreached ∷ row Unreached Unreached Unreached ∷ row b b b ∷ row b b b ∷ row b b b
          ∷ row b c c ∷ row c Unreached Unreached ∷ row Unreached Unreached Unreached ∷ row b b b ∷ row b b b ∷ [];
      heads = [];
      functions = function
          (codes "f") Unreached (dropping [] []) Unreached Unreached ∷ [];
    }

-- a script, taken as never entered
-- `i`
abbrev pub never_entered_program : Items
never_entered_program =
    lone (simple 1 0 (text (codes "i") no_elements))

abbrev pub never_entered_sheet : Sheet
never_entered_sheet =
    record { commands = row Unreached Unreached Unreached ∷ []; heads = []; functions = [] }

-- what a subshell sets, taken as set outside
-- `f() { NL h() if cmd NL then NL y=~ NL fi NL } NL h() { NL echo "$x" NL } NL : "$z" & NL x=1 g NL
-- ( NL HOME=1 NL ) & NL echo "${#HOME}"`, x declared
abbrev pub subshell_changes_program : Items
subshell_changes_program =
    alone (compound 1 0 (Define (codes "f") (compound 2 4 (Group (lone (compound 3 6 (Define (codes "h") (compound 4 10 (Conditional (more_branches
    (lone (simple 5 13 (text (codes "cmd") no_elements))) (lone (simple 6 22 (assignment (codes "y") (only (Tilde 24 [])) no_elements))) no_branches)
    no_else))))))))) (alone (compound 7 31 (Define (codes "h") (compound 8 35 (Group (lone (simple 9 37 (text (codes "echo") (operand (only (quoted
    43 (codes "x"))) no_elements)))))))) (more_items (and_or (piece (simple 10 49 (text (codes ":") (operand (only (quoted 52 (codes "z")))
    no_elements)))) no_links) true (alone (simple 11 58 (assignment (codes "x") (plain (codes "1")) (text (codes "g") no_elements))) (more_items
    (and_or (piece (compound 12 64 (Subshell (lone (simple 13 66 (assignment (codes "HOME") (plain (codes "1")) no_elements)))))) no_links) true
    (lone (simple 14 77 (text (codes "echo") (operand (only (Double (only (Expansion 83 (Variable (codes "HOME")) Length)))) no_elements))))))))

abbrev pub subshell_changes_sheet : Sheet
subshell_changes_sheet =
    let a = known (codes "IFS OPTIND PPID x") [] 0 in
    let b = known (codes "IFS OPTIND PPID x") (codes "f") 0 in
    let c = known (codes "IFS OPTIND PPID x") (codes "f h") 0 in
    let d = known (codes "! IFS OPTIND PPID x") (codes "f h") 0 in
    let g = known (codes "HOME IFS OPTIND PPID x") (codes "f h") 0 in
    record {
      commands = row a b Unreached ∷ row Unreached Unreached Unreached ∷ row Unreached Unreached Unreached ∷ row Unreached Unreached Unreached
          ∷ row Unreached Unreached Unreached ∷ row Unreached Unreached Unreached ∷ row b c Unreached ∷ row Unreached Unreached Unreached ∷ row Unreached
          Unreached Unreached ∷ row c c Unreached ∷ row d d d ∷ row c g g ∷ row c g g ∷ row d d d ∷ [];
      heads = [];
      functions = function (codes "f")
          Unreached (dropping [] []) Unreached Unreached ∷ function (codes "h") Unreached (dropping [] []) Unreached Unreached ∷ [];
    }

-- what a subshell sets, taken as set outside
-- `f() { NL ! x="${x-$x}" NL } NL ( NL x=1 read -r x || x=1 NL read() { NL f() { NL export x NL
-- } NL } NL x="$x" NL ) NL echo "$x"`, x declared
abbrev pub subshell_changes_again_program : Items
subshell_changes_again_program =
    alone (compound 1 0 (Define (codes "f") (compound 2 4 (Group (more_items (and_or (pipeline true (more_commands (simple 3 8 (assignment
    (codes "x") (only (Double (only (Expansion 11 (Variable (codes "x")) (Use action.Default false (only (Expansion 15 (Variable (codes "x"))
    Value))))))) no_elements)) no_commands)) no_links) false no_items))))) (alone (compound 4 22 (Subshell (more_items (and_or (piece (simple 5 24
    (assignment (codes "x") (plain (codes "1")) (text (codes "read") (text (codes "-r") (text (codes "x") no_elements)))))) (more_links link.OrElse
    (piece (simple 6 41 (assignment (codes "x") (plain (codes "1")) no_elements))) no_links)) false (alone (compound 7 45 (Define (codes "read")
    (compound 8 52 (Group (lone (compound 9 54 (Define (codes "f") (compound 10 58 (Group (lone (simple 11 60 (text (codes "export") (text
    (codes "x") no_elements))))))))))))) (lone (simple 12 73 (assignment (codes "x") (only (quoted 76 (codes "x"))) no_elements))))))) (lone (simple
    13 82 (text (codes "echo") (operand (only (quoted 88 (codes "x"))) no_elements)))))

abbrev pub subshell_changes_again_sheet : Sheet
subshell_changes_again_sheet =
    let a = known (codes "IFS OPTIND PPID x") [] 0 in
    let b = known (codes "IFS OPTIND PPID x") (codes "f") 0 in
    let c = known (codes "IFS OPTIND PPID x") (codes "f read") 0 in
    let d = known (codes "IFS OPTIND PPID x") (codes "f") 2 in
    record {
      commands = row a b Unreached ∷ row Unreached Unreached Unreached ∷ row Unreached Unreached Unreached ∷ row b c c ∷ row b b b ∷ row b b b
          ∷ row b c Unreached ∷ row d d Unreached ∷ row d d Unreached ∷ row Unreached Unreached Unreached ∷ row Unreached Unreached Unreached ∷ row c c c ∷
          row c c c ∷ [];
      heads = [];
      functions = function (codes "f") Unreached (dropping [] []) Unreached Unreached ∷ function (codes "read") d (dropping
          [] []) d Unreached ∷ [];
    }

-- the positional parameters of a function, taken for those of the caller
-- `f() { NL : NL } NL f "a$@" a NL f() { NL set -- a NL } NL echo "$x"`, x declared
abbrev pub parameters_of_callee_program : Items
parameters_of_callee_program =
    alone (compound 1 0 (Define (codes "f") (compound 2 4 (Group (lone (simple 3 6 (text (codes ":") no_elements))))))) (alone (simple 4 10 (text
    (codes "f") (operand (only (Double (more_parts (Plain (codes "a")) (only (Expansion 14 (Special special.At) Value))))) (text (codes "a")
    no_elements)))) (alone (compound 5 20 (Define (codes "f") (compound 6 24 (Group (lone (simple 7 26 (text (codes "set") (text (codes "--") (text
    (codes "a") no_elements))))))))) (lone (simple 8 37 (text (codes "echo") (operand (only (quoted 43 (codes "x"))) no_elements))))))

abbrev pub parameters_of_callee_sheet : Sheet
parameters_of_callee_sheet =
    let a = known (codes "IFS OPTIND PPID x") [] 0 in
    let b = known (codes "IFS OPTIND PPID x") (codes "f") 0 in
    let c = known (codes "IFS OPTIND PPID x") (codes "f") 1 in
    record {
      commands = row a b Unreached ∷ row c c Unreached ∷ row c c Unreached ∷ row b c c ∷ row c c Unreached ∷ row c c c ∷ row c c c ∷ row c c c
          ∷ [];
      heads = [];
      functions = function (codes "f") c (dropping [] []) c c ∷ [];
    }

-- the positional parameters of a function, taken for those of the caller
-- `read() { NL echo $# "$!" NL } NL echo $((x)) NL echo "$x" && read -r x || { NL x= NL } NL
-- echo "$x"`, x declared
abbrev pub parameters_of_callee_again_program : Items
parameters_of_callee_again_program =
    alone (compound 1 0 (Define (codes "read") (compound 2 7 (Group (lone (simple 3 9 (text (codes "echo") (operand (only (Expansion 14 (Special
    special.NumberSign) Value)) (operand (only (quoted_parameter 18 (Special special.Exclamation))) no_elements))))))))) (alone (simple 4 24 (text
    (codes "echo") (operand (only (Arithmetic 29 (Name 32 (codes "x")))) no_elements))) (more_items (and_or (piece (simple 5 36 (text (codes "echo")
    (operand (only (quoted 42 (codes "x"))) no_elements)))) (more_links link.AndThen (piece (simple 6 49 (text (codes "read") (text (codes "-r")
    (text (codes "x") no_elements))))) (more_links link.OrElse (piece (compound 7 62 (Group (lone (simple 8 64 (assignment (codes "x") no_parts
    no_elements)))))) no_links))) false (lone (simple 9 69 (text (codes "echo") (operand (only (quoted 75 (codes "x"))) no_elements))))))

abbrev pub parameters_of_callee_again_sheet : Sheet
parameters_of_callee_again_sheet =
    let a = known (codes "IFS OPTIND PPID x") [] 0 in
    let b = known (codes "IFS OPTIND PPID x") (codes "read") 0 in
    let c = known (codes "IFS OPTIND PPID x") (codes "read") 2 in
    record {
      commands = row a b Unreached ∷ row c c c ∷ row c c c ∷ row b b b ∷ row b b b ∷ row b c c ∷ row b b b ∷ row b b b ∷ row b b b ∷ [];
      heads
          = [];
      functions = function (codes "read") c (dropping [] []) c c ∷ [];
    }

-- what a redirection without a command name sets, taken as set
-- `>"${x=f}"; echo "$x"`
abbrev pub redirection_counted_program : Items
redirection_counted_program =
    alone (simple 1 0 (redirection (File (only (Double (only (Expansion 2 (Variable (codes "x")) (Use action.Assign false (plain (codes "f"))))))))
    no_elements)) (lone (simple 2 11 (text (codes "echo") (operand (only (quoted 17 (codes "x"))) no_elements))))

abbrev pub redirection_counted_sheet : Sheet
redirection_counted_sheet =
    let a = known (codes "IFS OPTIND PPID") [] 0 in
    let b = known (codes "IFS OPTIND PPID x") [] 0 in
    record { commands = row a b a ∷ row a a a ∷ []; heads = []; functions = [] }

-- a clause without a list, taken as zero
-- `false; case a in *) ;; esac || echo "$x"`
abbrev pub empty_clause_program : Items
empty_clause_program =
    alone (simple 1 0 (text (codes "false") no_elements)) (more_items (and_or (piece (compound 2 7 (Case (plain (codes "a")) (more_clauses
    (more_words (plain (codes "*")) no_words) no_items clause.Break no_clauses)))) (more_links link.OrElse (piece (simple 3 31 (text (codes "echo")
    (operand (only (quoted 37 (codes "x"))) no_elements)))) no_links)) false no_items)

abbrev pub empty_clause_sheet : Sheet
empty_clause_sheet =
    let a = known (codes "IFS OPTIND PPID") [] 0 in
    record { commands = row a Unreached a ∷ row a a Unreached ∷ row Unreached Unreached Unreached ∷ []; heads = []; functions = [] }

-- a clause without a list, taken as zero
-- `f() ( NL cat <<E >"$x" NL $x NL E NL ) NL g() { NL unset -v x NL } NL ! case "$x" in NL
-- (* | "$x") NL ;; NL esac && unset y NL echo "$x"`, x declared, 1 positional parameter
abbrev pub empty_clause_again_program : Items
empty_clause_again_program =
    alone (compound 1 0 (Define (codes "f") (compound 2 4 (Subshell (lone (simple 3 6 (text (codes "cat") (redirection (Here (more_parts (Expansion
    20 (Variable (codes "x")) Value) (plain (codes "\n")))) (redirection (File (only (quoted 16 (codes "x")))) no_elements))))))))) (alone (compound
    4 27 (Define (codes "g") (compound 5 31 (Group (lone (simple 6 33 (text (codes "unset") (text (codes "-v") (text (codes "x") no_elements)))))))))
    (more_items (and_or (pipeline true (more_commands (compound 7 48 (Case (only (quoted 54 (codes "x"))) (more_clauses (more_words (plain
    (codes "*")) (more_words (only (quoted 67 (codes "x"))) no_words)) no_items clause.Break no_clauses))) no_commands)) (more_links link.AndThen
    (piece (simple 8 83 (text (codes "unset") (text (codes "y") no_elements)))) no_links)) false (lone (simple 9 91 (text (codes "echo") (operand
    (only (quoted 97 (codes "x"))) no_elements))))))

abbrev pub empty_clause_again_sheet : Sheet
empty_clause_again_sheet =
    let a = known (codes "IFS OPTIND PPID x") [] 1 in
    let b = known (codes "IFS OPTIND PPID x") (codes "f") 1 in
    let c = known (codes "IFS OPTIND PPID x") (codes "f g") 1 in
    record {
      commands = row a b Unreached ∷ row Unreached Unreached Unreached ∷ row Unreached Unreached Unreached ∷ row b c Unreached ∷ row Unreached
          Unreached Unreached ∷ row Unreached Unreached Unreached ∷ row c c Unreached ∷ row Unreached Unreached Unreached ∷ row c c c ∷ [];
      heads = [];
      functions = function (codes "f") Unreached (dropping [] []) Unreached Unreached ∷ function (codes "g") Unreached (dropping [] []) Unreached
          Unreached ∷ [];
    }

-- `!`, taken as set in a process that is started
-- `( y w; NL )& NL cd /; NL set a "$@"; getopts ab x || x=1 read x IFS | export x=${IFS?};`, x
-- declared, 2 positional parameters
abbrev pub job_in_process_program : Items
job_in_process_program =
    more_items (and_or (piece (compound 1 0 (Subshell (lone (simple 2 2 (text (codes "y") (text (codes "w") no_elements))))))) no_links) true (alone
    (simple 3 10 (text (codes "cd") (text (codes "/") no_elements))) (alone (simple 4 16 (text (codes "set") (text (codes "a") (operand (only
    (quoted_parameter 23 (Special special.At))) no_elements)))) (more_items (and_or (piece (simple 5 28 (text (codes "getopts") (text (codes "ab")
    (text (codes "x") no_elements))))) (more_links link.OrElse (pipeline false (more_commands (simple 6 44 (assignment (codes "x") (plain
    (codes "1")) (text (codes "read") (text (codes "x") (text (codes "IFS") no_elements))))) (more_commands (simple 7 61 (text (codes "export")
    (operand (more_parts (Plain (codes "x=")) (only (Expansion 70 (Variable (codes "IFS")) (Use action.Fault false no_parts)))) no_elements)))
    no_commands))) no_links)) false no_items)))

abbrev pub job_in_process_sheet : Sheet
job_in_process_sheet =
    let a = known (codes "IFS OPTIND PPID x") [] 2 in
    let b = known (codes "! IFS OPTIND PPID x") [] 2 in
    let c = known (codes "! IFS OPTIND PPID x") [] 3 in
    record { commands = row a a a ∷ row a a a ∷ row b b b ∷ row b c b ∷ row b b b ∷ row b b b ∷ row b b b ∷ []; heads = []; functions = [] }

-- `!`, taken as set in a process that is started
-- `f() { NL h() if cmd NL then NL y=~ NL fi NL } NL h() { NL echo "$x" NL } NL : "$z" & NL x=1 g NL
-- ( NL HOME=1 NL ) & NL echo "${#HOME}"`, x declared
abbrev pub job_in_process_again_program : Items
job_in_process_again_program =
    alone (compound 1 0 (Define (codes "f") (compound 2 4 (Group (lone (compound 3 6 (Define (codes "h") (compound 4 10 (Conditional (more_branches
    (lone (simple 5 13 (text (codes "cmd") no_elements))) (lone (simple 6 22 (assignment (codes "y") (only (Tilde 24 [])) no_elements))) no_branches)
    no_else))))))))) (alone (compound 7 31 (Define (codes "h") (compound 8 35 (Group (lone (simple 9 37 (text (codes "echo") (operand (only (quoted
    43 (codes "x"))) no_elements)))))))) (more_items (and_or (piece (simple 10 49 (text (codes ":") (operand (only (quoted 52 (codes "z")))
    no_elements)))) no_links) true (alone (simple 11 58 (assignment (codes "x") (plain (codes "1")) (text (codes "g") no_elements))) (more_items
    (and_or (piece (compound 12 64 (Subshell (lone (simple 13 66 (assignment (codes "HOME") (plain (codes "1")) no_elements)))))) no_links) true
    (lone (simple 14 77 (text (codes "echo") (operand (only (Double (only (Expansion 83 (Variable (codes "HOME")) Length)))) no_elements))))))))

abbrev pub job_in_process_again_sheet : Sheet
job_in_process_again_sheet =
    let a = known (codes "IFS OPTIND PPID x") [] 0 in
    let b = known (codes "IFS OPTIND PPID x") (codes "f") 0 in
    let c = known (codes "IFS OPTIND PPID x") (codes "f h") 0 in
    let d = known (codes "! IFS OPTIND PPID x") (codes "f h") 0 in
    let g = known (codes "! HOME IFS OPTIND PPID x") (codes "f h") 0 in
    record {
      commands = row a b Unreached ∷ row Unreached Unreached Unreached ∷ row Unreached Unreached Unreached ∷ row Unreached Unreached Unreached
          ∷ row Unreached Unreached Unreached ∷ row Unreached Unreached Unreached ∷ row b c Unreached ∷ row Unreached Unreached Unreached ∷ row Unreached
          Unreached Unreached ∷ row c c Unreached ∷ row d d d ∷ row d d d ∷ row d g g ∷ row d d d ∷ [];
      heads = [];
      functions = function (codes "f")
          Unreached (dropping [] []) Unreached Unreached ∷ function (codes "h") Unreached (dropping [] []) Unreached Unreached ∷ [];
    }

-- a failed redirection of a compound command, not counted
-- `! for x do exec a; done >"${y=f}"; `
abbrev pub failed_redirection_program : Items
failed_redirection_program =
    more_items (and_or (pipeline true (more_commands (command 1 2 (For (codes "x") every_parameter (lone (simple 2 11 (text (codes "exec") (text
    (codes "a") no_elements))))) (more_redirects (File (only (Double (only (Expansion 26 (Variable (codes "y")) (Use action.Assign false (plain
    (codes "f")))))))) no_redirects)) no_commands)) no_links) false no_items

abbrev pub failed_redirection_sheet : Sheet
failed_redirection_sheet =
    let a = known (codes "IFS OPTIND PPID") [] 0 in
    let b = known (codes "IFS OPTIND PPID y") [] 0 in
    let c = known (codes "IFS OPTIND PPID x y") [] 0 in
    record { commands = row a b b ∷ row c Unreached c ∷ []; heads = (1, b) ∷ []; functions = [] }

-- what is known where a function returns, taken as known if a redirection of its call failed
-- `f() { x=1; false; }; f >a`
abbrev pub failed_call_program : Items
failed_call_program =
    alone (compound 1 0 (Define (codes "f") (compound 2 4 (Group (alone (simple 3 6 (assignment (codes "x") (plain (codes "1")) no_elements)) (lone
    (simple 4 11 (text (codes "false") no_elements)))))))) (lone (simple 5 21 (text (codes "f") (redirection (File (plain (codes "a")))
    no_elements))))

abbrev pub failed_call_sheet : Sheet
failed_call_sheet =
    let a = known (codes "IFS OPTIND PPID") [] 0 in
    let b = known (codes "IFS OPTIND PPID") (codes "f") 0 in
    let c = known (codes "IFS OPTIND PPID x") (codes "f") 0 in
    record {
      commands = row a b Unreached ∷ row b Unreached c ∷ row b c c ∷ row c Unreached c ∷ row b Unreached c ∷ [];
      heads = [];
      functions = function (codes "f") b (dropping [] []) Unreached c ∷ [];
    }

-- a failed redirection of a compound command, not counted
-- `for x do export f; read -r g >"${y=f}"; done && if ! g "in"& then unset -f f <"$x"; NL
-- fi >"${y=f}"; ! false;`, x declared
abbrev pub failed_redirection_again_program : Items
failed_redirection_again_program =
    more_items (and_or (piece (compound 1 0 (For (codes "x") every_parameter (alone (simple 2 9 (text (codes "export") (text (codes "f")
    no_elements))) (lone (simple 3 19 (text (codes "read") (text (codes "-r") (text (codes "g") (redirection (File (only (Double (only (Expansion 31
    (Variable (codes "y")) (Use action.Assign false (plain (codes "f")))))))) no_elements)))))))))) (more_links link.AndThen (piece (command 4 48
    (Conditional (more_branches (more_items (and_or (pipeline true (more_commands (simple 5 53 (text (codes "g") (operand (only (Double (plain
    (codes "in")))) no_elements))) no_commands)) no_links) true no_items) (lone (simple 6 66 (text (codes "unset") (text (codes "-f") (text
    (codes "f") (redirection (File (only (quoted 79 (codes "x")))) no_elements)))))) no_branches) no_else) (more_redirects (File (only (Double (only
    (Expansion 89 (Variable (codes "y")) (Use action.Assign false (plain (codes "f")))))))) no_redirects))) no_links)) false (more_items (and_or
    (pipeline true (more_commands (simple 7 100 (text (codes "false") no_elements)) no_commands)) no_links) false no_items)

abbrev pub failed_redirection_again_sheet : Sheet
failed_redirection_again_sheet =
    let a = known (codes "IFS OPTIND PPID x") [] 0 in
    let b = known (codes "IFS OPTIND PPID g x") [] 0 in
    let c = known (codes "! IFS OPTIND PPID x y") [] 0 in
    let d = known (codes "IFS OPTIND PPID x y") [] 0 in
    record {
      commands = row a a a ∷ row a a a ∷ row a b a ∷ row a c c ∷ row d d d ∷ row c c c ∷ row a Unreached a ∷ [];
      heads = (1, a) ∷ [];
      functions = [];
    }

-- what a function drops, not counted
-- `x=1; f() { unset x; }; f; echo "$x"`
abbrev pub drops_forgotten_program : Items
drops_forgotten_program =
    alone (simple 1 0 (assignment (codes "x") (plain (codes "1")) no_elements)) (alone (compound 2 5 (Define (codes "f") (compound 3 9 (Group (lone
    (simple 4 11 (text (codes "unset") (text (codes "x") no_elements)))))))) (alone (simple 5 23 (text (codes "f") no_elements)) (lone (simple 6 26
    (text (codes "echo") (operand (only (quoted 32 (codes "x"))) no_elements))))))

abbrev pub drops_forgotten_sheet : Sheet
drops_forgotten_sheet =
    let a = known (codes "IFS OPTIND PPID") [] 0 in
    let b = known (codes "IFS OPTIND PPID x") [] 0 in
    let c = known (codes "IFS OPTIND PPID x") (codes "f") 0 in
    let d = known (codes "IFS OPTIND PPID") (codes "f") 0 in
    record {
      commands = row a b b ∷ row b c Unreached ∷ row c d d ∷ row c d d ∷ row c c c ∷ row c c c ∷ [];
      heads = [];
      functions = function
          (codes "f") c (dropping [] []) d d ∷ [];
    }

-- what a function drops, not counted
-- `{ f() { unset x; }; f; } | cat`, x declared
abbrev pub drops_forgotten_again_program : Items
drops_forgotten_again_program =
    more_items (and_or (pipeline false (more_commands (compound 1 0 (Group (alone (compound 2 2 (Define (codes "f") (compound 3 6 (Group (lone
    (simple 4 8 (text (codes "unset") (text (codes "x") no_elements)))))))) (lone (simple 5 20 (text (codes "f") no_elements)))))) (more_commands
    (simple 6 27 (text (codes "cat") no_elements)) no_commands))) no_links) false no_items

abbrev pub drops_forgotten_again_sheet : Sheet
drops_forgotten_again_sheet =
    let a = known (codes "IFS OPTIND PPID x") [] 0 in
    let b = known (codes "IFS OPTIND PPID x") (codes "f") 0 in
    let c = known (codes "IFS OPTIND PPID") (codes "f") 0 in
    record {
      commands = row a b b ∷ row a b Unreached ∷ row b c c ∷ row b c c ∷ row b b b ∷ row a a a ∷ [];
      heads = [];
      functions = function
          (codes "f") b (dropping [] []) c c ∷ [];
    }

pub record ForgedScriptsAsExpected : Type 0 where
  pub loop_gains :
      answers (declared [] 2) loop_gains_program loop_gains_sheet ([])
      ≡ Breaks 1 F8 ∷ []
  pub loop_gains_again :
      answers (declared [] 0) loop_gains_again_program loop_gains_again_sheet ([])
      ≡ Breaks 1 F7 ∷ []
  pub failed_read :
      answers (declared (codes "x y") 0) failed_read_program failed_read_sheet ([])
      ≡ Breaks 1 F4 ∷ []
  pub failed_read_again :
      answers (declared (codes "x") 2) failed_read_again_program failed_read_again_sheet ([])
      ≡ Breaks 1 F4 ∷ []
  pub prefix_kept :
      answers (declared [] 0) prefix_kept_program prefix_kept_sheet ([])
      ≡ Breaks 4 F14 ∷ []
  pub prefix_kept_again :
      answers (declared [] 0) prefix_kept_again_program prefix_kept_again_sheet ([])
      ≡ Breaks 6 F14 ∷ []
  pub maybe_defined :
      answers (declared [] 0) maybe_defined_program maybe_defined_sheet ([])
      ≡ Breaks 6 F14 ∷ []
  pub maybe_defined_again :
      answers (declared (codes "x") 0) maybe_defined_again_program maybe_defined_again_sheet ([])
      ≡ Breaks 5 F14 ∷ []
  pub substitution_gains :
      answers (declared [] 0) substitution_gains_program substitution_gains_sheet ([])
      ≡ Breaks 1 F4 ∷ []
  pub break_forgotten :
      answers (declared [] 0) break_forgotten_program break_forgotten_sheet ([])
      ≡ Breaks 3 F15 ∷ []
  pub break_forgotten_again :
      answers (declared [] 1) break_forgotten_again_program break_forgotten_again_sheet ([])
      ≡ Breaks 5 F15 ∷ []
  pub function_kept :
      answers (declared [] 1) function_kept_program function_kept_sheet ([])
      ≡ Breaks 7 F4 ∷ []
  pub function_kept_again :
      answers (declared (codes "x") 1) function_kept_again_program function_kept_again_sheet ([])
      ≡ Breaks 6 F4 ∷ []
  pub never_entered :
      answers (declared [] 0) never_entered_program never_entered_sheet ([])
      ≡ Breaks 1 F1 ∷ []
  pub subshell_changes :
      answers (declared (codes "x") 0) subshell_changes_program subshell_changes_sheet ([])
      ≡ Breaks 12 F11 ∷ []
  pub subshell_changes_again :
      answers (declared (codes "x") 0) subshell_changes_again_program subshell_changes_again_sheet ([])
      ≡ Breaks 4 F11 ∷ []
  pub parameters_of_callee :
      answers (declared (codes "x") 0) parameters_of_callee_program parameters_of_callee_sheet ([])
      ≡ Breaks 4 F14 ∷ []
  pub parameters_of_callee_again :
      answers (declared (codes "x") 0) parameters_of_callee_again_program parameters_of_callee_again_sheet ([])
      ≡ Breaks 6 F14 ∷ []
  pub redirection_counted :
      answers (declared [] 0) redirection_counted_program redirection_counted_sheet ([])
      ≡ Breaks 1 F5 ∷ []
  pub empty_clause :
      answers (declared [] 0) empty_clause_program empty_clause_sheet ([])
      ≡ Breaks 2 F9 ∷ []
  pub empty_clause_again :
      answers (declared (codes "x") 1) empty_clause_again_program empty_clause_again_sheet ([])
      ≡ Breaks 7 F9 ∷ []
  pub job_in_process :
      answers (declared (codes "x") 2) job_in_process_program job_in_process_sheet ([])
      ≡ Breaks 6 F12 ∷ []
  pub job_in_process_again :
      answers (declared (codes "x") 0) job_in_process_again_program job_in_process_again_sheet ([])
      ≡ Breaks 12 F11 ∷ []
  pub failed_redirection :
      answers (declared [] 0) failed_redirection_program failed_redirection_sheet ([])
      ≡ Breaks 1 F10 ∷ []
  pub failed_call :
      answers (declared [] 0) failed_call_program failed_call_sheet ([])
      ≡ Breaks 5 F14 ∷ []
  pub failed_redirection_again :
      answers (declared (codes "x") 0) failed_redirection_again_program failed_redirection_again_sheet ([])
      ≡ Breaks 4 F10 ∷ []
  pub drops_forgotten :
      answers (declared [] 0) drops_forgotten_program drops_forgotten_sheet ([])
      ≡ Breaks 4 F13 ∷ []
  pub drops_forgotten_again :
      answers (declared (codes "x") 0) drops_forgotten_again_program drops_forgotten_again_sheet ([])
      ≡ Breaks 4 F13 ∷ []
