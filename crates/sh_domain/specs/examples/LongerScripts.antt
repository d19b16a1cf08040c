-- Longer scripts, each with its greatest certificate, that with one fact changed, and what a check
-- reports.
-- POSIX.1-2024, XCU 2.6 (word expansions), 2.9 (shell commands), 2.15 (special built-in utilities),
-- 3 (getopts, read).
use Rattle.std.specs.Prelude.{◌≡◌, true, false, [], ◌∷◌, codes, None}
use Rattle.sh_tree.specs.declared.place.Code.TheVariants.{P1, P2, U1, U2, U3}
use Rattle.sh_tree.specs.declared.tree.Action.TheVariants as action
use Rattle.sh_tree.specs.declared.tree.Binary.TheVariants as binary
use Rattle.sh_tree.specs.declared.tree.ClauseEnd.TheVariants as clause
use Rattle.sh_tree.specs.declared.tree.Link.TheVariants as link
use Rattle.sh_tree.specs.declared.tree.LoopKind.TheVariants as loop
use Rattle.sh_tree.specs.declared.tree.Removal.TheVariants as removal
use Rattle.sh_tree.specs.declared.tree.Special.TheVariants as special
use Rattle.sh_tree.specs.declared.tree.Unary.TheVariants as unary
use Rattle.sh_tree.specs.examples.Program.{only, plain, simple, alone, lone}
use Rattle.sh_tree.specs.standard.program.Syntax.{Items, Variable, Positional, Special, Plain, Escaped, Double, Expansion, Arithmetic, Substitution, Tilde, no_parts, more_parts, Value, Length, Use, Remove, Constant, Name, Parenthesis, Signed, Chain, Choice, Assigned, no_operands, more_operands, no_items, more_items, and_or, no_links, more_links, pipeline, no_commands, more_commands, command, Group, Subshell, Conditional, Loop, For, Case, Define, no_elements, assignment, operand, redirection, File, Here, no_redirects, more_redirects, no_branches, more_branches, no_else, every_parameter, listed, no_words, more_words, no_clauses, more_clauses}
use Rattle.sh_runs.specs.examples.Steps.{piece}
use Rattle.sh_domain.specs.Facts.{Unreached}
use Rattle.sh_domain.specs.Views.{Before, AfterZero, AfterNonzero, Entry, ReturnsZero, ReturnsNonzero}
use Rattle.sh_domain.specs.declared.rule.FlowRule.TheVariants.{F1, F2, F3, F4, F5, F6, F7, F8, F9, F10, F11, F12, F13, F14, F15}
use Rattle.sh_domain.specs.examples.Programs.{quoted, quoted_parameter, text, compound, known, dropping, row, function, Sheet, Claiming, declared, place, Breaks, Unmet, answers}

-- `if ! shift && IFS : && trap - INT; NL then shift 2; unset IFS; NL fi; IFS=1 IFS a; `
abbrev pub script_41_program : Items
script_41_program =
    alone (compound 1 0 (Conditional (more_branches (more_items (and_or (pipeline true (more_commands (simple 2 5 (text (codes "shift") no_elements))
    no_commands)) (more_links link.AndThen (piece (simple 3 14 (text (codes "IFS") (text (codes ":") no_elements)))) (more_links link.AndThen (piece
    (simple 4 23 (text (codes "trap") (text (codes "-") (text (codes "INT") no_elements))))) no_links))) false no_items) (alone (simple 5 40 (text
    (codes "shift") (text (codes "2") no_elements))) (lone (simple 6 49 (text (codes "unset") (text (codes "IFS") no_elements))))) no_branches)
    no_else)) (lone (simple 7 64 (assignment (codes "IFS") (plain (codes "1")) (text (codes "IFS") (text (codes "a") no_elements)))))

abbrev pub script_41_sheet : Sheet
script_41_sheet =
    let a = known (codes "IFS OPTIND PPID x") [] 0 in
    let b = known (codes "OPTIND PPID x") [] 0 in
    record { commands = row a b b ∷ row a a a ∷ row a a a ∷ row a a a ∷ row a a a ∷ row a b b ∷ row b b b ∷ []; heads = []; functions = [] }

-- `f() ( NL x="$x" NL ) NL ( NL ! x=$OPTARG NL f NL ) NL echo $# "$x" NL echo $# "$2"`
abbrev pub script_42_program : Items
script_42_program =
    alone (compound 1 0 (Define (codes "f") (compound 2 4 (Subshell (lone (simple 3 6 (assignment (codes "x") (only (quoted 9 (codes "x")))
    no_elements))))))) (alone (compound 4 15 (Subshell (more_items (and_or (pipeline true (more_commands (simple 5 19 (assignment (codes "x") (only
    (Expansion 21 (Variable (codes "OPTARG")) Value)) no_elements)) no_commands)) no_links) false (lone (simple 6 29 (text (codes "f")
    no_elements)))))) (alone (simple 7 33 (text (codes "echo") (operand (only (Expansion 38 (Special special.NumberSign) Value)) (operand (only
    (quoted 42 (codes "x"))) no_elements)))) (lone (simple 8 46 (text (codes "echo") (operand (only (Expansion 51 (Special special.NumberSign)
    Value)) (operand (only (quoted_parameter 55 (Positional 2))) no_elements)))))))

abbrev pub script_42_sheet : Sheet
script_42_sheet =
    let a = known (codes "IFS OPTIND PPID x") [] 1 in
    let b = known (codes "IFS OPTIND PPID x") (codes "f") 1 in
    let c = known (codes "IFS OPTIND PPID x") (codes "f") 0 in
    record {
      commands = row a b Unreached ∷ row c c c ∷ row c c c ∷ row b b b ∷ row b b b ∷ row b b b ∷ row b b b ∷ row b b b ∷ [];
      heads = [];
      functions = function (codes "f") c (dropping [] []) c c ∷ [];
    }

-- `while x=$1 read -r x NL do NL f() { NL >"$((!x))" NL } NL f "$@" && read -r x NL done NL
-- echo "$x"`
abbrev pub script_43_program : Items
script_43_program =
    alone (compound 1 0 (Loop loop.While (lone (simple 2 6 (assignment (codes "x") (only (Expansion 8 (Positional 1) Value)) (text (codes "read")
    (text (codes "-r") (text (codes "x") no_elements)))))) (alone (compound 3 24 (Define (codes "f") (compound 4 28 (Group (lone (simple 5 30
    (redirection (File (only (Double (only (Arithmetic 32 (Signed unary.Not (Name 36 (codes "x")))))))) no_elements))))))) (more_items (and_or (piece
    (simple 6 43 (text (codes "f") (operand (only (quoted_parameter 46 (Special special.At))) no_elements)))) (more_links link.AndThen (piece (simple
    7 53 (text (codes "read") (text (codes "-r") (text (codes "x") no_elements))))) no_links)) false no_items)))) (lone (simple 8 68 (text
    (codes "echo") (operand (only (quoted 74 (codes "x"))) no_elements))))

abbrev pub script_43_sheet : Sheet
script_43_sheet =
    let a = known (codes "IFS OPTIND PPID x y") [] 2 in
    let b = known (codes "IFS OPTIND PPID x y") (codes "f") 2 in
    record {
      commands = row a a a ∷ row a a a ∷ row a b Unreached ∷ row b b b ∷ row b b b ∷ row b b b ∷ row b b b ∷ row a a a ∷ [];
      heads = (1, a) ∷ [];
      functions = function (codes "f") b (dropping [] []) b b ∷ [];
    }

-- `OPTARG= f a "${x:?${x:=1}}" && x="${x:=$((OPTARG && (x=2)))}" f NL echo "$OPTARG"`
abbrev pub script_44_program : Items
script_44_program =
    more_items (and_or (piece (simple 1 0 (assignment (codes "OPTARG") no_parts (text (codes "f") (text (codes "a") (operand (only (Double (only
    (Expansion 13 (Variable (codes "x")) (Use action.Fault true (only (Expansion 18 (Variable (codes "x")) (Use action.Assign true (plain
    (codes "1")))))))))) no_elements)))))) (more_links link.AndThen (piece (simple 2 31 (assignment (codes "x") (only (Double (only (Expansion 34
    (Variable (codes "x")) (Use action.Assign true (only (Arithmetic 39 (Chain (Name 42 (codes "OPTARG")) (more_operands binary.And (Parenthesis
    (Assigned 53 (codes "x") None (Constant (codes "2")))) no_operands))))))))) (text (codes "f") no_elements)))) no_links)) false (lone (simple 3 64
    (text (codes "echo") (operand (only (quoted 70 (codes "OPTARG"))) no_elements))))

abbrev pub script_44_sheet : Sheet
script_44_sheet =
    let a = known (codes "IFS OPTIND PPID") [] 0 in
    let b = known (codes "IFS OPTIND PPID x") [] 0 in
    record { commands = row a b b ∷ row b b b ∷ row b b b ∷ []; heads = []; functions = [] }

-- `{ : | unset -v g IFS; exit; NL ! export g 2>&1; }; x=1 read x g && shift 2; `
abbrev pub script_45_program : Items
script_45_program =
    alone (compound 1 0 (Group (more_items (and_or (pipeline false (more_commands (simple 2 2 (text (codes ":") no_elements)) (more_commands (simple
    3 6 (text (codes "unset") (text (codes "-v") (text (codes "g") (text (codes "IFS") no_elements))))) no_commands))) no_links) false (alone (simple
    4 22 (text (codes "exit") no_elements)) (more_items (and_or (pipeline true (more_commands (simple 5 30 (text (codes "export") (text (codes "g")
    (redirection (File (plain (codes "1"))) no_elements)))) no_commands)) no_links) false no_items))))) (more_items (and_or (piece (simple 6 48
    (assignment (codes "x") (plain (codes "1")) (text (codes "read") (text (codes "x") (text (codes "g") no_elements)))))) (more_links link.AndThen
    (piece (simple 7 64 (text (codes "shift") (text (codes "2") no_elements)))) no_links)) false no_items)

abbrev pub script_45_sheet : Sheet
script_45_sheet =
    let a = known (codes "IFS OPTIND PPID") [] 0 in
    let b = known (codes "OPTIND PPID") [] 0 in
    record {
      commands = row a Unreached Unreached ∷ row a a Unreached ∷ row a b b ∷ row a Unreached Unreached ∷ row Unreached Unreached Unreached ∷
          row Unreached Unreached Unreached ∷ row Unreached Unreached Unreached ∷ [];
      heads = [];
      functions = [];
    }

-- `f() { NL echo "$!" "$x" NL } NL OPTARG=$1 f "$1" a && ! IFS=: NL echo "${#OPTARG}" NL echo "$x"`
abbrev pub script_46_program : Items
script_46_program =
    alone (compound 1 0 (Define (codes "f") (compound 2 4 (Group (lone (simple 3 6 (text (codes "echo") (operand (only (quoted_parameter 12 (Special
    special.Exclamation))) (operand (only (quoted 17 (codes "x"))) no_elements))))))))) (more_items (and_or (piece (simple 4 23 (assignment
    (codes "OPTARG") (only (Expansion 30 (Positional 1) Value)) (text (codes "f") (operand (only (quoted_parameter 36 (Positional 1))) (text
    (codes "a") no_elements)))))) (more_links link.AndThen (pipeline true (more_commands (simple 5 47 (assignment (codes "IFS") (plain (codes ":"))
    no_elements)) no_commands)) no_links)) false (alone (simple 6 53 (text (codes "echo") (operand (only (Double (only (Expansion 59 (Variable
    (codes "OPTARG")) Length)))) no_elements))) (lone (simple 7 71 (text (codes "echo") (operand (only (quoted 77 (codes "x"))) no_elements))))))

abbrev pub script_46_sheet : Sheet
script_46_sheet =
    let a = known (codes "IFS OPTIND PPID x y") [] 2 in
    let b = known (codes "IFS OPTIND PPID x y") (codes "f") 2 in
    let c = known (codes "IFS OPTARG OPTIND PPID x y") (codes "f") 2 in
    record {
      commands = row a b Unreached ∷ row c c c ∷ row c c c ∷ row b b b ∷ row b b b ∷ row b b b ∷ row b b b ∷ [];
      heads = [];
      functions =
          function (codes "f") c (dropping [] []) c c ∷ [];
    }

-- `f() { NL return "$x" >"$x" || x=${x:=2} NL } NL for x NL do NL x=${x:=2} g "$x" 2>"$x" NL
-- done NL echo "$x"`
abbrev pub script_47_program : Items
script_47_program =
    alone (compound 1 0 (Define (codes "f") (compound 2 4 (Group (more_items (and_or (piece (simple 3 6 (text (codes "return") (operand (only (quoted
    14 (codes "x"))) (redirection (File (only (quoted 20 (codes "x")))) no_elements))))) (more_links link.OrElse (piece (simple 4 27 (assignment
    (codes "x") (only (Expansion 29 (Variable (codes "x")) (Use action.Assign true (plain (codes "2"))))) no_elements))) no_links)) false
    no_items))))) (alone (compound 5 39 (For (codes "x") every_parameter (lone (simple 6 48 (assignment (codes "x") (only (Expansion 50 (Variable
    (codes "x")) (Use action.Assign true (plain (codes "2"))))) (text (codes "g") (operand (only (quoted 61 (codes "x"))) (redirection (File (only
    (quoted 68 (codes "x")))) no_elements)))))))) (lone (simple 7 77 (text (codes "echo") (operand (only (quoted 83 (codes "x"))) no_elements)))))

abbrev pub script_47_sheet : Sheet
script_47_sheet =
    let a = known (codes "IFS OPTIND PPID x") [] 0 in
    let b = known (codes "IFS OPTIND PPID x") (codes "f") 0 in
    record {
      commands = row a b Unreached ∷ row Unreached Unreached Unreached ∷ row Unreached Unreached Unreached ∷ row Unreached Unreached Unreached
          ∷ row b b b ∷ row b b b ∷ row b b b ∷ [];
      heads = (5, b) ∷ [];
      functions = function (codes "f") Unreached (dropping [] []) Unreached Unreached ∷ [];
    }

-- `f() { NL echo "$1" $# NL } NL : "$1" NL export OPTARG=1 | NL OPTARG="$1" NL echo "$x" "$x" NL
-- echo "$1"`
abbrev pub script_48_program : Items
script_48_program =
    alone (compound 1 0 (Define (codes "f") (compound 2 4 (Group (lone (simple 3 6 (text (codes "echo") (operand (only (quoted_parameter 12
    (Positional 1))) (operand (only (Expansion 16 (Special special.NumberSign) Value)) no_elements))))))))) (alone (simple 4 21 (text (codes ":")
    (operand (only (quoted_parameter 24 (Positional 1))) no_elements))) (more_items (and_or (pipeline false (more_commands (simple 5 28 (text
    (codes "export") (text (codes "OPTARG=1") no_elements))) (more_commands (simple 6 46 (assignment (codes "OPTARG") (only (quoted_parameter 54
    (Positional 1))) no_elements)) no_commands))) no_links) false (alone (simple 7 58 (text (codes "echo") (operand (only (quoted 64 (codes "x")))
    (operand (only (quoted 69 (codes "x"))) no_elements)))) (lone (simple 8 73 (text (codes "echo") (operand (only (quoted_parameter 79 (Positional
    1))) no_elements)))))))

abbrev pub script_48_sheet : Sheet
script_48_sheet =
    let a = known (codes "IFS OPTIND PPID x y") [] 0 in
    let b = known (codes "IFS OPTIND PPID x y") (codes "f") 0 in
    let c = known (codes "IFS OPTARG OPTIND PPID x y") (codes "f") 0 in
    record {
      commands = row a b Unreached ∷ row Unreached Unreached Unreached ∷ row Unreached Unreached Unreached ∷ row b b Unreached ∷ row b c c ∷
          row b c c ∷ row b b b ∷ row b b b ∷ [];
      heads = [];
      functions = function (codes "f") Unreached (dropping [] []) Unreached Unreached ∷ [];
    }

-- `f() ( NL cat <<E >"$x" NL $x NL E NL ) NL g() { NL unset -v x NL } NL ! case "$x" in NL
-- (* | "$x") NL ;; NL esac && unset y NL echo "$x"`
abbrev pub script_49_program : Items
script_49_program =
    alone (compound 1 0 (Define (codes "f") (compound 2 4 (Subshell (lone (simple 3 6 (text (codes "cat") (redirection (Here (more_parts (Expansion
    20 (Variable (codes "x")) Value) (plain (codes "\n")))) (redirection (File (only (quoted 16 (codes "x")))) no_elements))))))))) (alone (compound
    4 27 (Define (codes "g") (compound 5 31 (Group (lone (simple 6 33 (text (codes "unset") (text (codes "-v") (text (codes "x") no_elements)))))))))
    (more_items (and_or (pipeline true (more_commands (compound 7 48 (Case (only (quoted 54 (codes "x"))) (more_clauses (more_words (plain
    (codes "*")) (more_words (only (quoted 67 (codes "x"))) no_words)) no_items clause.Break no_clauses))) no_commands)) (more_links link.AndThen
    (piece (simple 8 83 (text (codes "unset") (text (codes "y") no_elements)))) no_links)) false (lone (simple 9 91 (text (codes "echo") (operand
    (only (quoted 97 (codes "x"))) no_elements))))))

abbrev pub script_49_sheet : Sheet
script_49_sheet =
    let a = known (codes "IFS OPTIND PPID x") [] 1 in
    let b = known (codes "IFS OPTIND PPID x") (codes "f") 1 in
    let c = known (codes "IFS OPTIND PPID x") (codes "f g") 1 in
    record {
      commands = row a b Unreached ∷ row Unreached Unreached Unreached ∷ row Unreached Unreached Unreached ∷ row b c Unreached ∷ row Unreached
          Unreached Unreached ∷ row Unreached Unreached Unreached ∷ row c c c ∷ row c c c ∷ row c c c ∷ [];
      heads = [];
      functions = function (codes "f")
          Unreached (dropping [] []) Unreached Unreached ∷ function (codes "g") Unreached (dropping [] []) Unreached Unreached ∷ [];
    }

-- `f() { NL return NL } NL echo "$x" NL x() { NL cat <<E NL ${x+${x:=1}} NL E NL } <"${x=1}" NL
-- echo "$2" "$x" NL echo "$x"`
abbrev pub script_50_program : Items
script_50_program =
    alone (compound 1 0 (Define (codes "f") (compound 2 4 (Group (lone (simple 3 6 (text (codes "return") no_elements))))))) (alone (simple 4 15
    (text (codes "echo") (operand (only (quoted 21 (codes "x"))) no_elements))) (alone (compound 5 25 (Define (codes "x") (command 6 29 (Group (lone
    (simple 7 31 (text (codes "cat") (redirection (Here (more_parts (Expansion 39 (Variable (codes "x")) (Use action.Alternative false (only
    (Expansion 43 (Variable (codes "x")) (Use action.Assign true (plain (codes "1"))))))) (plain (codes "\n")))) no_elements))))) (more_redirects
    (File (only (Double (only (Expansion 58 (Variable (codes "x")) (Use action.Assign false (plain (codes "1")))))))) no_redirects)))) (alone (simple
    8 66 (text (codes "echo") (operand (only (quoted_parameter 72 (Positional 2))) (operand (only (quoted 77 (codes "x"))) no_elements)))) (lone
    (simple 9 81 (text (codes "echo") (operand (only (quoted 87 (codes "x"))) no_elements)))))))

abbrev pub script_50_sheet : Sheet
script_50_sheet =
    let a = known (codes "IFS OPTIND PPID") [] 2 in
    let b = known (codes "IFS OPTIND PPID") (codes "f") 2 in
    let c = known (codes "IFS OPTIND PPID") (codes "f x") 2 in
    record {
      commands = row a b Unreached ∷ row Unreached Unreached Unreached ∷ row Unreached Unreached Unreached ∷ row b b b ∷ row b c Unreached ∷
          row Unreached Unreached Unreached ∷ row Unreached Unreached Unreached ∷ row c c c ∷ row c c c ∷ [];
      heads = [];
      functions = function (codes "f")
          Unreached (dropping [] []) Unreached Unreached ∷ function (codes "x") Unreached (dropping [] []) Unreached Unreached ∷ [];
    }

-- `f() { NL ! echo "$x" NL } NL cd() { NL x=~ x=1 read x "${x=1}" NL } <"$x" NL
-- echo $# $((OPTARG)) NL echo $((x))`
abbrev pub script_51_program : Items
script_51_program =
    alone (compound 1 0 (Define (codes "f") (compound 2 4 (Group (more_items (and_or (pipeline true (more_commands (simple 3 8 (text (codes "echo")
    (operand (only (quoted 14 (codes "x"))) no_elements))) no_commands)) no_links) false no_items))))) (alone (compound 4 20 (Define (codes "cd")
    (command 5 25 (Group (lone (simple 6 27 (assignment (codes "x") (only (Tilde 29 [])) (assignment (codes "x") (plain (codes "1")) (text
    (codes "read") (text (codes "x") (operand (only (Double (only (Expansion 43 (Variable (codes "x")) (Use action.Assign false (plain
    (codes "1"))))))) no_elements)))))))) (more_redirects (File (only (quoted 55 (codes "x")))) no_redirects)))) (alone (simple 7 59 (text
    (codes "echo") (operand (only (Expansion 64 (Special special.NumberSign) Value)) (operand (only (Arithmetic 67 (Name 70 (codes "OPTARG"))))
    no_elements)))) (lone (simple 8 79 (text (codes "echo") (operand (only (Arithmetic 84 (Name 87 (codes "x")))) no_elements))))))

abbrev pub script_51_sheet : Sheet
script_51_sheet =
    let a = known (codes "IFS OPTIND PPID x") [] 1 in
    let b = known (codes "IFS OPTIND PPID x") (codes "f") 1 in
    let c = known (codes "IFS OPTIND PPID x") (codes "cd f") 1 in
    record {
      commands = row a b Unreached ∷ row Unreached Unreached Unreached ∷ row Unreached Unreached Unreached ∷ row b c Unreached ∷ row Unreached
          Unreached Unreached ∷ row Unreached Unreached Unreached ∷ row c c c ∷ row c c c ∷ [];
      heads = [];
      functions = function (codes "f") Unreached
          (dropping [] []) Unreached Unreached ∷ function (codes "cd") Unreached (dropping [] []) Unreached Unreached ∷ [];
    }

-- `set a "$@" | : ${x%}; until exit; do read -r IFS; true; done; NL g() { x; NL
-- x=1 IFS a >f || :; }; `
abbrev pub script_52_program : Items
script_52_program =
    more_items (and_or (pipeline false (more_commands (simple 1 0 (text (codes "set") (text (codes "a") (operand (only (quoted_parameter 7 (Special
    special.At))) no_elements)))) (more_commands (simple 2 13 (text (codes ":") (operand (only (Expansion 15 (Variable (codes "x")) (Remove
    removal.ShortSuffix no_parts))) no_elements))) no_commands))) no_links) false (alone (compound 3 22 (Loop loop.Until (lone (simple 4 28 (text
    (codes "exit") no_elements))) (alone (simple 5 37 (text (codes "read") (text (codes "-r") (text (codes "IFS") no_elements)))) (lone (simple 6 50
    (text (codes "true") no_elements)))))) (lone (compound 7 62 (Define (codes "g") (compound 8 66 (Group (alone (simple 9 68 (text (codes "x")
    no_elements)) (more_items (and_or (piece (simple 10 71 (assignment (codes "x") (plain (codes "1")) (text (codes "IFS") (text (codes "a")
    (redirection (File (plain (codes "f"))) no_elements)))))) (more_links link.OrElse (piece (simple 11 87 (text (codes ":") no_elements)))
    no_links)) false no_items))))))))

abbrev pub script_52_sheet : Sheet
script_52_sheet =
    let a = known (codes "IFS OPTIND PPID x y") [] 1 in
    let b = known (codes "IFS OPTIND PPID x y") [] 2 in
    record {
      commands = row a b a ∷ row a a Unreached ∷ row a Unreached Unreached ∷ row a Unreached Unreached ∷ row Unreached Unreached Unreached ∷
          row Unreached Unreached Unreached ∷ row Unreached Unreached Unreached ∷ row Unreached Unreached Unreached ∷ row Unreached Unreached Unreached ∷
          row Unreached Unreached Unreached ∷ row Unreached Unreached Unreached ∷ [];
      heads = (3, a) ∷ [];
      functions = function (codes "g") Unreached
          (dropping [] []) Unreached Unreached ∷ [];
    }

-- `f() ( NL echo "$x" NL ) NL getopts ab OPTARG || if y=$y || false ~ NL then NL case $x in NL
-- (a) NL x="$1" NL ;; NL esac NL fi NL echo "$y"`
abbrev pub script_53_program : Items
script_53_program =
    alone (compound 1 0 (Define (codes "f") (compound 2 4 (Subshell (lone (simple 3 6 (text (codes "echo") (operand (only (quoted 12 (codes "x")))
    no_elements)))))))) (more_items (and_or (piece (simple 4 18 (text (codes "getopts") (text (codes "ab") (text (codes "OPTARG") no_elements)))))
    (more_links link.OrElse (piece (compound 5 39 (Conditional (more_branches (more_items (and_or (piece (simple 6 42 (assignment (codes "y") (only
    (Expansion 44 (Variable (codes "y")) Value)) no_elements))) (more_links link.OrElse (piece (simple 7 50 (text (codes "false") (operand (only
    (Tilde 56 [])) no_elements)))) no_links)) false no_items) (lone (compound 8 63 (Case (only (Expansion 68 (Variable (codes "x")) Value))
    (more_clauses (more_words (plain (codes "a")) no_words) (lone (simple 9 78 (assignment (codes "x") (only (quoted_parameter 81 (Positional 1)))
    no_elements))) clause.Break no_clauses)))) no_branches) no_else))) no_links)) false (lone (simple 10 96 (text (codes "echo") (operand (only
    (quoted 102 (codes "y"))) no_elements)))))

abbrev pub script_53_sheet : Sheet
script_53_sheet =
    let a = known (codes "IFS OPTIND PPID") [] 0 in
    let b = known (codes "IFS OPTIND PPID") (codes "f") 0 in
    let c = known (codes "IFS OPTIND PPID y") (codes "f") 0 in
    let d = known (codes "IFS OPTIND PPID x y") (codes "f") 0 in
    record {
      commands = row a b Unreached ∷ row Unreached Unreached Unreached ∷ row Unreached Unreached Unreached ∷ row b b b ∷ row b c d ∷ row b c c
          ∷ row c Unreached c ∷ row c c d ∷ row c d d ∷ row b b b ∷ [];
      heads = [];
      functions = function (codes "f") Unreached (dropping [] []) Unreached Unreached ∷ [];
    }

-- `! g() { case ${x%\z} in a|"$y") x=1 read y f | set -e; NL return 0; ! g "it's"; NL
-- ;& *)  esac; NL }; `
abbrev pub script_54_program : Items
script_54_program =
    more_items (and_or (pipeline true (more_commands (compound 1 2 (Define (codes "g") (compound 2 6 (Group (lone (compound 3 8 (Case (only
    (Expansion 13 (Variable (codes "x")) (Remove removal.ShortSuffix (only (Escaped (codes "z")))))) (more_clauses (more_words (plain (codes "a"))
    (more_words (only (quoted 27 (codes "y"))) no_words)) (more_items (and_or (pipeline false (more_commands (simple 4 32 (assignment (codes "x")
    (plain (codes "1")) (text (codes "read") (text (codes "y") (text (codes "f") no_elements))))) (more_commands (simple 5 47 (text (codes "set")
    (text (codes "-e") no_elements))) no_commands))) no_links) false (alone (simple 6 55 (text (codes "return") (text (codes "0") no_elements)))
    (more_items (and_or (pipeline true (more_commands (simple 7 67 (text (codes "g") (operand (only (Double (plain (codes "it's")))) no_elements)))
    no_commands)) no_links) false no_items))) clause.FallThrough (more_clauses (more_words (plain (codes "*")) no_words) no_items clause.Break
    no_clauses))))))))) no_commands)) no_links) false no_items

abbrev pub script_54_sheet : Sheet
script_54_sheet =
    let a = known (codes "IFS OPTIND PPID x y") [] 0 in
    let b = known (codes "IFS OPTIND PPID x y") (codes "g") 0 in
    record {
      commands = row a b Unreached ∷ row Unreached Unreached Unreached ∷ row Unreached Unreached Unreached ∷ row Unreached Unreached Unreached
          ∷ row Unreached Unreached Unreached ∷ row Unreached Unreached Unreached ∷ row Unreached Unreached Unreached ∷ [];
      heads = [];
      functions =
          function (codes "g") Unreached (dropping [] []) Unreached Unreached ∷ [];
    }

-- `unset IFS && x=1 read g g | shift 2; case ${1+} in a|"$y") x="$!" x=1; ;; *) ;& esac || shift
-- <"$x"; `
abbrev pub script_55_program : Items
script_55_program =
    more_items (and_or (piece (simple 1 0 (text (codes "unset") (text (codes "IFS") no_elements)))) (more_links link.AndThen (pipeline false
    (more_commands (simple 2 13 (assignment (codes "x") (plain (codes "1")) (text (codes "read") (text (codes "g") (text (codes "g") no_elements)))))
    (more_commands (simple 3 28 (text (codes "shift") (text (codes "2") no_elements))) no_commands))) no_links)) false (more_items (and_or (piece
    (compound 4 37 (Case (only (Expansion 42 (Positional 1) (Use action.Alternative false no_parts))) (more_clauses (more_words (plain (codes "a"))
    (more_words (only (quoted 54 (codes "y"))) no_words)) (lone (simple 5 59 (assignment (codes "x") (only (quoted_parameter 62 (Special
    special.Exclamation))) (assignment (codes "x") (plain (codes "1")) no_elements)))) clause.Break (more_clauses (more_words (plain (codes "*"))
    no_words) no_items clause.FallThrough no_clauses))))) (more_links link.OrElse (piece (simple 6 88 (text (codes "shift") (redirection (File (only
    (quoted 96 (codes "x")))) no_elements)))) no_links)) false no_items)

abbrev pub script_55_sheet : Sheet
script_55_sheet =
    let a = known (codes "IFS OPTIND PPID") [] 0 in
    let b = known (codes "OPTIND PPID") [] 0 in
    let c = known (codes "OPTIND PPID g") [] 0 in
    let d = known (codes "OPTIND PPID x") [] 0 in
    record { commands = row a b b ∷ row b c b ∷ row b b b ∷ row b b b ∷ row b d d ∷ row b b b ∷ []; heads = []; functions = [] }

-- `g() if cmd NL then NL echo "$1" "$!" NL fi NL g() if cmd NL then NL g() { NL g "$y" "$y" NL } NL
-- >"$x" NL y="$x" x=1 read y y NL fi NL echo "$y"`
abbrev pub script_56_program : Items
script_56_program =
    alone (compound 1 0 (Define (codes "g") (compound 2 4 (Conditional (more_branches (lone (simple 3 7 (text (codes "cmd") no_elements))) (lone
    (simple 4 16 (text (codes "echo") (operand (only (quoted_parameter 22 (Positional 1))) (operand (only (quoted_parameter 27 (Special
    special.Exclamation))) no_elements))))) no_branches) no_else)))) (alone (compound 5 34 (Define (codes "g") (compound 6 38 (Conditional
    (more_branches (lone (simple 7 41 (text (codes "cmd") no_elements))) (alone (compound 8 50 (Define (codes "g") (compound 9 54 (Group (lone
    (simple 10 56 (text (codes "g") (operand (only (quoted 59 (codes "y"))) (operand (only (quoted 64 (codes "y"))) no_elements))))))))) (alone
    (simple 11 70 (redirection (File (only (quoted 72 (codes "x")))) no_elements)) (lone (simple 12 76 (assignment (codes "y") (only (quoted 79
    (codes "x"))) (assignment (codes "x") (plain (codes "1")) (text (codes "read") (text (codes "y") (text (codes "y") no_elements)))))))))
    no_branches) no_else)))) (lone (simple 13 99 (text (codes "echo") (operand (only (quoted 105 (codes "y"))) no_elements)))))

abbrev pub script_56_sheet : Sheet
script_56_sheet =
    let a = known (codes "IFS OPTIND PPID x y") [] 0 in
    let b = known (codes "IFS OPTIND PPID x y") (codes "g") 0 in
    record {
      commands = row a b Unreached ∷ row Unreached Unreached Unreached ∷ row Unreached Unreached Unreached ∷ row Unreached Unreached Unreached
          ∷ row b b Unreached ∷ row Unreached Unreached Unreached ∷ row Unreached Unreached Unreached ∷ row Unreached Unreached Unreached ∷ row Unreached
          Unreached Unreached ∷ row Unreached Unreached Unreached ∷ row Unreached Unreached Unreached ∷ row Unreached Unreached Unreached ∷ row b b b ∷ [];
      heads = [];
      functions = function (codes "g") Unreached (dropping [] []) Unreached Unreached ∷ [];
    }

-- `for x do export f; read -r g >"${y=f}"; done && if ! g "in"& then unset -f f <"$x"; NL
-- fi >"${y=f}"; ! false;`
abbrev pub script_57_program : Items
script_57_program =
    more_items (and_or (piece (compound 1 0 (For (codes "x") every_parameter (alone (simple 2 9 (text (codes "export") (text (codes "f")
    no_elements))) (lone (simple 3 19 (text (codes "read") (text (codes "-r") (text (codes "g") (redirection (File (only (Double (only (Expansion 31
    (Variable (codes "y")) (Use action.Assign false (plain (codes "f")))))))) no_elements)))))))))) (more_links link.AndThen (piece (command 4 48
    (Conditional (more_branches (more_items (and_or (pipeline true (more_commands (simple 5 53 (text (codes "g") (operand (only (Double (plain
    (codes "in")))) no_elements))) no_commands)) no_links) true no_items) (lone (simple 6 66 (text (codes "unset") (text (codes "-f") (text
    (codes "f") (redirection (File (only (quoted 79 (codes "x")))) no_elements)))))) no_branches) no_else) (more_redirects (File (only (Double (only
    (Expansion 89 (Variable (codes "y")) (Use action.Assign false (plain (codes "f")))))))) no_redirects))) no_links)) false (more_items (and_or
    (pipeline true (more_commands (simple 7 100 (text (codes "false") no_elements)) no_commands)) no_links) false no_items)

abbrev pub script_57_sheet : Sheet
script_57_sheet =
    let a = known (codes "IFS OPTIND PPID x") [] 0 in
    let b = known (codes "IFS OPTIND PPID g x") [] 0 in
    let c = known (codes "! IFS OPTIND PPID x y") [] 0 in
    let d = known (codes "IFS OPTIND PPID x y") [] 0 in
    record {
      commands = row a a a ∷ row a a a ∷ row a b a ∷ row a c a ∷ row d d d ∷ row c c c ∷ row a Unreached a ∷ [];
      heads = (1, a) ∷ [];
      functions = [];
    }

-- `g() { read -r g; set -- "$0" [; x=1 read x IFS; NL }; NL for x do trap - INT; getopts ab y; NL
-- exit; done >f; unset g | set a "$@";`
abbrev pub script_58_program : Items
script_58_program =
    alone (compound 1 0 (Define (codes "g") (compound 2 4 (Group (alone (simple 3 6 (text (codes "read") (text (codes "-r") (text (codes "g")
    no_elements)))) (alone (simple 4 17 (text (codes "set") (text (codes "--") (operand (only (quoted_parameter 25 (Special special.Zero))) (text
    (codes "[") no_elements))))) (lone (simple 5 32 (assignment (codes "x") (plain (codes "1")) (text (codes "read") (text (codes "x") (text
    (codes "IFS") no_elements)))))))))))) (alone (command 6 51 (For (codes "x") every_parameter (alone (simple 7 60 (text (codes "trap") (text
    (codes "-") (text (codes "INT") no_elements)))) (alone (simple 8 72 (text (codes "getopts") (text (codes "ab") (text (codes "y") no_elements))))
    (lone (simple 9 86 (text (codes "exit") no_elements)))))) (more_redirects (File (plain (codes "f"))) no_redirects)) (more_items (and_or (pipeline
    false (more_commands (simple 10 101 (text (codes "unset") (text (codes "g") no_elements))) (more_commands (simple 11 111 (text (codes "set")
    (text (codes "a") (operand (only (quoted_parameter 118 (Special special.At))) no_elements)))) no_commands))) no_links) false no_items))

abbrev pub script_58_sheet : Sheet
script_58_sheet =
    let a = known (codes "IFS OPTIND PPID") [] 0 in
    let b = known (codes "IFS OPTIND PPID") (codes "g") 0 in
    let c = known (codes "IFS OPTIND PPID x") (codes "g") 0 in
    let d = known (codes "IFS OPTIND PPID x y") (codes "g") 0 in
    let g = known (codes "IFS OPTIND PPID") (codes "g") 1 in
    record {
      commands = row a b Unreached ∷ row Unreached Unreached Unreached ∷ row Unreached Unreached Unreached ∷ row Unreached Unreached Unreached
          ∷ row Unreached Unreached Unreached ∷ row b b b ∷ row c c c ∷ row c d c ∷ row c Unreached Unreached ∷ row b a a ∷ row b g b ∷ [];
      heads = (6, b) ∷ [];
      functions = function (codes "g") Unreached (dropping [] []) Unreached Unreached ∷ [];
    }

-- `f() { NL set -- "${x=1}" "${x+${x}}" NL } NL until ! x= && : || true NL do NL unset -f f NL
-- readonly x=~ NL done NL f "$x" >"$x" NL echo "$x"`
abbrev pub script_59_program : Items
script_59_program =
    alone (compound 1 0 (Define (codes "f") (compound 2 4 (Group (lone (simple 3 6 (text (codes "set") (text (codes "--") (operand (only (Double
    (only (Expansion 14 (Variable (codes "x")) (Use action.Assign false (plain (codes "1"))))))) (operand (only (Double (only (Expansion 23 (Variable
    (codes "x")) (Use action.Alternative false (only (Expansion 27 (Variable (codes "x")) Value))))))) no_elements)))))))))) (alone (compound 4 36
    (Loop loop.Until (more_items (and_or (pipeline true (more_commands (simple 5 44 (assignment (codes "x") no_parts no_elements)) no_commands))
    (more_links link.AndThen (piece (simple 6 50 (text (codes ":") no_elements))) (more_links link.OrElse (piece (simple 7 55 (text (codes "true")
    no_elements))) no_links))) false no_items) (alone (simple 8 63 (text (codes "unset") (text (codes "-f") (text (codes "f") no_elements)))) (lone
    (simple 9 74 (text (codes "readonly") (operand (more_parts (Plain (codes "x=")) (only (Tilde 85 []))) no_elements))))))) (alone (simple 10 92
    (text (codes "f") (operand (only (quoted 95 (codes "x"))) (redirection (File (only (quoted 101 (codes "x")))) no_elements)))) (lone (simple 11
    105 (text (codes "echo") (operand (only (quoted 111 (codes "x"))) no_elements))))))

abbrev pub script_59_sheet : Sheet
script_59_sheet =
    let a = known (codes "IFS OPTIND PPID x y") [] 2 in
    let b = known (codes "IFS OPTIND PPID x y") (codes "f") 2 in
    let c = known (codes "IFS OPTIND PPID x y") (codes "f") 1 in
    record {
      commands = row a b Unreached ∷ row c b c ∷ row c b c ∷ row b b b ∷ row b b b ∷ row b b Unreached ∷ row b b Unreached ∷ row Unreached
          Unreached Unreached ∷ row Unreached Unreached Unreached ∷ row b b b ∷ row b b b ∷ [];
      heads = (4, b) ∷ [];
      functions = function (codes "f") c
          (dropping [] []) b c ∷ [];
    }

-- `x=1 x=1 set --  NL { NL case "${x%a}" in NL ("$(echo)") NL x="$-" f "$*" | NL
-- set -- ~ a || read -r x NL ;; NL esac & NL } NL echo $((x)) NL echo "$x"`
abbrev pub script_60_program : Items
script_60_program =
    alone (simple 1 0 (assignment (codes "x") (plain (codes "1")) (assignment (codes "x") (plain (codes "1")) (text (codes "set") (text (codes "--")
    no_elements))))) (alone (compound 2 16 (Group (more_items (and_or (piece (compound 3 18 (Case (only (Double (only (Expansion 24 (Variable
    (codes "x")) (Remove removal.ShortSuffix (plain (codes "a"))))))) (more_clauses (more_words (only (Double (only (Substitution 37 (lone (simple 4
    39 (text (codes "echo") no_elements))))))) no_words) (more_items (and_or (pipeline false (more_commands (simple 5 47 (assignment (codes "x")
    (only (quoted_parameter 50 (Special special.Hyphen))) (text (codes "f") (operand (only (quoted_parameter 57 (Special special.Asterisk)))
    no_elements)))) (more_commands (simple 6 63 (text (codes "set") (text (codes "--") (operand (only (Tilde 70 [])) (text (codes "a")
    no_elements))))) no_commands))) (more_links link.OrElse (piece (simple 7 77 (text (codes "read") (text (codes "-r") (text (codes "x")
    no_elements))))) no_links)) false no_items) clause.Break no_clauses)))) no_links) true no_items))) (alone (simple 8 99 (text (codes "echo")
    (operand (only (Arithmetic 104 (Name 107 (codes "x")))) no_elements))) (lone (simple 9 111 (text (codes "echo") (operand (only (quoted 117
    (codes "x"))) no_elements))))))

abbrev pub script_60_sheet : Sheet
script_60_sheet =
    let a = known (codes "IFS OPTIND PPID x y") [] 1 in
    let b = known (codes "IFS OPTIND PPID x y") [] 0 in
    let c = known (codes "! IFS OPTIND PPID x y") [] 0 in
    let d = known (codes "IFS OPTIND PPID x y") [] 2 in
    record {
      commands = row a b b ∷ row b c Unreached ∷ row b b b ∷ row b b b ∷ row b b b ∷ row b d b ∷ row b b b ∷ row c c c ∷ row c c c ∷ [];
      heads = [];
      functions = [];
    }

-- `f() { NL y=$1 NL x= read y x NL } NL until echo $# "$1" NL do NL ! g $(((x=1) || x)) "${x=1}" NL
-- export y=$y NL g() { NL x=$x g $! NL } NL done NL echo "$x"`
abbrev pub script_61_program : Items
script_61_program =
    alone (compound 1 0 (Define (codes "f") (compound 2 4 (Group (alone (simple 3 6 (assignment (codes "y") (only (Expansion 8 (Positional 1) Value))
    no_elements)) (lone (simple 4 11 (assignment (codes "x") no_parts (text (codes "read") (text (codes "y") (text (codes "x") no_elements)))))))))))
    (alone (compound 5 25 (Loop loop.Until (lone (simple 6 31 (text (codes "echo") (operand (only (Expansion 36 (Special special.NumberSign) Value))
    (operand (only (quoted_parameter 40 (Positional 1))) no_elements))))) (more_items (and_or (pipeline true (more_commands (simple 7 49 (text
    (codes "g") (operand (only (Arithmetic 51 (Chain (Parenthesis (Assigned 55 (codes "x") None (Constant (codes "1")))) (more_operands binary.Or
    (Name 63 (codes "x")) no_operands)))) (operand (only (Double (only (Expansion 68 (Variable (codes "x")) (Use action.Assign false (plain
    (codes "1"))))))) no_elements)))) no_commands)) no_links) false (alone (simple 8 76 (text (codes "export") (operand (more_parts (Plain
    (codes "y=")) (only (Expansion 85 (Variable (codes "y")) Value))) no_elements))) (lone (compound 9 88 (Define (codes "g") (compound 10 92 (Group
    (lone (simple 11 94 (assignment (codes "x") (only (Expansion 96 (Variable (codes "x")) Value)) (text (codes "g") (operand (only (Expansion 101
    (Special special.Exclamation) Value)) no_elements)))))))))))))) (lone (simple 12 111 (text (codes "echo") (operand (only (quoted 117
    (codes "x"))) no_elements)))))

abbrev pub script_61_sheet : Sheet
script_61_sheet =
    let a = known (codes "IFS OPTIND PPID") [] 2 in
    let b = known (codes "IFS OPTIND PPID") (codes "f") 2 in
    let c = known (codes "IFS OPTIND PPID x") (codes "f") 2 in
    let d = known (codes "IFS OPTIND PPID x y") (codes "f") 2 in
    let g = known (codes "IFS OPTIND PPID x y") (codes "f g") 2 in
    let h = known (codes "IFS OPTIND PPID x") (codes "f") 1 in
    record {
      commands = row a b Unreached ∷ row Unreached Unreached Unreached ∷ row Unreached Unreached Unreached ∷ row Unreached Unreached Unreached
          ∷ row b b b ∷ row b b b ∷ row b c c ∷ row c d d ∷ row d g Unreached ∷ row h h h ∷ row h h h ∷ row b b b ∷ [];
      heads = (5, b) ∷ [];
      functions =
          function (codes "f") Unreached (dropping [] []) Unreached Unreached ∷ function (codes "g") h (dropping [] []) h h ∷ [];
    }

-- `g() { NL f() { NL ! x=$((1 ? 2 : (y=1))) x=1 exec | NL f "${x}" "$x" NL } NL } NL
-- getopts "$x" OPTARG & NL set --  NL echo "$x" NL ! readonly x=1 | NL x=1 getopts "$x" x && y=1 NL
-- echo "$x"`
abbrev pub script_62_program : Items
script_62_program =
    alone (compound 1 0 (Define (codes "g") (compound 2 4 (Group (lone (compound 3 6 (Define (codes "f") (compound 4 10 (Group (more_items (and_or
    (pipeline true (more_commands (simple 5 14 (assignment (codes "x") (only (Arithmetic 16 (Choice (Constant (codes "1")) (Constant (codes "2"))
    (Parenthesis (Assigned 28 (codes "y") None (Constant (codes "1"))))))) (assignment (codes "x") (plain (codes "1")) (text (codes "exec")
    no_elements)))) (more_commands (simple 6 46 (text (codes "f") (operand (only (quoted 49 (codes "x"))) (operand (only (quoted 56 (codes "x")))
    no_elements)))) no_commands))) no_links) false no_items)))))))))) (more_items (and_or (piece (simple 7 64 (text (codes "getopts") (operand (only
    (quoted 73 (codes "x"))) (text (codes "OPTARG") no_elements))))) no_links) true (alone (simple 8 86 (text (codes "set") (text (codes "--")
    no_elements))) (alone (simple 9 94 (text (codes "echo") (operand (only (quoted 100 (codes "x"))) no_elements))) (more_items (and_or (pipeline
    true (more_commands (simple 10 106 (text (codes "readonly") (text (codes "x=1") no_elements))) (more_commands (simple 11 121 (assignment
    (codes "x") (plain (codes "1")) (text (codes "getopts") (operand (only (quoted 134 (codes "x"))) (text (codes "x") no_elements)))))
    no_commands))) (more_links link.AndThen (piece (simple 12 143 (assignment (codes "y") (plain (codes "1")) no_elements))) no_links)) false (lone
    (simple 13 147 (text (codes "echo") (operand (only (quoted 153 (codes "x"))) no_elements))))))))

abbrev pub script_62_sheet : Sheet
script_62_sheet =
    let a = known (codes "IFS OPTIND PPID x") [] 0 in
    let b = known (codes "IFS OPTIND PPID x") (codes "g") 0 in
    let c = known (codes "! IFS OPTIND PPID x") (codes "g") 0 in
    let d = known (codes "! IFS OPTIND PPID x y") (codes "g") 0 in
    record {
      commands = row a b Unreached ∷ row Unreached Unreached Unreached ∷ row Unreached Unreached Unreached ∷ row Unreached Unreached Unreached
          ∷ row Unreached Unreached Unreached ∷ row Unreached Unreached Unreached ∷ row b b b ∷ row c c c ∷ row c c c ∷ row b b b ∷ row b b b ∷ row c d d ∷
          row c c c ∷ [];
      heads = [];
      functions = function (codes "g") Unreached (dropping [] []) Unreached Unreached ∷ function (codes "f") Unreached
          (dropping [] []) Unreached Unreached ∷ [];
    }

-- `f() { NL f() { NL true "$x" NL } NL } NL ( NL x=1 f | NL unset OPTARG NL x=~ f | NL
-- for OPTARG in a NL do NL f NL done & NL OPTARG=${x:=2} f NL ) | NL f "${x-$x}" | NL
-- unset -v OPTARG & NL echo "$x"`
abbrev pub script_63_program : Items
script_63_program =
    alone (compound 1 0 (Define (codes "f") (compound 2 4 (Group (lone (compound 3 6 (Define (codes "f") (compound 4 10 (Group (lone (simple 5 12
    (text (codes "true") (operand (only (quoted 18 (codes "x"))) no_elements))))))))))))) (more_items (and_or (pipeline false (more_commands
    (compound 6 26 (Subshell (more_items (and_or (pipeline false (more_commands (simple 7 28 (assignment (codes "x") (plain (codes "1")) (text
    (codes "f") no_elements))) (more_commands (simple 8 36 (text (codes "unset") (text (codes "OPTARG") no_elements))) no_commands))) no_links) false
    (more_items (and_or (pipeline false (more_commands (simple 9 49 (assignment (codes "x") (only (Tilde 51 [])) (text (codes "f") no_elements)))
    (more_commands (compound 10 57 (For (codes "OPTARG") (listed (more_words (plain (codes "a")) no_words)) (lone (simple 11 76 (text (codes "f")
    no_elements))))) no_commands))) no_links) true (lone (simple 12 85 (assignment (codes "OPTARG") (only (Expansion 92 (Variable (codes "x")) (Use
    action.Assign true (plain (codes "2"))))) (text (codes "f") no_elements)))))))) (more_commands (simple 13 106 (text (codes "f") (operand (only
    (Double (only (Expansion 109 (Variable (codes "x")) (Use action.Default false (only (Expansion 113 (Variable (codes "x")) Value)))))))
    no_elements))) (more_commands (simple 14 120 (text (codes "unset") (text (codes "-v") (text (codes "OPTARG") no_elements)))) no_commands))))
    no_links) true (lone (simple 15 138 (text (codes "echo") (operand (only (quoted 144 (codes "x"))) no_elements)))))

abbrev pub script_63_sheet : Sheet
script_63_sheet =
    let a = known (codes "IFS OPTIND PPID x y") [] 0 in
    let b = known (codes "IFS OPTIND PPID x y") (codes "f") 0 in
    let c = known (codes "IFS OPTARG OPTIND PPID x y") (codes "f") 0 in
    let d = known (codes "! IFS OPTIND PPID x y") (codes "f") 0 in
    record {
      commands = row a b Unreached ∷ row b b Unreached ∷ row b b Unreached ∷ row b b Unreached ∷ row b b Unreached ∷ row b b b ∷ row b b
          Unreached ∷ row b b b ∷ row b b Unreached ∷ row b b b ∷ row c c Unreached ∷ row d d Unreached ∷ row b b Unreached ∷ row b b b ∷ row d d d ∷ [];
      heads = (10, b) ∷ [];
      functions = function (codes "f") b (dropping [] []) b Unreached ∷ [];
    }

-- `f() { NL x=~ f && while cmd a NL do NL f "$1" $! NL done NL x="$1" f "$#" ~ NL x=1 return 1 NL
-- } NL cat <<E >"$x" NL ${x} NL E NL echo $# || ! x=1 || f ${x+"$#"} & NL echo "$x"`
abbrev pub script_64_program : Items
script_64_program =
    alone (compound 1 0 (Define (codes "f") (compound 2 4 (Group (more_items (and_or (piece (simple 3 6 (assignment (codes "x") (only (Tilde 8 []))
    (text (codes "f") no_elements)))) (more_links link.AndThen (piece (compound 4 15 (Loop loop.While (lone (simple 5 21 (text (codes "cmd") (text
    (codes "a") no_elements)))) (lone (simple 6 30 (text (codes "f") (operand (only (quoted_parameter 33 (Positional 1))) (operand (only (Expansion
    37 (Special special.Exclamation) Value)) no_elements)))))))) no_links)) false (alone (simple 7 45 (assignment (codes "x") (only (quoted_parameter
    48 (Positional 1))) (text (codes "f") (operand (only (quoted_parameter 55 (Special special.NumberSign))) (operand (only (Tilde 59 []))
    no_elements))))) (lone (simple 8 61 (assignment (codes "x") (plain (codes "1")) (text (codes "return") (text (codes "1") no_elements)))))))))))
    (alone (simple 9 76 (text (codes "cat") (redirection (Here (more_parts (Expansion 90 (Variable (codes "x")) Value) (plain (codes "\n"))))
    (redirection (File (only (quoted 86 (codes "x")))) no_elements)))) (more_items (and_or (piece (simple 10 97 (text (codes "echo") (operand (only
    (Expansion 102 (Special special.NumberSign) Value)) no_elements)))) (more_links link.OrElse (pipeline true (more_commands (simple 11 110
    (assignment (codes "x") (plain (codes "1")) no_elements)) no_commands)) (more_links link.OrElse (piece (simple 12 117 (text (codes "f") (operand
    (only (Expansion 119 (Variable (codes "x")) (Use action.Alternative false (only (quoted_parameter 124 (Special special.NumberSign))))))
    no_elements)))) no_links))) true (lone (simple 13 131 (text (codes "echo") (operand (only (quoted 137 (codes "x"))) no_elements))))))

abbrev pub script_64_sheet : Sheet
script_64_sheet =
    let a = known (codes "IFS OPTIND PPID") [] 1 in
    let b = known (codes "IFS OPTIND PPID") (codes "f") 1 in
    let c = known (codes "IFS OPTIND PPID x") (codes "f") 0 in
    let d = known (codes "IFS OPTIND PPID x") (codes "f") 1 in
    let g = known (codes "! IFS OPTIND PPID") (codes "f") 1 in
    record {
      commands = row a b Unreached ∷ row c Unreached Unreached ∷ row c Unreached Unreached ∷ row Unreached Unreached Unreached ∷ row Unreached
          Unreached Unreached ∷ row Unreached Unreached Unreached ∷ row Unreached Unreached Unreached ∷ row Unreached Unreached Unreached ∷ row b b b ∷ row
          b b b ∷ row b d d ∷ row d Unreached Unreached ∷ row g g g ∷ [];
      heads = (4, Unreached) ∷ [];
      functions = function (codes "f") c (dropping [] [])
          Unreached Unreached ∷ [];
    }

-- `while f "$@" >"${y=f}"; do OPTARG=1; NL done | g() { cd /; } || y=1 g a | case a~ in a|"$y") f
-- "$@"& NL ;; *) unset -f g && set a "$@" | :; g; NL ;; esac || set -e;`
abbrev pub script_65_program : Items
script_65_program =
    more_items (and_or (pipeline false (more_commands (compound 1 0 (Loop loop.While (lone (simple 2 6 (text (codes "f") (operand (only
    (quoted_parameter 9 (Special special.At))) (redirection (File (only (Double (only (Expansion 15 (Variable (codes "y")) (Use action.Assign false
    (plain (codes "f")))))))) no_elements))))) (lone (simple 3 27 (assignment (codes "OPTARG") (plain (codes "1")) no_elements))))) (more_commands
    (compound 4 44 (Define (codes "g") (compound 5 48 (Group (lone (simple 6 50 (text (codes "cd") (text (codes "/") no_elements))))))))
    no_commands))) (more_links link.OrElse (pipeline false (more_commands (simple 7 61 (assignment (codes "y") (plain (codes "1")) (text (codes "g")
    (text (codes "a") no_elements)))) (more_commands (compound 8 71 (Case (plain (codes "a~")) (more_clauses (more_words (plain (codes "a"))
    (more_words (only (quoted 85 (codes "y"))) no_words)) (more_items (and_or (piece (simple 9 90 (text (codes "f") (operand (only (quoted_parameter
    93 (Special special.At))) no_elements)))) no_links) true no_items) clause.Break (more_clauses (more_words (plain (codes "*")) no_words)
    (more_items (and_or (piece (simple 10 104 (text (codes "unset") (text (codes "-f") (text (codes "g") no_elements))))) (more_links link.AndThen
    (pipeline false (more_commands (simple 11 118 (text (codes "set") (text (codes "a") (operand (only (quoted_parameter 125 (Special special.At)))
    no_elements)))) (more_commands (simple 12 131 (text (codes ":") no_elements)) no_commands))) no_links)) false (lone (simple 13 134 (text
    (codes "g") no_elements)))) clause.Break no_clauses)))) no_commands))) (more_links link.OrElse (piece (simple 14 148 (text (codes "set") (text
    (codes "-e") no_elements)))) no_links))) false no_items

abbrev pub script_65_sheet : Sheet
script_65_sheet =
    let a = known (codes "IFS OPTIND PPID x") [] 1 in
    let b = known (codes "IFS OPTARG OPTIND PPID x") [] 1 in
    let c = known (codes "IFS OPTIND PPID x") (codes "g") 1 in
    let d = known (codes "IFS OPTIND PPID x") [] 0 in
    let g = known (codes "IFS OPTIND PPID x") [] 2 in
    record {
      commands = row a a a ∷ row a a a ∷ row a b b ∷ row a c Unreached ∷ row d d d ∷ row d d d ∷ row a a a ∷ row a a a ∷ row a a a ∷ row a a a
          ∷ row a g a ∷ row a a Unreached ∷ row a a a ∷ row a a a ∷ [];
      heads = (1, a) ∷ [];
      functions = function (codes "g") d (dropping [] []) d d ∷ [];
    }

-- `f() { NL shift 1 NL } NL echo "$!" NL false NL echo "$2" NL while echo "$x" NL do NL
-- case a in NL (a) NL echo "$x" $# NL ;& NL (*) NL ;; NL (* | "$x") NL x= x="${x:?$x}" NL ;; NL
-- esac <"${x=1}" >"$x" NL done | NL x=1 f || x=1 NL echo $((x)) NL echo "$x"`
abbrev pub script_66_program : Items
script_66_program =
    alone (compound 1 0 (Define (codes "f") (compound 2 4 (Group (lone (simple 3 6 (text (codes "shift") (text (codes "1") no_elements)))))))) (alone
    (simple 4 16 (text (codes "echo") (operand (only (quoted_parameter 22 (Special special.Exclamation))) no_elements))) (alone (simple 5 26 (text
    (codes "false") no_elements)) (alone (simple 6 32 (text (codes "echo") (operand (only (quoted_parameter 38 (Positional 2))) no_elements)))
    (more_items (and_or (pipeline false (more_commands (compound 7 42 (Loop loop.While (lone (simple 8 48 (text (codes "echo") (operand (only (quoted
    54 (codes "x"))) no_elements)))) (lone (command 9 61 (Case (plain (codes "a")) (more_clauses (more_words (plain (codes "a")) no_words) (lone
    (simple 10 75 (text (codes "echo") (operand (only (quoted 81 (codes "x"))) (operand (only (Expansion 85 (Special special.NumberSign) Value))
    no_elements))))) clause.FallThrough (more_clauses (more_words (plain (codes "*")) no_words) no_items clause.Break (more_clauses (more_words
    (plain (codes "*")) (more_words (only (quoted 104 (codes "x"))) no_words)) (lone (simple 11 109 (assignment (codes "x") no_parts (assignment
    (codes "x") (only (Double (only (Expansion 115 (Variable (codes "x")) (Use action.Fault true (only (Expansion 120 (Variable (codes "x"))
    Value))))))) no_elements)))) clause.Break no_clauses)))) (more_redirects (File (only (Double (only (Expansion 135 (Variable (codes "x")) (Use
    action.Assign false (plain (codes "1")))))))) (more_redirects (File (only (quoted 145 (codes "x")))) no_redirects)))))) (more_commands (simple 12
    156 (assignment (codes "x") (plain (codes "1")) (text (codes "f") no_elements))) no_commands))) (more_links link.OrElse (piece (simple 13 165
    (assignment (codes "x") (plain (codes "1")) no_elements))) no_links)) false (alone (simple 14 169 (text (codes "echo") (operand (only (Arithmetic
    174 (Name 177 (codes "x")))) no_elements))) (lone (simple 15 181 (text (codes "echo") (operand (only (quoted 187 (codes "x"))) no_elements)))))))))

abbrev pub script_66_sheet : Sheet
script_66_sheet =
    let a = known (codes "IFS OPTIND PPID") [] 0 in
    let b = known (codes "IFS OPTIND PPID") (codes "f") 0 in
    let c = known (codes "IFS OPTIND PPID x") (codes "f") 0 in
    record {
      commands = row a b Unreached ∷ row c c c ∷ row c c c ∷ row b b b ∷ row b Unreached b ∷ row b b b ∷ row b b b ∷ row b b b ∷ row b c b ∷
          row c c c ∷ row c c c ∷ row b b b ∷ row b c c ∷ row b b b ∷ row b b b ∷ [];
      heads = (7, b) ∷ [];
      functions = function (codes "f") c (dropping [] []) c c ∷ [];
    }

pub record LongerScriptsAsExpected : Type 0 where
  pub script_41 :
      answers (declared (codes "x") 0) script_41_program script_41_sheet (Claiming (AfterNonzero 5) (known (codes "IFS OPTIND x") [] 0) ∷ Claiming
      (AfterZero 6) (known (codes "OPTIND PPID") [] 0) ∷ [])
      ≡ Unmet ([]) ∷ Breaks 6 F2 ∷ Breaks 1 F6 ∷ []
  pub script_42 :
      answers (declared (codes "x") 1) script_42_program script_42_sheet (Claiming (Before 6) (known (codes "OPTIND PPID x") (codes "f") 1) ∷
      Claiming (AfterZero 4) (known (codes "OPTIND PPID x") (codes "f") 1) ∷ Claiming (AfterZero 5) (known (codes "OPTIND PPID x") (codes "f") 1) ∷
      [])
      ≡ Unmet (place 21 U1 (codes "OPTARG") ∷ place 55 U1 (codes "2") ∷ []) ∷ Breaks 6 F14 ∷ Breaks 7 F2 ∷ Breaks 6 F2 ∷ []
  pub script_43 :
      answers (declared (codes "x y") 2) script_43_program script_43_sheet (Claiming (AfterZero 7) (known (codes "OPTIND PPID x y") (codes "f") 2) ∷
      Claiming (AfterZero 1) (known (codes "IFS OPTIND PPID x y") [] 3) ∷ Claiming (ReturnsNonzero (codes "f")) Unreached ∷ [])
      ≡ Unmet ([]) ∷ Breaks 1 F7 ∷ Breaks 1 F7 ∷ Breaks 4 F13 ∷ []
  pub script_44 :
      answers (declared [] 0) script_44_program script_44_sheet (Claiming (AfterZero 3) (known (codes "IFS OPTIND PPID x") [] 1) ∷ Claiming
      (AfterZero 1) (known (codes "IFS OPTIND x") [] 0) ∷ [])
      ≡ Unmet (place 42 U3 (codes "OPTARG") ∷ place 70 U1 (codes "OPTARG") ∷ []) ∷ Breaks 3 F4 ∷ Breaks 2 F3 ∷ []
  pub script_45 :
      answers (declared [] 0) script_45_program script_45_sheet (Claiming (AfterZero 6) (known [] [] 0) ∷ Claiming (AfterZero 1) (known
      (codes "IFS OPTIND PPID") [] 0) ∷ Claiming (AfterNonzero 4) (known [] [] 0) ∷ [])
      ≡ Unmet (place 6 P1 (codes "g") ∷ place 6 P1 (codes "IFS") ∷ []) ∷ Breaks 7 F3 ∷ Breaks 6 F2 ∷ Breaks 5 F2 ∷ []
  pub script_46 :
      answers (declared (codes "x y") 2) script_46_program script_46_sheet (Claiming (Before 4) (known (codes "IFS OPTIND PPID x y") [] 2) ∷ Claiming
      (Before 2) (known (codes "IFS OPTARG OPTIND PPID x y") (codes "f") 1) ∷ Claiming (Before 3) (known (codes "IFS OPTARG OPTIND x y") (codes "f")
      2) ∷ [])
      ≡ Unmet (place 12 U1 (codes "!") ∷ place 59 U1 (codes "OPTARG") ∷ []) ∷ Breaks 4 F14 ∷ Breaks 3 F10 ∷ Breaks 3 F4 ∷ []
  pub script_47 :
      answers (declared (codes "x") 0) script_47_program script_47_sheet (Claiming (AfterZero 6) (known (codes "IFS OPTIND x") (codes "f") 0) ∷
      Claiming (Before 2) (known [] [] 0) ∷ Claiming (Before 3) (known (codes "IFS OPTIND PPID") [] 0) ∷ [])
      ≡ Unmet ([]) ∷ Breaks 5 F8 ∷ Breaks 3 F10 ∷ Breaks 3 F15 ∷ []
  pub script_48 :
      answers (declared (codes "x y") 0) script_48_program script_48_sheet (Claiming (AfterNonzero 4) (known [] [] 0) ∷ Claiming (Before 6) (known
      (codes "IFS OPTIND PPID x y") [] 0) ∷ Claiming (AfterZero 2) (known [] [] 0) ∷ [])
      ≡ Unmet (place 24 U1 (codes "1") ∷ place 54 U1 (codes "1") ∷ place 79 U1 (codes "1") ∷ []) ∷ Breaks 5 F12 ∷ Breaks 6 F5 ∷ Breaks 2 F13 ∷ []
  pub script_49 :
      answers (declared (codes "x") 1) script_49_program script_49_sheet (Claiming (AfterNonzero 1) (known [] [] 0) ∷ Claiming (AfterNonzero 7)
      Unreached ∷ Claiming (AfterNonzero 9) (known (codes "IFS OPTIND PPID x") (codes "f g") 2) ∷ [])
      ≡ Unmet ([]) ∷ Breaks 4 F2 ∷ Breaks 7 F9 ∷ Breaks 9 F4 ∷ []
  pub script_50 :
      answers (declared [] 2) script_50_program script_50_sheet (Claiming (ReturnsNonzero (codes "x")) (known (codes "IFS OPTIND PPID") [] 0) ∷
      Claiming (AfterNonzero 3) (known (codes "IFS OPTIND PPID") [] 0) ∷ Claiming (Before 3) (known [] [] 0) ∷ [])
      ≡ Unmet (place 21 U1 (codes "x") ∷ place 77 U1 (codes "x") ∷ place 87 U1 (codes "x") ∷ []) ∷ Unmet (place 21 U1 (codes "x") ∷ place 77 U1
      (codes "x") ∷ place 87 U1 (codes "x") ∷ []) ∷ Breaks 2 F10 ∷ Breaks 3 F15 ∷ []
  pub script_51 :
      answers (declared (codes "x") 1) script_51_program script_51_sheet (Claiming (Before 2) (known (codes "IFS OPTIND PPID") [] 0) ∷ Claiming
      (AfterNonzero 8) Unreached ∷ Claiming (Before 1) Unreached ∷ [])
      ≡ Unmet (place 70 U3 (codes "OPTARG") ∷ []) ∷ Breaks 3 F10 ∷ Breaks 8 F4 ∷ Breaks 1 F1 ∷ []
  pub script_52 :
      answers (declared (codes "x y") 1) script_52_program script_52_sheet (Claiming (AfterZero 5) (known [] [] 0) ∷ Claiming (Entry (codes "g"))
      (known [] [] 0) ∷ Claiming (ReturnsZero (codes "g")) (known (codes "IFS OPTIND PPID") [] 0) ∷ [])
      ≡ Unmet (place 0 P2 [] ∷ []) ∷ Breaks 6 F2 ∷ Breaks 8 F13 ∷ Unmet (place 0 P2 [] ∷ []) ∷ []
  pub script_53 :
      answers (declared [] 0) script_53_program script_53_sheet (Claiming (AfterZero 6) (known (codes "IFS OPTIND PPID y") (codes "f") 1) ∷ Claiming
      (AfterZero 9) (known (codes "OPTIND PPID x y") (codes "f") 0) ∷ Claiming (AfterNonzero 10) (known (codes "IFS PPID") (codes "f") 0) ∷ [])
      ≡ Unmet (place 44 U1 (codes "y") ∷ place 56 U2 (codes "HOME") ∷ place 68 U1 (codes "x") ∷ place 81 U1 (codes "1") ∷ place 102 U1 (codes "y") ∷
      []) ∷ Breaks 6 F5 ∷ Breaks 8 F9 ∷ Unmet (place 44 U1 (codes "y") ∷ place 56 U2 (codes "HOME") ∷ place 68 U1 (codes "x") ∷ place 81 U1
      (codes "1") ∷ place 102 U1 (codes "y") ∷ []) ∷ []
  pub script_54 :
      answers (declared (codes "x y") 0) script_54_program script_54_sheet (Claiming (AfterZero 5) (known [] [] 0) ∷ Claiming (Before 2) (known
      (codes "IFS OPTIND PPID") [] 0) ∷ Claiming (Before 3) (known [] [] 0) ∷ [])
      ≡ Unmet ([]) ∷ Unmet ([]) ∷ Breaks 3 F10 ∷ Breaks 3 F9 ∷ []
  pub script_55 :
      answers (declared [] 0) script_55_program script_55_sheet (Claiming (AfterNonzero 2) (known (codes "IFS OPTIND PPID") [] 0) ∷ Claiming
      (AfterZero 6) (known (codes "OPTIND PPID") [] 1) ∷ Claiming (Before 6) Unreached ∷ [])
      ≡ Unmet (place 28 P2 [] ∷ place 54 U1 (codes "y") ∷ place 62 U1 (codes "!") ∷ place 96 U1 (codes "x") ∷ []) ∷ Breaks 2 F4 ∷ Breaks 6 F4 ∷
      Breaks 6 F3 ∷ []
  pub script_56 :
      answers (declared (codes "x y") 0) script_56_program script_56_sheet (Claiming (Before 10) (known [] [] 0) ∷ Claiming (AfterZero 3) (known
      (codes "IFS OPTIND PPID") [] 0) ∷ Claiming (Before 8) (known [] [] 0) ∷ [])
      ≡ Unmet ([]) ∷ Breaks 10 F14 ∷ Breaks 4 F6 ∷ Breaks 8 F13 ∷ []
  pub script_57 :
      answers (declared (codes "x") 0) script_57_program script_57_sheet (Claiming (AfterNonzero 3) (known (codes "IFS OPTIND PPID x") [] 1) ∷
      Claiming (AfterNonzero 4) Unreached ∷ Claiming (Before 5) Unreached ∷ [])
      ≡ Unmet ([]) ∷ Breaks 3 F4 ∷ Breaks 4 F6 ∷ Breaks 5 F11 ∷ []
  pub script_58 :
      answers (declared [] 0) script_58_program script_58_sheet (Claiming (Entry (codes "g")) (known [] [] 0) ∷ Claiming (AfterZero 10) (known
      (codes "IFS OPTIND PPID") (codes "g") 0) ∷ Claiming (Before 6) (known (codes "OPTIND PPID") (codes "g") 0) ∷ [])
      ≡ Unmet (place 101 P1 (codes "g") ∷ place 111 P2 [] ∷ []) ∷ Breaks 2 F13 ∷ Breaks 10 F4 ∷ Breaks 6 F8 ∷ []
  pub script_59 :
      answers (declared (codes "x y") 2) script_59_program script_59_sheet (Claiming (AfterZero 9) (known (codes "IFS OPTIND PPID") [] 0) ∷ Claiming
      (AfterZero 8) (known (codes "IFS OPTIND PPID") [] 0) ∷ Claiming (Entry (codes "f")) (known (codes "IFS OPTIND x y") (codes "f") 1) ∷ [])
      ≡ Unmet ([]) ∷ Breaks 4 F7 ∷ Breaks 9 F2 ∷ Breaks 2 F13 ∷ []
  pub script_60 :
      answers (declared (codes "x y") 1) script_60_program script_60_sheet (Claiming (AfterNonzero 4) (known (codes "IFS OPTIND PPID x y") [] 1) ∷
      Claiming (AfterZero 4) (known (codes "! IFS OPTIND PPID x y") [] 0) ∷ Claiming (Before 2) (known (codes "! IFS OPTIND PPID x y") [] 0) ∷ [])
      ≡ Unmet (place 70 U2 (codes "HOME") ∷ place 63 P2 [] ∷ []) ∷ Breaks 4 F4 ∷ Breaks 4 F4 ∷ Breaks 2 F2 ∷ []
  pub script_61 :
      answers (declared [] 2) script_61_program script_61_sheet (Claiming (AfterNonzero 6) (known (codes "IFS OPTIND PPID") [] 2) ∷ Claiming
      (ReturnsZero (codes "g")) (known (codes "IFS OPTIND PPID x") (codes "f") 0) ∷ Claiming (AfterNonzero 10) (known (codes "OPTIND PPID x")
      (codes "f") 1) ∷ [])
      ≡ Unmet (place 63 U3 (codes "x") ∷ place 85 U1 (codes "y") ∷ place 101 U1 (codes "!") ∷ place 117 U1 (codes "x") ∷ []) ∷ Breaks 7 F7 ∷ Unmet
      (place 63 U3 (codes "x") ∷ place 85 U1 (codes "y") ∷ place 101 U1 (codes "!") ∷ place 117 U1 (codes "x") ∷ []) ∷ Breaks 10 F13 ∷ []
  pub script_62 :
      answers (declared (codes "x") 0) script_62_program script_62_sheet (Claiming (AfterNonzero 12) (known (codes "! IFS OPTIND PPID x y")
      (codes "g") 1) ∷ Claiming (Before 10) (known (codes "IFS OPTIND PPID x y") (codes "g") 0) ∷ Claiming (AfterZero 11) (known (codes "IFS PPID x")
      (codes "g") 0) ∷ [])
      ≡ Unmet (place 121 P1 (codes "OPTARG") ∷ []) ∷ Breaks 12 F5 ∷ Breaks 10 F12 ∷ Unmet (place 121 P1 (codes "OPTARG") ∷ []) ∷ []
  pub script_63 :
      answers (declared (codes "x y") 0) script_63_program script_63_sheet (Claiming (AfterNonzero 15) Unreached ∷ Claiming (Before 13) (known
      (codes "! IFS OPTIND PPID x y") (codes "f") 0) ∷ Claiming (AfterZero 3) (known (codes "OPTIND PPID x y") (codes "f") 0) ∷ [])
      ≡ Unmet (place 36 P1 (codes "OPTARG") ∷ place 51 U2 (codes "HOME") ∷ place 120 P1 (codes "OPTARG") ∷ []) ∷ Breaks 15 F4 ∷ Breaks 13 F12 ∷
      Breaks 2 F10 ∷ []
  pub script_64 :
      answers (declared [] 1) script_64_program script_64_sheet (Claiming (AfterNonzero 6) (known (codes "IFS OPTIND PPID") [] 0) ∷ Claiming (Before
      6) (known [] [] 0) ∷ Claiming (AfterZero 11) (known (codes "IFS OPTIND PPID x") (codes "f") 0) ∷ [])
      ≡ Unmet (place 8 U2 (codes "HOME") ∷ place 90 U1 (codes "x") ∷ place 86 U1 (codes "x") ∷ place 137 U1 (codes "x") ∷ []) ∷ Breaks 4 F7 ∷ Breaks
      6 F14 ∷ Breaks 12 F3 ∷ []
  pub script_65 :
      answers (declared (codes "x") 1) script_65_program script_65_sheet (Claiming (Before 4) (known (codes "IFS OPTIND PPID x") [] 2) ∷ Claiming
      (AfterZero 5) Unreached ∷ Claiming (AfterZero 9) (known (codes "IFS OPTIND PPID x") [] 0) ∷ [])
      ≡ Unmet (place 61 P1 (codes "y") ∷ place 85 U1 (codes "y") ∷ place 104 P1 (codes "g") ∷ place 118 P2 [] ∷ []) ∷ Breaks 4 F12 ∷ Breaks 5 F10 ∷
      Unmet (place 61 P1 (codes "y") ∷ place 85 U1 (codes "y") ∷ place 104 P1 (codes "g") ∷ place 118 P2 [] ∷ []) ∷ []
  pub script_66 :
      answers (declared [] 0) script_66_program script_66_sheet (Claiming (AfterNonzero 3) (known (codes "IFS OPTIND PPID x") (codes "f") 1) ∷
      Claiming (AfterZero 6) (known (codes "OPTIND PPID") (codes "f") 0) ∷ Claiming (Before 15) (known (codes "IFS OPTIND PPID") [] 0) ∷ [])
      ≡ Unmet (place 22 U1 (codes "!") ∷ place 38 U1 (codes "2") ∷ place 54 U1 (codes "x") ∷ place 156 P1 (codes "x") ∷ place 177 U3 (codes "x") ∷
      place 187 U1 (codes "x") ∷ []) ∷ Breaks 3 F4 ∷ Breaks 7 F12 ∷ Breaks 15 F4 ∷ []
