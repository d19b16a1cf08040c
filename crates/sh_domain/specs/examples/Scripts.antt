-- Scripts of some commands, each with its greatest certificate, that with one fact changed, and
-- what a check reports.
-- POSIX.1-2024, XCU 2.6 (word expansions), 2.9 (shell commands), 2.15 (special built-in utilities),
-- 3 (getopts, read).
use Rattle.std.specs.Prelude.{◌≡◌, true, false, [], ◌∷◌, codes}
use Rattle.sh_tree.specs.declared.place.Code.TheVariants.{U1, U2, U3}
use Rattle.sh_tree.specs.declared.tree.Action.TheVariants as action
use Rattle.sh_tree.specs.declared.tree.ClauseEnd.TheVariants as clause
use Rattle.sh_tree.specs.declared.tree.Link.TheVariants as link
use Rattle.sh_tree.specs.declared.tree.LoopKind.TheVariants as loop
use Rattle.sh_tree.specs.declared.tree.Special.TheVariants as special
use Rattle.sh_tree.specs.examples.Program.{only, plain, simple, alone, lone}
use Rattle.sh_tree.specs.standard.program.Syntax.{Items, Variable, Positional, Special, Plain, Double, Expansion, Arithmetic, Tilde, no_parts, more_parts, Value, Length, Use, Name, no_items, more_items, and_or, no_links, more_links, pipeline, no_commands, more_commands, command, Group, Conditional, Loop, For, Case, Define, no_elements, assignment, operand, redirection, File, no_redirects, more_redirects, no_branches, more_branches, no_else, every_parameter, listed, no_words, more_words, no_clauses, more_clauses}
use Rattle.sh_runs.specs.examples.Steps.{piece}
use Rattle.sh_domain.specs.Facts.{Unreached}
use Rattle.sh_domain.specs.Views.{Before, AfterZero, AfterNonzero, Entry, ReturnsZero, ReturnsNonzero}
use Rattle.sh_domain.specs.declared.rule.FlowRule.TheVariants.{F1, F2, F3, F4, F5, F6, F7, F8, F9, F10, F11, F13, F14}
use Rattle.sh_domain.specs.examples.Programs.{quoted, quoted_parameter, text, compound, known, dropping, row, function, Sheet, Claiming, declared, place, Breaks, Unmet, answers}

-- `f :;`
abbrev pub script_1_program : Items
script_1_program =
    lone (simple 1 0 (text (codes "f") (text (codes ":") no_elements)))

abbrev pub script_1_sheet : Sheet
script_1_sheet =
    let a = known (codes "IFS OPTIND PPID") [] 0 in
    record { commands = row a a a ∷ []; heads = []; functions = [] }

-- `export y=:; `
abbrev pub script_2_program : Items
script_2_program =
    lone (simple 1 0 (text (codes "export") (text (codes "y=:") no_elements)))

abbrev pub script_2_sheet : Sheet
script_2_sheet =
    let a = known (codes "IFS OPTIND PPID") [] 0 in
    let b = known (codes "IFS OPTIND PPID y") [] 0 in
    record { commands = row a b b ∷ []; heads = []; functions = [] }

-- `export f=a~; `
abbrev pub script_3_program : Items
script_3_program =
    lone (simple 1 0 (text (codes "export") (text (codes "f=a~") no_elements)))

abbrev pub script_3_sheet : Sheet
script_3_sheet =
    let a = known (codes "IFS OPTIND PPID") [] 0 in
    let b = known (codes "IFS OPTIND PPID f") [] 0 in
    record { commands = row a b b ∷ []; heads = []; functions = [] }

-- `OPTARG=1; `
abbrev pub script_4_program : Items
script_4_program =
    lone (simple 1 0 (assignment (codes "OPTARG") (plain (codes "1")) no_elements))

abbrev pub script_4_sheet : Sheet
script_4_sheet =
    let a = known (codes "IFS OPTIND PPID x") [] 0 in
    let b = known (codes "IFS OPTARG OPTIND PPID x") [] 0 in
    record { commands = row a b b ∷ []; heads = []; functions = [] }

-- `trap - INT;`
abbrev pub script_5_program : Items
script_5_program =
    lone (simple 1 0 (text (codes "trap") (text (codes "-") (text (codes "INT") no_elements))))

abbrev pub script_5_sheet : Sheet
script_5_sheet =
    let a = known (codes "IFS OPTIND PPID") [] 0 in
    record { commands = row a a a ∷ []; heads = []; functions = [] }

-- `f "$@"; `
abbrev pub script_6_program : Items
script_6_program =
    lone (simple 1 0 (text (codes "f") (operand (only (quoted_parameter 3 (Special special.At))) no_elements)))

abbrev pub script_6_sheet : Sheet
script_6_sheet =
    let a = known (codes "IFS OPTIND PPID x y") [] 0 in
    record { commands = row a a a ∷ []; heads = []; functions = [] }

-- `f "$@";`
abbrev pub script_7_program : Items
script_7_program =
    lone (simple 1 0 (text (codes "f") (operand (only (quoted_parameter 3 (Special special.At))) no_elements)))

abbrev pub script_7_sheet : Sheet
script_7_sheet =
    let a = known (codes "IFS OPTIND PPID x y") [] 0 in
    record { commands = row a a a ∷ []; heads = []; functions = [] }

-- `x=1 f a;`
abbrev pub script_8_program : Items
script_8_program =
    lone (simple 1 0 (assignment (codes "x") (plain (codes "1")) (text (codes "f") (text (codes "a") no_elements))))

abbrev pub script_8_sheet : Sheet
script_8_sheet =
    let a = known (codes "IFS OPTIND PPID") [] 2 in
    record { commands = row a a a ∷ []; heads = []; functions = [] }

-- `set a "$@"; `
abbrev pub script_9_program : Items
script_9_program =
    lone (simple 1 0 (text (codes "set") (text (codes "a") (operand (only (quoted_parameter 7 (Special special.At))) no_elements))))

abbrev pub script_9_sheet : Sheet
script_9_sheet =
    let a = known (codes "IFS OPTIND PPID x") [] 0 in
    let b = known (codes "IFS OPTIND PPID x") [] 1 in
    record { commands = row a b a ∷ []; heads = []; functions = [] }

-- `x=1 read g g;`
abbrev pub script_10_program : Items
script_10_program =
    lone (simple 1 0 (assignment (codes "x") (plain (codes "1")) (text (codes "read") (text (codes "g") (text (codes "g") no_elements)))))

abbrev pub script_10_sheet : Sheet
script_10_sheet =
    let a = known (codes "IFS OPTIND PPID x y") [] 0 in
    let b = known (codes "IFS OPTIND PPID g x y") [] 0 in
    record { commands = row a b a ∷ []; heads = []; functions = [] }

-- `x=1 read g y; `
abbrev pub script_11_program : Items
script_11_program =
    lone (simple 1 0 (assignment (codes "x") (plain (codes "1")) (text (codes "read") (text (codes "g") (text (codes "y") no_elements)))))

abbrev pub script_11_sheet : Sheet
script_11_sheet =
    let a = known (codes "IFS OPTIND PPID x") [] 2 in
    let b = known (codes "IFS OPTIND PPID g x y") [] 2 in
    record { commands = row a b a ∷ []; heads = []; functions = [] }

-- `! exec; `
abbrev pub script_12_program : Items
script_12_program =
    more_items (and_or (pipeline true (more_commands (simple 1 2 (text (codes "exec") no_elements)) no_commands)) no_links) false no_items

abbrev pub script_12_sheet : Sheet
script_12_sheet =
    let a = known (codes "IFS OPTIND PPID x y") [] 0 in
    record { commands = row a a a ∷ []; heads = []; functions = [] }

-- `! shift;`
abbrev pub script_13_program : Items
script_13_program =
    more_items (and_or (pipeline true (more_commands (simple 1 2 (text (codes "shift") no_elements)) no_commands)) no_links) false no_items

abbrev pub script_13_sheet : Sheet
script_13_sheet =
    let a = known (codes "IFS OPTIND PPID") [] 0 in
    record { commands = row a a a ∷ []; heads = []; functions = [] }

-- `! shift; `
abbrev pub script_14_program : Items
script_14_program =
    more_items (and_or (pipeline true (more_commands (simple 1 2 (text (codes "shift") no_elements)) no_commands)) no_links) false no_items

abbrev pub script_14_sheet : Sheet
script_14_sheet =
    let a = known (codes "IFS OPTIND PPID x y") [] 0 in
    record { commands = row a a a ∷ []; heads = []; functions = [] }

-- `trap - INT; y; `
abbrev pub script_15_program : Items
script_15_program =
    alone (simple 1 0 (text (codes "trap") (text (codes "-") (text (codes "INT") no_elements)))) (lone (simple 2 12 (text (codes "y") no_elements)))

abbrev pub script_15_sheet : Sheet
script_15_sheet =
    let a = known (codes "IFS OPTIND PPID x") [] 0 in
    record { commands = row a a a ∷ row a a a ∷ []; heads = []; functions = [] }

-- `exit; NL read -r f;`
abbrev pub script_16_program : Items
script_16_program =
    alone (simple 1 0 (text (codes "exit") no_elements)) (lone (simple 2 6 (text (codes "read") (text (codes "-r") (text (codes "f") no_elements)))))

abbrev pub script_16_sheet : Sheet
script_16_sheet =
    let a = known (codes "IFS OPTIND PPID") [] 0 in
    record { commands = row a Unreached Unreached ∷ row Unreached Unreached Unreached ∷ []; heads = []; functions = [] }

-- `IFS; command -v a; `
abbrev pub script_17_program : Items
script_17_program =
    alone (simple 1 0 (text (codes "IFS") no_elements)) (lone (simple 2 5 (text (codes "command") (text (codes "-v") (text (codes "a")
    no_elements)))))

abbrev pub script_17_sheet : Sheet
script_17_sheet =
    let a = known (codes "IFS OPTIND PPID") [] 0 in
    record { commands = row a a a ∷ row a a a ∷ []; heads = []; functions = [] }

-- `! unset f;`
abbrev pub script_18_program : Items
script_18_program =
    more_items (and_or (pipeline true (more_commands (simple 1 2 (text (codes "unset") (text (codes "f") no_elements))) no_commands)) no_links) false
    no_items

abbrev pub script_18_sheet : Sheet
script_18_sheet =
    let a = known (codes "IFS OPTIND PPID x") [] 0 in
    record { commands = row a a a ∷ []; heads = []; functions = [] }

-- `IFS="$2"w y=1; `
abbrev pub script_19_program : Items
script_19_program =
    lone (simple 1 0 (assignment (codes "IFS") (more_parts (quoted_parameter 5 (Positional 2)) (plain (codes "w"))) (assignment (codes "y") (plain
    (codes "1")) no_elements)))

abbrev pub script_19_sheet : Sheet
script_19_sheet =
    let a = known (codes "IFS OPTIND PPID x y") [] 1 in
    record { commands = row a a a ∷ []; heads = []; functions = [] }

-- `OPTARG=1; trap - INT;`
abbrev pub script_20_program : Items
script_20_program =
    alone (simple 1 0 (assignment (codes "OPTARG") (plain (codes "1")) no_elements)) (lone (simple 2 10 (text (codes "trap") (text (codes "-") (text
    (codes "INT") no_elements)))))

abbrev pub script_20_sheet : Sheet
script_20_sheet =
    let a = known (codes "IFS OPTIND PPID x") [] 0 in
    let b = known (codes "IFS OPTARG OPTIND PPID x") [] 0 in
    record { commands = row a b b ∷ row b b b ∷ []; heads = []; functions = [] }

-- `exit || exit; `
abbrev pub script_21_program : Items
script_21_program =
    more_items (and_or (piece (simple 1 0 (text (codes "exit") no_elements))) (more_links link.OrElse (piece (simple 2 8 (text (codes "exit")
    no_elements))) no_links)) false no_items

abbrev pub script_21_sheet : Sheet
script_21_sheet =
    let a = known (codes "IFS OPTIND PPID x y") [] 1 in
    record { commands = row a Unreached Unreached ∷ row Unreached Unreached Unreached ∷ []; heads = []; functions = [] }

-- `exit && cd /;`
abbrev pub script_22_program : Items
script_22_program =
    more_items (and_or (piece (simple 1 0 (text (codes "exit") no_elements))) (more_links link.AndThen (piece (simple 2 8 (text (codes "cd") (text
    (codes "/") no_elements)))) no_links)) false no_items

abbrev pub script_22_sheet : Sheet
script_22_sheet =
    let a = known (codes "IFS OPTIND PPID") [] 0 in
    record { commands = row a Unreached Unreached ∷ row Unreached Unreached Unreached ∷ []; heads = []; functions = [] }

-- `exec& NL unset -v f IFS; `
abbrev pub script_23_program : Items
script_23_program =
    more_items (and_or (piece (simple 1 0 (text (codes "exec") no_elements))) no_links) true (lone (simple 2 6 (text (codes "unset") (text
    (codes "-v") (text (codes "f") (text (codes "IFS") no_elements))))))

abbrev pub script_23_sheet : Sheet
script_23_sheet =
    let a = known (codes "IFS OPTIND PPID") [] 1 in
    let b = known (codes "! IFS OPTIND PPID") [] 1 in
    let c = known (codes "! OPTIND PPID") [] 1 in
    record { commands = row a a a ∷ row b c c ∷ []; heads = []; functions = [] }

-- `OPTARG=1 || cd /;`
abbrev pub script_24_program : Items
script_24_program =
    more_items (and_or (piece (simple 1 0 (assignment (codes "OPTARG") (plain (codes "1")) no_elements))) (more_links link.OrElse (piece (simple 2 12
    (text (codes "cd") (text (codes "/") no_elements)))) no_links)) false no_items

abbrev pub script_24_sheet : Sheet
script_24_sheet =
    let a = known (codes "IFS OPTIND PPID") [] 0 in
    let b = known (codes "IFS OPTARG OPTIND PPID") [] 0 in
    record { commands = row a b b ∷ row b b b ∷ []; heads = []; functions = [] }

-- `f() { cd /; } >|f; unset -f IFS; `
abbrev pub script_25_program : Items
script_25_program =
    alone (compound 1 0 (Define (codes "f") (command 2 4 (Group (lone (simple 3 6 (text (codes "cd") (text (codes "/") no_elements)))))
    (more_redirects (File (plain (codes "f"))) no_redirects)))) (lone (simple 4 19 (text (codes "unset") (text (codes "-f") (text (codes "IFS")
    no_elements)))))

abbrev pub script_25_sheet : Sheet
script_25_sheet =
    let a = known (codes "IFS OPTIND PPID") [] 0 in
    let b = known (codes "IFS OPTIND PPID") (codes "f") 0 in
    record {
      commands = row a b Unreached ∷ row Unreached Unreached Unreached ∷ row Unreached Unreached Unreached ∷ row b b b ∷ [];
      heads = [];
      functions = function (codes "f") Unreached (dropping [] []) Unreached Unreached ∷ [];
    }

-- `f "$@"; NL ! x=1 read g g& `
abbrev pub script_26_program : Items
script_26_program =
    alone (simple 1 0 (text (codes "f") (operand (only (quoted_parameter 3 (Special special.At))) no_elements))) (more_items (and_or (pipeline true
    (more_commands (simple 2 10 (assignment (codes "x") (plain (codes "1")) (text (codes "read") (text (codes "g") (text (codes "g") no_elements)))))
    no_commands)) no_links) true no_items)

abbrev pub script_26_sheet : Sheet
script_26_sheet =
    let a = known (codes "IFS OPTIND PPID") [] 0 in
    let b = known (codes "IFS OPTIND PPID g") [] 0 in
    record { commands = row a a a ∷ row a b a ∷ []; heads = []; functions = [] }

-- `set -- -r ${f:+}; for x do exit; NL done&`
abbrev pub script_27_program : Items
script_27_program =
    alone (simple 1 0 (text (codes "set") (text (codes "--") (text (codes "-r") (operand (only (Expansion 10 (Variable (codes "f")) (Use
    action.Alternative true no_parts))) no_elements))))) (more_items (and_or (piece (compound 2 18 (For (codes "x") every_parameter (lone (simple 3
    27 (text (codes "exit") no_elements)))))) no_links) true no_items)

abbrev pub script_27_sheet : Sheet
script_27_sheet =
    let a = known (codes "IFS OPTIND PPID x y") [] 0 in
    let b = known (codes "IFS OPTIND PPID x y") [] 1 in
    record { commands = row a b a ∷ row a a a ∷ row a Unreached Unreached ∷ []; heads = (2, a) ∷ []; functions = [] }

-- `! for x do exec a; done >"${y=f}"; `
abbrev pub script_28_program : Items
script_28_program =
    more_items (and_or (pipeline true (more_commands (command 1 2 (For (codes "x") every_parameter (lone (simple 2 11 (text (codes "exec") (text
    (codes "a") no_elements))))) (more_redirects (File (only (Double (only (Expansion 26 (Variable (codes "y")) (Use action.Assign false (plain
    (codes "f")))))))) no_redirects)) no_commands)) no_links) false no_items

abbrev pub script_28_sheet : Sheet
script_28_sheet =
    let a = known (codes "IFS OPTIND PPID") [] 0 in
    let b = known (codes "IFS OPTIND PPID y") [] 0 in
    let c = known (codes "IFS OPTIND PPID x y") [] 0 in
    record { commands = row a b a ∷ row c Unreached c ∷ []; heads = (1, b) ∷ []; functions = [] }

-- `x="${x-$x}" read -r x NL echo $((x))`
abbrev pub script_29_program : Items
script_29_program =
    alone (simple 1 0 (assignment (codes "x") (only (Double (only (Expansion 3 (Variable (codes "x")) (Use action.Default false (only (Expansion 7
    (Variable (codes "x")) Value))))))) (text (codes "read") (text (codes "-r") (text (codes "x") no_elements))))) (lone (simple 2 22 (text
    (codes "echo") (operand (only (Arithmetic 27 (Name 30 (codes "x")))) no_elements))))

abbrev pub script_29_sheet : Sheet
script_29_sheet =
    let a = known (codes "IFS OPTIND PPID") [] 0 in
    record { commands = row a a a ∷ row a a a ∷ []; heads = []; functions = [] }

-- `x=1 read f y >"${y=f}"& set -e >|f;`
abbrev pub script_30_program : Items
script_30_program =
    more_items (and_or (piece (simple 1 0 (assignment (codes "x") (plain (codes "1")) (text (codes "read") (text (codes "f") (text (codes "y")
    (redirection (File (only (Double (only (Expansion 15 (Variable (codes "y")) (Use action.Assign false (plain (codes "f")))))))) no_elements)))))))
    no_links) true (lone (simple 2 24 (text (codes "set") (text (codes "-e") (redirection (File (plain (codes "f"))) no_elements)))))

abbrev pub script_30_sheet : Sheet
script_30_sheet =
    let a = known (codes "IFS OPTIND PPID x") [] 1 in
    let b = known (codes "IFS OPTIND PPID f x y") [] 1 in
    let c = known (codes "! IFS OPTIND PPID x") [] 1 in
    record { commands = row a b a ∷ row c c c ∷ []; heads = []; functions = [] }

-- `! export y=${y}; NL ! f() { false; }&`
abbrev pub script_31_program : Items
script_31_program =
    more_items (and_or (pipeline true (more_commands (simple 1 2 (text (codes "export") (operand (more_parts (Plain (codes "y=")) (only (Expansion 11
    (Variable (codes "y")) Value))) no_elements))) no_commands)) no_links) false (more_items (and_or (pipeline true (more_commands (compound 2 19
    (Define (codes "f") (compound 3 23 (Group (lone (simple 4 25 (text (codes "false") no_elements))))))) no_commands)) no_links) true no_items)

abbrev pub script_31_sheet : Sheet
script_31_sheet =
    let a = known (codes "IFS OPTIND PPID x y") [] 1 in
    let b = known (codes "IFS OPTIND PPID x y") (codes "f") 1 in
    record {
      commands = row a a a ∷ row a b Unreached ∷ row Unreached Unreached Unreached ∷ row Unreached Unreached Unreached ∷ [];
      heads = [];
      functions = function (codes "f") Unreached (dropping [] []) Unreached Unreached ∷ [];
    }

-- `echo "${#x}" NL f() if cmd NL then NL shift NL fi NL echo "$x"`
abbrev pub script_32_program : Items
script_32_program =
    alone (simple 1 0 (text (codes "echo") (operand (only (Double (only (Expansion 6 (Variable (codes "x")) Length)))) no_elements))) (alone
    (compound 2 13 (Define (codes "f") (compound 3 17 (Conditional (more_branches (lone (simple 4 20 (text (codes "cmd") no_elements))) (lone (simple
    5 29 (text (codes "shift") no_elements))) no_branches) no_else)))) (lone (simple 6 38 (text (codes "echo") (operand (only (quoted 44
    (codes "x"))) no_elements)))))

abbrev pub script_32_sheet : Sheet
script_32_sheet =
    let a = known (codes "IFS OPTIND PPID") [] 1 in
    let b = known (codes "IFS OPTIND PPID") (codes "f") 1 in
    record {
      commands = row a a a ∷ row a b Unreached ∷ row Unreached Unreached Unreached ∷ row Unreached Unreached Unreached ∷ row Unreached
          Unreached Unreached ∷ row b b b ∷ [];
      heads = [];
      functions = function (codes "f") Unreached (dropping [] []) Unreached Unreached ∷ [];
    }

-- `echo "$x" NL echo "$!" NL f() { NL f() { NL f a NL } NL } NL echo "$x"`
abbrev pub script_33_program : Items
script_33_program =
    alone (simple 1 0 (text (codes "echo") (operand (only (quoted 6 (codes "x"))) no_elements))) (alone (simple 2 10 (text (codes "echo") (operand
    (only (quoted_parameter 16 (Special special.Exclamation))) no_elements))) (alone (compound 3 20 (Define (codes "f") (compound 4 24 (Group (lone
    (compound 5 26 (Define (codes "f") (compound 6 30 (Group (lone (simple 7 32 (text (codes "f") (text (codes "a") no_elements))))))))))))) (lone
    (simple 8 40 (text (codes "echo") (operand (only (quoted 46 (codes "x"))) no_elements))))))

abbrev pub script_33_sheet : Sheet
script_33_sheet =
    let a = known (codes "IFS OPTIND PPID") [] 0 in
    let b = known (codes "IFS OPTIND PPID") (codes "f") 0 in
    record {
      commands = row a a a ∷ row a a a ∷ row a b Unreached ∷ row Unreached Unreached Unreached ∷ row Unreached Unreached Unreached ∷ row
          Unreached Unreached Unreached ∷ row Unreached Unreached Unreached ∷ row b b b ∷ [];
      heads = [];
      functions = function (codes "f") Unreached
          (dropping [] []) Unreached Unreached ∷ [];
    }

-- `f() { NL x="$y" read y y & NL } NL x="${y:=1}" g NL echo $((x))`
abbrev pub script_34_program : Items
script_34_program =
    alone (compound 1 0 (Define (codes "f") (compound 2 4 (Group (more_items (and_or (piece (simple 3 6 (assignment (codes "x") (only (quoted 9
    (codes "y"))) (text (codes "read") (text (codes "y") (text (codes "y") no_elements)))))) no_links) true no_items))))) (alone (simple 4 26
    (assignment (codes "x") (only (Double (only (Expansion 29 (Variable (codes "y")) (Use action.Assign true (plain (codes "1"))))))) (text
    (codes "g") no_elements))) (lone (simple 5 40 (text (codes "echo") (operand (only (Arithmetic 45 (Name 48 (codes "x")))) no_elements)))))

abbrev pub script_34_sheet : Sheet
script_34_sheet =
    let a = known (codes "IFS OPTIND PPID") [] 0 in
    let b = known (codes "IFS OPTIND PPID") (codes "f") 0 in
    record {
      commands = row a b Unreached ∷ row Unreached Unreached Unreached ∷ row Unreached Unreached Unreached ∷ row b b b ∷ row b b b ∷ [];
      heads
          = [];
      functions = function (codes "f") Unreached (dropping [] []) Unreached Unreached ∷ [];
    }

-- `for x do ! while f=1 g=1; : && set -e; do :; NL done; done; `
abbrev pub script_35_program : Items
script_35_program =
    lone (compound 1 0 (For (codes "x") every_parameter (more_items (and_or (pipeline true (more_commands (compound 2 11 (Loop loop.While (alone
    (simple 3 17 (assignment (codes "f") (plain (codes "1")) (assignment (codes "g") (plain (codes "1")) no_elements))) (more_items (and_or (piece
    (simple 4 26 (text (codes ":") no_elements))) (more_links link.AndThen (piece (simple 5 31 (text (codes "set") (text (codes "-e") no_elements))))
    no_links)) false no_items)) (lone (simple 6 42 (text (codes ":") no_elements))))) no_commands)) no_links) false no_items)))

abbrev pub script_35_sheet : Sheet
script_35_sheet =
    let a = known (codes "IFS OPTIND PPID x y") [] 0 in
    let b = known (codes "IFS OPTIND PPID f g x y") [] 0 in
    record {
      commands = row a a a ∷ row a b b ∷ row a b b ∷ row b b Unreached ∷ row b b b ∷ row b b Unreached ∷ [];
      heads = (1, a) ∷ (2, a) ∷ [];
      functions = [];
    }

-- `for IFS in a "$@"; do f "$@"; NL done; export IFS=b; ! set a "$@";`
abbrev pub script_36_program : Items
script_36_program =
    alone (compound 1 0 (For (codes "IFS") (listed (more_words (plain (codes "a")) (more_words (only (quoted_parameter 14 (Special special.At)))
    no_words))) (lone (simple 2 22 (text (codes "f") (operand (only (quoted_parameter 25 (Special special.At))) no_elements)))))) (alone (simple 3 36
    (text (codes "export") (text (codes "IFS=b") no_elements))) (more_items (and_or (pipeline true (more_commands (simple 4 52 (text (codes "set")
    (text (codes "a") (operand (only (quoted_parameter 59 (Special special.At))) no_elements)))) no_commands)) no_links) false no_items))

abbrev pub script_36_sheet : Sheet
script_36_sheet =
    let a = known (codes "IFS OPTIND PPID x y") [] 2 in
    let b = known (codes "IFS OPTIND PPID x y") [] 3 in
    record { commands = row a a a ∷ row a a a ∷ row a a a ∷ row a b a ∷ []; heads = (1, a) ∷ []; functions = [] }

-- `if cd /; ! export f; NL cd /; then y do && shift 2; NL fi;`
abbrev pub script_37_program : Items
script_37_program =
    lone (compound 1 0 (Conditional (more_branches (alone (simple 2 3 (text (codes "cd") (text (codes "/") no_elements))) (more_items (and_or
    (pipeline true (more_commands (simple 3 11 (text (codes "export") (text (codes "f") no_elements))) no_commands)) no_links) false (lone (simple 4
    21 (text (codes "cd") (text (codes "/") no_elements)))))) (more_items (and_or (piece (simple 5 32 (text (codes "y") (text (codes "do")
    no_elements)))) (more_links link.AndThen (piece (simple 6 40 (text (codes "shift") (text (codes "2") no_elements)))) no_links)) false no_items)
    no_branches) no_else))

abbrev pub script_37_sheet : Sheet
script_37_sheet =
    let a = known (codes "IFS OPTIND PPID x") [] 2 in
    let b = known (codes "IFS OPTIND PPID x") [] 0 in
    record { commands = row a b b ∷ row a a a ∷ row a a a ∷ row a a a ∷ row a a a ∷ row a b b ∷ []; heads = []; functions = [] }

-- `g() { NL export z="$x" NL } NL y=~ & NL z=~ NL echo "$HOME" NL echo "$x"`
abbrev pub script_38_program : Items
script_38_program =
    alone (compound 1 0 (Define (codes "g") (compound 2 4 (Group (lone (simple 3 6 (text (codes "export") (operand (more_parts (Plain (codes "z="))
    (only (quoted 16 (codes "x")))) no_elements)))))))) (more_items (and_or (piece (simple 4 22 (assignment (codes "y") (only (Tilde 24 []))
    no_elements))) no_links) true (alone (simple 5 28 (assignment (codes "z") (only (Tilde 30 [])) no_elements)) (alone (simple 6 32 (text
    (codes "echo") (operand (only (quoted 38 (codes "HOME"))) no_elements))) (lone (simple 7 45 (text (codes "echo") (operand (only (quoted 51
    (codes "x"))) no_elements)))))))

abbrev pub script_38_sheet : Sheet
script_38_sheet =
    let a = known (codes "IFS OPTIND PPID") [] 2 in
    let b = known (codes "IFS OPTIND PPID") (codes "g") 2 in
    let c = known (codes "IFS OPTIND PPID y") (codes "g") 2 in
    let d = known (codes "! IFS OPTIND PPID") (codes "g") 2 in
    let g = known (codes "! IFS OPTIND PPID z") (codes "g") 2 in
    record {
      commands = row a b Unreached ∷ row Unreached Unreached Unreached ∷ row Unreached Unreached Unreached ∷ row b c c ∷ row d g g ∷ row g g g
          ∷ row g g g ∷ [];
      heads = [];
      functions = function (codes "g") Unreached (dropping [] []) Unreached Unreached ∷ [];
    }

-- `f() { NL x=$x set -- a NL } NL x="${x:=1}" x=~ read -r x NL echo "$x"`
abbrev pub script_39_program : Items
script_39_program =
    alone (compound 1 0 (Define (codes "f") (compound 2 4 (Group (lone (simple 3 6 (assignment (codes "x") (only (Expansion 8 (Variable (codes "x"))
    Value)) (text (codes "set") (text (codes "--") (text (codes "a") no_elements)))))))))) (alone (simple 4 22 (assignment (codes "x") (only (Double
    (only (Expansion 25 (Variable (codes "x")) (Use action.Assign true (plain (codes "1"))))))) (assignment (codes "x") (only (Tilde 36 [])) (text
    (codes "read") (text (codes "-r") (text (codes "x") no_elements)))))) (lone (simple 5 48 (text (codes "echo") (operand (only (quoted 54
    (codes "x"))) no_elements)))))

abbrev pub script_39_sheet : Sheet
script_39_sheet =
    let a = known (codes "IFS OPTIND PPID") [] 0 in
    let b = known (codes "IFS OPTIND PPID") (codes "f") 0 in
    record {
      commands = row a b Unreached ∷ row Unreached Unreached Unreached ∷ row Unreached Unreached Unreached ∷ row b b b ∷ row b b b ∷ [];
      heads
          = [];
      functions = function (codes "f") Unreached (dropping [] []) Unreached Unreached ∷ [];
    }

-- `cmd NL echo "$x" "${#x}" NL case "$!" in NL (a) NL shift 2 NL ;; NL (a | "$y") NL ;& NL esac NL
-- echo "$x"`
abbrev pub script_40_program : Items
script_40_program =
    alone (simple 1 0 (text (codes "cmd") no_elements)) (alone (simple 2 4 (text (codes "echo") (operand (only (quoted 10 (codes "x"))) (operand
    (only (Double (only (Expansion 15 (Variable (codes "x")) Length)))) no_elements)))) (alone (compound 3 22 (Case (only (quoted_parameter 28
    (Special special.Exclamation))) (more_clauses (more_words (plain (codes "a")) no_words) (lone (simple 4 39 (text (codes "shift") (text
    (codes "2") no_elements)))) clause.Break (more_clauses (more_words (plain (codes "a")) (more_words (only (quoted 56 (codes "y"))) no_words))
    no_items clause.FallThrough no_clauses)))) (lone (simple 5 69 (text (codes "echo") (operand (only (quoted 75 (codes "x"))) no_elements))))))

abbrev pub script_40_sheet : Sheet
script_40_sheet =
    let a = known (codes "IFS OPTIND PPID") [] 1 in
    let b = known (codes "IFS OPTIND PPID") [] 0 in
    record { commands = row a a a ∷ row a a a ∷ row a b b ∷ row a b b ∷ row b b b ∷ []; heads = []; functions = [] }

pub record ScriptsAsExpected : Type 0 where
  pub script_1 :
      answers (declared [] 0) script_1_program script_1_sheet (Claiming (Before 1) (known (codes "IFS OPTIND") [] 0) ∷ Claiming (AfterNonzero 1)
      (known (codes "IFS OPTIND PPID") [] 1) ∷ Claiming (Before 1) (known (codes "IFS OPTIND") [] 0) ∷ [])
      ≡ Unmet ([]) ∷ Breaks 1 F4 ∷ Breaks 1 F4 ∷ Breaks 1 F4 ∷ []
  pub script_2 :
      answers (declared [] 0) script_2_program script_2_sheet (Claiming (Before 1) (known (codes "IFS OPTIND PPID") [] 1) ∷ Claiming (AfterNonzero 1)
      (known (codes "IFS OPTIND PPID y") [] 1) ∷ Claiming (AfterNonzero 1) Unreached ∷ [])
      ≡ Unmet ([]) ∷ Breaks 1 F1 ∷ Breaks 1 F4 ∷ Breaks 1 F4 ∷ []
  pub script_3 :
      answers (declared [] 0) script_3_program script_3_sheet (Claiming (Before 1) (known (codes "IFS OPTIND") [] 0) ∷ Claiming (AfterZero 1) (known
      (codes "IFS OPTIND PPID") [] 0) ∷ Claiming (AfterZero 1) (known (codes "IFS PPID f") [] 0) ∷ [])
      ≡ Unmet ([]) ∷ Breaks 1 F4 ∷ Unmet ([]) ∷ Unmet ([]) ∷ []
  pub script_4 :
      answers (declared (codes "x") 0) script_4_program script_4_sheet (Claiming (Before 1) (known (codes "OPTIND PPID x") [] 0) ∷ Claiming (Before
      1) (known (codes "IFS OPTIND PPID") [] 0) ∷ Claiming (AfterNonzero 1) (known (codes "IFS OPTARG OPTIND PPID") [] 0) ∷ [])
      ≡ Unmet ([]) ∷ Breaks 1 F5 ∷ Breaks 1 F5 ∷ Unmet ([]) ∷ []
  pub script_5 :
      answers (declared [] 0) script_5_program script_5_sheet (Claiming (AfterNonzero 1) (known (codes "IFS OPTIND PPID") [] 1) ∷ Claiming
      (AfterNonzero 1) Unreached ∷ Claiming (AfterNonzero 1) Unreached ∷ [])
      ≡ Unmet ([]) ∷ Breaks 1 F4 ∷ Breaks 1 F4 ∷ Breaks 1 F4 ∷ []
  pub script_6 :
      answers (declared (codes "x y") 0) script_6_program script_6_sheet (Claiming (Before 1) (known (codes "OPTIND PPID x y") [] 0) ∷ Claiming
      (AfterNonzero 1) (known (codes "OPTIND PPID x y") [] 0) ∷ [])
      ≡ Unmet ([]) ∷ Breaks 1 F4 ∷ Unmet ([]) ∷ []
  pub script_7 :
      answers (declared (codes "x y") 0) script_7_program script_7_sheet (Claiming (AfterNonzero 1) (known (codes "IFS OPTIND PPID x y") [] 1) ∷
      Claiming (AfterNonzero 1) (known (codes "OPTIND PPID x y") [] 0) ∷ [])
      ≡ Unmet ([]) ∷ Breaks 1 F4 ∷ Unmet ([]) ∷ []
  pub script_8 :
      answers (declared [] 2) script_8_program script_8_sheet (Claiming (AfterNonzero 1) Unreached ∷ Claiming (Before 1) (known (codes "IFS OPTIND")
      [] 2) ∷ Claiming (AfterNonzero 1) (known (codes "IFS OPTIND PPID") [] 1) ∷ [])
      ≡ Unmet ([]) ∷ Breaks 1 F4 ∷ Breaks 1 F4 ∷ Unmet ([]) ∷ []
  pub script_9 :
      answers (declared (codes "x") 0) script_9_program script_9_sheet (Claiming (AfterNonzero 1) (known (codes "IFS OPTIND PPID x") [] 1) ∷ Claiming
      (AfterZero 1) Unreached ∷ [])
      ≡ Unmet ([]) ∷ Breaks 1 F4 ∷ Breaks 1 F4 ∷ []
  pub script_10 :
      answers (declared (codes "x y") 0) script_10_program script_10_sheet (Claiming (AfterZero 1) Unreached ∷ Claiming (AfterNonzero 1) (known
      (codes "IFS OPTIND PPID x y") [] 1) ∷ Claiming (AfterNonzero 1) (known (codes "OPTIND PPID x y") [] 0) ∷ [])
      ≡ Unmet ([]) ∷ Breaks 1 F4 ∷ Breaks 1 F4 ∷ Unmet ([]) ∷ []
  pub script_11 :
      answers (declared (codes "x") 2) script_11_program script_11_sheet (Claiming (AfterZero 1) Unreached ∷ Claiming (AfterNonzero 1) Unreached ∷
      Claiming (AfterNonzero 1) (known (codes "IFS OPTIND PPID x") [] 3) ∷ [])
      ≡ Unmet ([]) ∷ Breaks 1 F4 ∷ Breaks 1 F4 ∷ Breaks 1 F4 ∷ []
  pub script_12 :
      answers (declared (codes "x y") 0) script_12_program script_12_sheet (Claiming (Before 1) (known (codes "IFS PPID x y") [] 0) ∷ Claiming
      (AfterNonzero 1) (known (codes "IFS OPTIND x y") [] 0) ∷ Claiming (AfterNonzero 1) (known (codes "OPTIND PPID x y") [] 0) ∷ [])
      ≡ Unmet ([]) ∷ Breaks 1 F4 ∷ Unmet ([]) ∷ Unmet ([]) ∷ []
  pub script_13 :
      answers (declared [] 0) script_13_program script_13_sheet (Claiming (Before 1) Unreached ∷ Claiming (AfterZero 1) (known (codes "IFS OPTIND")
      [] 0) ∷ [])
      ≡ Unmet ([]) ∷ Breaks 1 F1 ∷ Unmet ([]) ∷ []
  pub script_14 :
      answers (declared (codes "x y") 0) script_14_program script_14_sheet (Claiming (AfterNonzero 1) (known (codes "IFS OPTIND PPID x y") [] 1) ∷
      Claiming (Before 1) (known (codes "IFS OPTIND x y") [] 0) ∷ [])
      ≡ Unmet ([]) ∷ Breaks 1 F4 ∷ Breaks 1 F4 ∷ []
  pub script_15 :
      answers (declared (codes "x") 0) script_15_program script_15_sheet (Claiming (AfterZero 2) Unreached ∷ Claiming (AfterZero 1) Unreached ∷ [])
      ≡ Unmet ([]) ∷ Breaks 2 F4 ∷ Breaks 1 F4 ∷ []
  pub script_16 :
      answers (declared [] 0) script_16_program script_16_sheet (Claiming (AfterNonzero 1) (known [] [] 0) ∷ Claiming (Before 2) (known
      (codes "IFS OPTIND PPID") [] 0) ∷ Claiming (AfterZero 2) (known [] [] 0) ∷ [])
      ≡ Unmet ([]) ∷ Breaks 2 F2 ∷ Breaks 2 F4 ∷ Unmet ([]) ∷ []
  pub script_17 :
      answers (declared [] 0) script_17_program script_17_sheet (Claiming (AfterNonzero 1) (known (codes "OPTIND PPID") [] 0) ∷ Claiming (AfterZero
      2) Unreached ∷ [])
      ≡ Unmet ([]) ∷ Breaks 2 F2 ∷ Breaks 2 F4 ∷ []
  pub script_18 :
      answers (declared (codes "x") 0) script_18_program script_18_sheet (Claiming (Before 1) (known (codes "IFS OPTIND PPID") [] 0) ∷ Claiming
      (AfterNonzero 1) (known (codes "IFS OPTIND PPID x") [] 1) ∷ Claiming (Before 1) (known (codes "IFS OPTIND PPID") [] 0) ∷ [])
      ≡ Unmet ([]) ∷ Breaks 1 F4 ∷ Breaks 1 F4 ∷ Breaks 1 F4 ∷ []
  pub script_19 :
      answers (declared (codes "x y") 1) script_19_program script_19_sheet (Claiming (AfterNonzero 1) Unreached ∷ Claiming (Before 1) Unreached ∷
      Claiming (AfterZero 1) (known (codes "IFS OPTIND PPID x y") [] 0) ∷ [])
      ≡ Unmet (place 5 U1 (codes "2") ∷ []) ∷ Breaks 1 F5 ∷ Breaks 1 F1 ∷ Unmet (place 5 U1 (codes "2") ∷ []) ∷ []
  pub script_20 :
      answers (declared (codes "x") 0) script_20_program script_20_sheet (Claiming (AfterZero 2) (known (codes "IFS OPTARG OPTIND x") [] 0) ∷
      Claiming (AfterZero 1) Unreached ∷ [])
      ≡ Unmet ([]) ∷ Unmet ([]) ∷ Breaks 1 F5 ∷ []
  pub script_21 :
      answers (declared (codes "x y") 1) script_21_program script_21_sheet (Claiming (AfterZero 2) (known (codes "IFS OPTIND PPID") [] 0) ∷ Claiming
      (Before 1) Unreached ∷ Claiming (AfterNonzero 2) (known [] [] 0) ∷ [])
      ≡ Unmet ([]) ∷ Unmet ([]) ∷ Breaks 1 F1 ∷ Unmet ([]) ∷ []
  pub script_22 :
      answers (declared [] 0) script_22_program script_22_sheet (Claiming (AfterNonzero 2) (known [] [] 0) ∷ Claiming (AfterNonzero 2) (known [] []
      0) ∷ Claiming (AfterZero 2) (known (codes "IFS OPTIND PPID") [] 0) ∷ [])
      ≡ Unmet ([]) ∷ Unmet ([]) ∷ Unmet ([]) ∷ Unmet ([]) ∷ []
  pub script_23 :
      answers (declared [] 1) script_23_program script_23_sheet (Claiming (AfterZero 2) (known (codes "! PPID") [] 1) ∷ Claiming (Before 2) (known
      (codes "! IFS OPTIND") [] 1) ∷ Claiming (Before 2) (known (codes "! IFS OPTIND PPID") [] 0) ∷ [])
      ≡ Unmet ([]) ∷ Unmet ([]) ∷ Breaks 2 F4 ∷ Breaks 2 F4 ∷ []
  pub script_24 :
      answers (declared [] 0) script_24_program script_24_sheet (Claiming (Before 1) Unreached ∷ Claiming (AfterNonzero 1) (known
      (codes "IFS OPTARG PPID") [] 0) ∷ Claiming (Before 2) (known (codes "OPTARG OPTIND PPID") [] 0) ∷ [])
      ≡ Unmet ([]) ∷ Breaks 1 F1 ∷ Breaks 2 F3 ∷ Breaks 2 F4 ∷ []
  pub script_25 :
      answers (declared [] 0) script_25_program script_25_sheet (Claiming (Before 2) (known (codes "IFS OPTIND PPID") [] 0) ∷ Claiming (AfterNonzero
      2) (known (codes "IFS OPTIND PPID") [] 0) ∷ Claiming (AfterZero 1) Unreached ∷ [])
      ≡ Unmet ([]) ∷ Breaks 2 F10 ∷ Breaks 2 F13 ∷ Breaks 1 F13 ∷ []
  pub script_26 :
      answers (declared [] 0) script_26_program script_26_sheet (Claiming (AfterZero 1) (known (codes "IFS PPID") [] 0) ∷ Claiming (AfterNonzero 1)
      (known (codes "IFS OPTIND PPID") [] 1) ∷ Claiming (AfterZero 1) (known (codes "IFS OPTIND PPID g") [] 0) ∷ [])
      ≡ Unmet ([]) ∷ Breaks 2 F11 ∷ Breaks 1 F4 ∷ Breaks 1 F4 ∷ []
  pub script_27 :
      answers (declared (codes "x y") 0) script_27_program script_27_sheet (Claiming (AfterNonzero 3) (known [] [] 0) ∷ Claiming (AfterZero 1) (known
      (codes "IFS PPID x y") [] 1) ∷ Claiming (Before 2) (known (codes "OPTIND PPID x y") [] 0) ∷ [])
      ≡ Unmet ([]) ∷ Breaks 2 F8 ∷ Breaks 2 F11 ∷ Breaks 2 F8 ∷ []
  pub script_28 :
      answers (declared [] 0) script_28_program script_28_sheet (Claiming (AfterZero 2) (known [] [] 0) ∷ Claiming (AfterZero 2) (known
      (codes "IFS OPTIND PPID") [] 0) ∷ Claiming (Before 1) (known (codes "OPTIND PPID") [] 0) ∷ [])
      ≡ Unmet ([]) ∷ Breaks 1 F8 ∷ Breaks 1 F8 ∷ Breaks 1 F8 ∷ []
  pub script_29 :
      answers (declared [] 0) script_29_program script_29_sheet (Claiming (AfterNonzero 1) (known (codes "IFS OPTIND PPID") [] 1) ∷ Claiming
      (AfterZero 1) (known (codes "OPTIND PPID") [] 0) ∷ Claiming (Before 2) (known (codes "OPTIND PPID") [] 0) ∷ [])
      ≡ Unmet (place 7 U1 (codes "x") ∷ place 30 U3 (codes "x") ∷ []) ∷ Breaks 1 F4 ∷ Breaks 2 F2 ∷ Breaks 2 F4 ∷ []
  pub script_30 :
      answers (declared (codes "x") 1) script_30_program script_30_sheet (Claiming (Before 1) Unreached ∷ Claiming (AfterZero 2) (known
      (codes "! IFS OPTIND PPID") [] 1) ∷ Claiming (AfterZero 1) (known (codes "IFS OPTIND f x y") [] 1) ∷ [])
      ≡ Unmet ([]) ∷ Breaks 1 F11 ∷ Unmet ([]) ∷ Unmet ([]) ∷ []
  pub script_31 :
      answers (declared (codes "x y") 1) script_31_program script_31_sheet (Claiming (AfterNonzero 1) (known (codes "IFS PPID x y") [] 1) ∷ Claiming
      (Entry (codes "f")) (known (codes "IFS OPTIND PPID") [] 0) ∷ Claiming (AfterZero 3) (known (codes "IFS OPTIND PPID") [] 0) ∷ [])
      ≡ Unmet ([]) ∷ Breaks 2 F11 ∷ Breaks 3 F13 ∷ Breaks 3 F13 ∷ []
  pub script_32 :
      answers (declared [] 1) script_32_program script_32_sheet (Claiming (AfterNonzero 6) (known (codes "IFS OPTIND PPID") (codes "f") 2) ∷ Claiming
      (AfterZero 6) Unreached ∷ Claiming (AfterZero 4) (known [] [] 0) ∷ [])
      ≡ Unmet (place 6 U1 (codes "x") ∷ place 44 U1 (codes "x") ∷ []) ∷ Breaks 6 F4 ∷ Breaks 6 F4 ∷ Breaks 5 F6 ∷ []
  pub script_33 :
      answers (declared [] 0) script_33_program script_33_sheet (Claiming (Before 3) (known (codes "IFS PPID") [] 0) ∷ Claiming (Before 7) (known []
      [] 0) ∷ [])
      ≡ Unmet (place 6 U1 (codes "x") ∷ place 16 U1 (codes "!") ∷ place 46 U1 (codes "x") ∷ []) ∷ Breaks 3 F13 ∷ Breaks 7 F14 ∷ []
  pub script_34 :
      answers (declared [] 0) script_34_program script_34_sheet (Claiming (AfterNonzero 2) (known [] [] 0) ∷ Claiming (ReturnsNonzero (codes "f"))
      (known (codes "IFS OPTIND PPID") [] 0) ∷ Claiming (AfterZero 1) (known (codes "IFS OPTIND PPID") (codes "f") 1) ∷ [])
      ≡ Unmet (place 48 U3 (codes "x") ∷ []) ∷ Breaks 2 F13 ∷ Unmet (place 48 U3 (codes "x") ∷ []) ∷ Breaks 1 F13 ∷ []
  pub script_35 :
      answers (declared (codes "x y") 0) script_35_program script_35_sheet (Claiming (Before 3) (known (codes "OPTIND PPID x y") [] 0) ∷ Claiming
      (AfterZero 2) Unreached ∷ [])
      ≡ Unmet ([]) ∷ Breaks 3 F5 ∷ Breaks 2 F7 ∷ []
  pub script_36 :
      answers (declared (codes "x y") 2) script_36_program script_36_sheet (Claiming (Before 4) Unreached ∷ Claiming (Before 3) (known
      (codes "IFS OPTIND x y") [] 2) ∷ Claiming (AfterZero 2) (known (codes "IFS OPTIND PPID x y") [] 1) ∷ [])
      ≡ Unmet ([]) ∷ Breaks 4 F2 ∷ Breaks 3 F4 ∷ Breaks 1 F8 ∷ []
  pub script_37 :
      answers (declared (codes "x") 2) script_37_program script_37_sheet (Claiming (AfterZero 4) (known (codes "IFS OPTIND PPID x") [] 3) ∷ Claiming
      (AfterNonzero 2) Unreached ∷ Claiming (Before 2) Unreached ∷ [])
      ≡ Unmet ([]) ∷ Breaks 4 F4 ∷ Breaks 2 F4 ∷ Breaks 2 F6 ∷ []
  pub script_38 :
      answers (declared [] 2) script_38_program script_38_sheet (Claiming (ReturnsZero (codes "g")) (known [] [] 0) ∷ Claiming (AfterNonzero 5)
      (known (codes "IFS OPTIND PPID z") (codes "g") 2) ∷ Claiming (Before 4) (known (codes "IFS OPTIND PPID") (codes "g") 1) ∷ [])
      ≡ Unmet (place 24 U2 (codes "HOME") ∷ place 30 U2 (codes "HOME") ∷ place 38 U1 (codes "HOME") ∷ place 51 U1 (codes "x") ∷ []) ∷ Unmet (place 24
      U2 (codes "HOME") ∷ place 30 U2 (codes "HOME") ∷ place 38 U1 (codes "HOME") ∷ place 51 U1 (codes "x") ∷ []) ∷ Breaks 6 F2 ∷ Breaks 4 F5 ∷ []
  pub script_39 :
      answers (declared [] 0) script_39_program script_39_sheet (Claiming (Before 1) (known (codes "OPTIND PPID") [] 0) ∷ Claiming (AfterNonzero 1)
      (known (codes "IFS OPTIND PPID") [] 0) ∷ Claiming (Before 3) (known (codes "IFS OPTIND PPID") [] 0) ∷ [])
      ≡ Unmet (place 36 U2 (codes "HOME") ∷ place 54 U1 (codes "x") ∷ []) ∷ Breaks 1 F13 ∷ Breaks 4 F2 ∷ Breaks 3 F4 ∷ []
  pub script_40 :
      answers (declared [] 1) script_40_program script_40_sheet (Claiming (AfterZero 4) (known (codes "OPTIND PPID") [] 0) ∷ Claiming (Before 3)
      (known (codes "IFS OPTIND") [] 1) ∷ Claiming (AfterZero 1) (known (codes "OPTIND PPID") [] 1) ∷ [])
      ≡ Unmet (place 10 U1 (codes "x") ∷ place 15 U1 (codes "x") ∷ place 28 U1 (codes "!") ∷ place 56 U1 (codes "y") ∷ place 75 U1 (codes "x") ∷ [])
      ∷ Breaks 3 F9 ∷ Breaks 3 F9 ∷ Breaks 2 F2 ∷ []
