-- Short scripts, each with its greatest certificate, some with facts of it changed, and what a
-- check reports.
-- POSIX.1-2024, XCU 2.6 (word expansions), 2.9 (shell commands), 2.15 (special built-in utilities),
-- 3 (read).
use Rattle.std.specs.Prelude.{◌≡◌, true, false, [], ◌∷◌, codes}
use Rattle.sh_tree.specs.declared.place.Code.TheVariants.{P1, P2, U1, U3}
use Rattle.sh_tree.specs.declared.tree.Action.TheVariants as action
use Rattle.sh_tree.specs.declared.tree.Binary.TheVariants as binary
use Rattle.sh_tree.specs.declared.tree.ClauseEnd.TheVariants as clause
use Rattle.sh_tree.specs.declared.tree.Link.TheVariants as link
use Rattle.sh_tree.specs.declared.tree.LoopKind.TheVariants as loop
use Rattle.sh_tree.specs.declared.tree.SingleStyle.TheVariants as single
use Rattle.sh_tree.specs.declared.tree.Special.TheVariants as special
use Rattle.sh_tree.specs.examples.Program.{only, plain, simple, alone, lone}
use Rattle.sh_tree.specs.standard.program.Syntax.{Items, Variable, Positional, Special, Plain, Single, Double, Expansion, Arithmetic, Substitution, Joined, more_parts, Value, Use, Constant, Name, Chain, no_operands, more_operands, no_items, more_items, and_or, no_links, more_links, pipeline, no_commands, more_commands, Group, Subshell, Conditional, Loop, For, Case, Define, no_elements, assignment, operand, redirection, Here, no_branches, more_branches, no_else, else_of, listed, no_words, more_words, no_clauses, more_clauses}
use Rattle.sh_runs.specs.examples.Steps.{piece}
use Rattle.sh_domain.specs.Facts.{Unreached}
use Rattle.sh_domain.specs.Views.{Before, AfterZero, Head, ReturnsZero}
use Rattle.sh_domain.specs.declared.rule.FlowRule.TheVariants.{F1, F4, F7, F13, F14}
use Rattle.sh_domain.specs.examples.Programs.{quoted, quoted_parameter, text, compound, known, dropping, row, function, Sheet, Claiming, declared, place, Breaks, Unmet, answers}

-- `echo "$x"`
abbrev pub script_1_program : Items
script_1_program =
    lone (simple 1 0 (text (codes "echo") (operand (only (quoted 6 (codes "x"))) no_elements)))

abbrev pub script_1_sheet : Sheet
script_1_sheet =
    let a = known (codes "IFS OPTIND PPID") [] 0 in
    record { commands = row a a a ∷ []; heads = []; functions = [] }

-- `echo "$x"`, x declared
abbrev pub script_2_program : Items
script_2_program =
    lone (simple 1 0 (text (codes "echo") (operand (only (quoted 6 (codes "x"))) no_elements)))

abbrev pub script_2_sheet : Sheet
script_2_sheet =
    let a = known (codes "IFS OPTIND PPID x") [] 0 in
    record { commands = row a a a ∷ []; heads = []; functions = [] }

-- `echo $x`, x declared
abbrev pub script_3_program : Items
script_3_program =
    lone (simple 1 0 (text (codes "echo") (operand (only (Expansion 5 (Variable (codes "x")) Value)) no_elements)))

abbrev pub script_3_sheet : Sheet
script_3_sheet =
    let a = known (codes "IFS OPTIND PPID x") [] 0 in
    record { commands = row a a a ∷ []; heads = []; functions = [] }

-- `echo $x`
abbrev pub script_4_program : Items
script_4_program =
    lone (simple 1 0 (text (codes "echo") (operand (only (Expansion 5 (Variable (codes "x")) Value)) no_elements)))

abbrev pub script_4_sheet : Sheet
script_4_sheet =
    let a = known (codes "IFS OPTIND PPID") [] 0 in
    record { commands = row a a a ∷ []; heads = []; functions = [] }

-- `while read -r l; do echo "$l"; done`
abbrev pub script_5_program : Items
script_5_program =
    lone (compound 1 0 (Loop loop.While (lone (simple 2 6 (text (codes "read") (text (codes "-r") (text (codes "l") no_elements))))) (lone (simple 3
    20 (text (codes "echo") (operand (only (quoted 26 (codes "l"))) no_elements))))))

abbrev pub script_5_sheet : Sheet
script_5_sheet =
    let a = known (codes "IFS OPTIND PPID") [] 0 in
    let b = known (codes "IFS OPTIND PPID l") [] 0 in
    record { commands = row a a a ∷ row a b a ∷ row b b b ∷ []; heads = (1, a) ∷ []; functions = [] }

-- `read -r l; echo "$l"`
abbrev pub script_6_program : Items
script_6_program =
    alone (simple 1 0 (text (codes "read") (text (codes "-r") (text (codes "l") no_elements)))) (lone (simple 2 11 (text (codes "echo") (operand
    (only (quoted 17 (codes "l"))) no_elements))))

abbrev pub script_6_sheet : Sheet
script_6_sheet =
    let a = known (codes "IFS OPTIND PPID") [] 0 in
    let b = known (codes "IFS OPTIND PPID l") [] 0 in
    record { commands = row a b a ∷ row a a a ∷ []; heads = []; functions = [] }

-- `if cd /; then a=1; fi; echo "$a"`
abbrev pub script_7_program : Items
script_7_program =
    alone (compound 1 0 (Conditional (more_branches (lone (simple 2 3 (text (codes "cd") (text (codes "/") no_elements)))) (lone (simple 3 14
    (assignment (codes "a") (plain (codes "1")) no_elements))) no_branches) no_else)) (lone (simple 4 23 (text (codes "echo") (operand (only (quoted
    29 (codes "a"))) no_elements))))

abbrev pub script_7_sheet : Sheet
script_7_sheet =
    let a = known (codes "IFS OPTIND PPID") [] 0 in
    let b = known (codes "IFS OPTIND PPID a") [] 0 in
    record { commands = row a a b ∷ row a a a ∷ row a b b ∷ row a a a ∷ []; heads = []; functions = [] }

-- `if cd /; then a=1; else a=2; fi; echo "$a"`
abbrev pub script_8_program : Items
script_8_program =
    alone (compound 1 0 (Conditional (more_branches (lone (simple 2 3 (text (codes "cd") (text (codes "/") no_elements)))) (lone (simple 3 14
    (assignment (codes "a") (plain (codes "1")) no_elements))) no_branches) (else_of (lone (simple 4 24 (assignment (codes "a") (plain (codes "2"))
    no_elements)))))) (lone (simple 5 33 (text (codes "echo") (operand (only (quoted 39 (codes "a"))) no_elements))))

abbrev pub script_8_sheet : Sheet
script_8_sheet =
    let a = known (codes "IFS OPTIND PPID") [] 0 in
    let b = known (codes "IFS OPTIND PPID a") [] 0 in
    record { commands = row a b b ∷ row a a a ∷ row a b b ∷ row a b b ∷ row b b b ∷ []; heads = []; functions = [] }

-- `die() { echo "$1"; exit 1; } NL read -r x || die no NL echo "$x"`
abbrev pub script_9_program : Items
script_9_program =
    alone (compound 1 0 (Define (codes "die") (compound 2 6 (Group (alone (simple 3 8 (text (codes "echo") (operand (only (quoted_parameter 14
    (Positional 1))) no_elements))) (lone (simple 4 19 (text (codes "exit") (text (codes "1") no_elements))))))))) (more_items (and_or (piece (simple
    5 29 (text (codes "read") (text (codes "-r") (text (codes "x") no_elements))))) (more_links link.OrElse (piece (simple 6 42 (text (codes "die")
    (text (codes "no") no_elements)))) no_links)) false (lone (simple 7 49 (text (codes "echo") (operand (only (quoted 55 (codes "x")))
    no_elements)))))

abbrev pub script_9_sheet : Sheet
script_9_sheet =
    let a = known (codes "IFS OPTIND PPID") [] 0 in
    let b = known (codes "IFS OPTIND PPID") (codes "die") 0 in
    let c = known (codes "IFS OPTIND PPID") (codes "die") 1 in
    let d = known (codes "IFS OPTIND PPID x") (codes "die") 0 in
    record {
      commands = row a b Unreached ∷ row c Unreached Unreached ∷ row c c c ∷ row c Unreached Unreached ∷ row b d b ∷ row b Unreached Unreached
          ∷ row d d d ∷ [];
      heads = [];
      functions = function (codes "die") c (dropping [] []) Unreached Unreached ∷ [];
    }

-- `unset x | echo "$x"`, x declared
abbrev pub script_10_program : Items
script_10_program =
    more_items (and_or (pipeline false (more_commands (simple 1 0 (text (codes "unset") (text (codes "x") no_elements))) (more_commands (simple 2 10
    (text (codes "echo") (operand (only (quoted 16 (codes "x"))) no_elements))) no_commands))) no_links) false no_items

abbrev pub script_10_sheet : Sheet
script_10_sheet =
    let a = known (codes "IFS OPTIND PPID x") [] 0 in
    let b = known (codes "IFS OPTIND PPID") [] 0 in
    record { commands = row a b b ∷ row a a a ∷ []; heads = []; functions = [] }

-- `shift | cat`
abbrev pub script_11_program : Items
script_11_program =
    more_items (and_or (pipeline false (more_commands (simple 1 0 (text (codes "shift") no_elements)) (more_commands (simple 2 8 (text (codes "cat")
    no_elements)) no_commands))) no_links) false no_items

abbrev pub script_11_sheet : Sheet
script_11_sheet =
    let a = known (codes "IFS OPTIND PPID") [] 0 in
    record { commands = row a a a ∷ row a a a ∷ []; heads = []; functions = [] }

-- `echo "$x" | unset x`, x declared
abbrev pub script_12_program : Items
script_12_program =
    more_items (and_or (pipeline false (more_commands (simple 1 0 (text (codes "echo") (operand (only (quoted 6 (codes "x"))) no_elements)))
    (more_commands (simple 2 12 (text (codes "unset") (text (codes "x") no_elements))) no_commands))) no_links) false no_items

abbrev pub script_12_sheet : Sheet
script_12_sheet =
    let a = known (codes "IFS OPTIND PPID x") [] 0 in
    let b = known (codes "IFS OPTIND PPID") [] 0 in
    record { commands = row a a a ∷ row a b b ∷ []; heads = []; functions = [] }

-- `x=1; (unset x); echo "$x"`
abbrev pub script_13_program : Items
script_13_program =
    alone (simple 1 0 (assignment (codes "x") (plain (codes "1")) no_elements)) (alone (compound 2 5 (Subshell (lone (simple 3 6 (text
    (codes "unset") (text (codes "x") no_elements)))))) (lone (simple 4 16 (text (codes "echo") (operand (only (quoted 22 (codes "x")))
    no_elements)))))

abbrev pub script_13_sheet : Sheet
script_13_sheet =
    let a = known (codes "IFS OPTIND PPID") [] 0 in
    let b = known (codes "IFS OPTIND PPID x") [] 0 in
    record { commands = row a b b ∷ row b b b ∷ row b a a ∷ row b b b ∷ []; heads = []; functions = [] }

-- `: "${1?usage}"; echo "$1"`
abbrev pub script_14_program : Items
script_14_program =
    alone (simple 1 0 (text (codes ":") (operand (only (Double (only (Expansion 3 (Positional 1) (Use action.Fault false (plain (codes "usage")))))))
    no_elements))) (lone (simple 2 16 (text (codes "echo") (operand (only (quoted_parameter 22 (Positional 1))) no_elements))))

abbrev pub script_14_sheet : Sheet
script_14_sheet =
    let a = known (codes "IFS OPTIND PPID") [] 0 in
    let b = known (codes "IFS OPTIND PPID") [] 1 in
    record { commands = row a b Unreached ∷ row b b b ∷ []; heads = []; functions = [] }

-- `f() { echo "$x"; } NL x=1 f NL echo "$x"`
abbrev pub script_15_program : Items
script_15_program =
    alone (compound 1 0 (Define (codes "f") (compound 2 4 (Group (lone (simple 3 6 (text (codes "echo") (operand (only (quoted 12 (codes "x")))
    no_elements)))))))) (alone (simple 4 19 (assignment (codes "x") (plain (codes "1")) (text (codes "f") no_elements))) (lone (simple 5 25 (text
    (codes "echo") (operand (only (quoted 31 (codes "x"))) no_elements)))))

abbrev pub script_15_sheet : Sheet
script_15_sheet =
    let a = known (codes "IFS OPTIND PPID") [] 0 in
    let b = known (codes "IFS OPTIND PPID") (codes "f") 0 in
    let c = known (codes "IFS OPTIND PPID x") (codes "f") 0 in
    record {
      commands = row a b Unreached ∷ row c c c ∷ row c c c ∷ row b b b ∷ row b b b ∷ [];
      heads = [];
      functions = function (codes "f") c
          (dropping [] []) c c ∷ [];
    }

-- `[ $# -gt 0 ]`
abbrev pub script_16_program : Items
script_16_program =
    lone (simple 1 0 (text (codes "[") (operand (only (Expansion 2 (Special special.NumberSign) Value)) (text (codes "-gt") (text (codes "0") (text
    (codes "]") no_elements))))))

abbrev pub script_16_sheet : Sheet
script_16_sheet =
    let a = known (codes "IFS OPTIND PPID") [] 0 in
    record { commands = row a a a ∷ []; heads = []; functions = [] }

-- `IFS=0; [ $# -gt 0 ]`
abbrev pub script_17_program : Items
script_17_program =
    alone (simple 1 0 (assignment (codes "IFS") (plain (codes "0")) no_elements)) (lone (simple 2 7 (text (codes "[") (operand (only (Expansion 9
    (Special special.NumberSign) Value)) (text (codes "-gt") (text (codes "0") (text (codes "]") no_elements)))))))

abbrev pub script_17_sheet : Sheet
script_17_sheet =
    let a = known (codes "IFS OPTIND PPID") [] 0 in
    record { commands = row a a a ∷ row a a a ∷ []; heads = []; functions = [] }

-- `echo $((a+1))`
abbrev pub script_18_program : Items
script_18_program =
    lone (simple 1 0 (text (codes "echo") (operand (only (Arithmetic 5 (Chain (Name 8 (codes "a")) (more_operands binary.Add (Constant (codes "1"))
    no_operands)))) no_elements)))

abbrev pub script_18_sheet : Sheet
script_18_sheet =
    let a = known (codes "IFS OPTIND PPID") [] 0 in
    record { commands = row a a a ∷ []; heads = []; functions = [] }

-- `x=$(case a in a) echo b;; esac); echo "$x"`
abbrev pub script_19_program : Items
script_19_program =
    alone (simple 1 0 (assignment (codes "x") (only (Substitution 2 (lone (compound 2 4 (Case (plain (codes "a")) (more_clauses (more_words (plain
    (codes "a")) no_words) (lone (simple 3 17 (text (codes "echo") (text (codes "b") no_elements)))) clause.Break no_clauses)))))) no_elements))
    (lone (simple 4 33 (text (codes "echo") (operand (only (quoted 39 (codes "x"))) no_elements))))

abbrev pub script_19_sheet : Sheet
script_19_sheet =
    let a = known (codes "IFS OPTIND PPID") [] 0 in
    let b = known (codes "IFS OPTIND PPID x") [] 0 in
    record { commands = row a b b ∷ row a a a ∷ row a a a ∷ row b b b ∷ []; heads = []; functions = [] }

-- `for x in a; do :; done; echo "$x"`
abbrev pub script_20_program : Items
script_20_program =
    alone (compound 1 0 (For (codes "x") (listed (more_words (plain (codes "a")) no_words)) (lone (simple 2 15 (text (codes ":") no_elements)))))
    (lone (simple 3 24 (text (codes "echo") (operand (only (quoted 30 (codes "x"))) no_elements))))

abbrev pub script_20_sheet : Sheet
script_20_sheet =
    let a = known (codes "IFS OPTIND PPID") [] 0 in
    let b = known (codes "IFS OPTIND PPID x") [] 0 in
    record { commands = row a a a ∷ row b b Unreached ∷ row a a a ∷ []; heads = (1, a) ∷ []; functions = [] }

-- `cat <<E NL a\ NL E NL $y NL E`
abbrev pub script_21_program : Items
script_21_program =
    lone (simple 1 0 (text (codes "cat") (redirection (Here (more_parts (Plain (codes "a")) (more_parts Joined (more_parts (Plain (codes "E\n"))
    (more_parts (Expansion 13 (Variable (codes "y")) Value) (plain (codes "\n"))))))) no_elements)))

abbrev pub script_21_sheet : Sheet
script_21_sheet =
    let a = known (codes "IFS OPTIND PPID") [] 0 in
    record { commands = row a a a ∷ []; heads = []; functions = [] }

-- `false && echo "$x"`
abbrev pub script_22_program : Items
script_22_program =
    more_items (and_or (piece (simple 1 0 (text (codes "false") no_elements))) (more_links link.AndThen (piece (simple 2 9 (text (codes "echo")
    (operand (only (quoted 15 (codes "x"))) no_elements)))) no_links)) false no_items

abbrev pub script_22_sheet : Sheet
script_22_sheet =
    let a = known (codes "IFS OPTIND PPID") [] 0 in
    record { commands = row a Unreached a ∷ row Unreached Unreached Unreached ∷ []; heads = []; functions = [] }

-- `f() { :; } NL f`
abbrev pub script_23_program : Items
script_23_program =
    alone (compound 1 0 (Define (codes "f") (compound 2 4 (Group (lone (simple 3 6 (text (codes ":") no_elements))))))) (lone (simple 4 11 (text
    (codes "f") no_elements)))

abbrev pub script_23_sheet : Sheet
script_23_sheet =
    let a = known (codes "IFS OPTIND PPID") [] 0 in
    let b = known (codes "IFS OPTIND PPID") (codes "f") 0 in
    record {
      commands = row a b Unreached ∷ row b b Unreached ∷ row b b Unreached ∷ row b b Unreached ∷ [];
      heads = [];
      functions = function
          (codes "f") b (dropping [] []) b Unreached ∷ [];
    }

-- `echo "$!"`
abbrev pub script_24_program : Items
script_24_program =
    lone (simple 1 0 (text (codes "echo") (operand (only (quoted_parameter 6 (Special special.Exclamation))) no_elements)))

abbrev pub script_24_sheet : Sheet
script_24_sheet =
    let a = known (codes "IFS OPTIND PPID") [] 0 in
    record { commands = row a a a ∷ []; heads = []; functions = [] }

-- `sleep 1 & echo "$!"`
abbrev pub script_25_program : Items
script_25_program =
    more_items (and_or (piece (simple 1 0 (text (codes "sleep") (text (codes "1") no_elements)))) no_links) true (lone (simple 2 10 (text
    (codes "echo") (operand (only (quoted_parameter 16 (Special special.Exclamation))) no_elements))))

abbrev pub script_25_sheet : Sheet
script_25_sheet =
    let a = known (codes "IFS OPTIND PPID") [] 0 in
    let b = known (codes "! IFS OPTIND PPID") [] 0 in
    record { commands = row a a a ∷ row b b b ∷ []; heads = []; functions = [] }

-- `echo ${x+"$x"}`
abbrev pub script_26_program : Items
script_26_program =
    lone (simple 1 0 (text (codes "echo") (operand (only (Expansion 5 (Variable (codes "x")) (Use action.Alternative false (only (quoted 10
    (codes "x")))))) no_elements)))

abbrev pub script_26_sheet : Sheet
script_26_sheet =
    let a = known (codes "IFS OPTIND PPID") [] 0 in
    record { commands = row a a a ∷ []; heads = []; functions = [] }

-- `f=$(ls); for i in $f; do echo "$i"; done`
abbrev pub script_27_program : Items
script_27_program =
    alone (simple 1 0 (assignment (codes "f") (only (Substitution 2 (lone (simple 2 4 (text (codes "ls") no_elements))))) no_elements)) (lone
    (compound 3 9 (For (codes "i") (listed (more_words (only (Expansion 18 (Variable (codes "f")) Value)) no_words)) (lone (simple 4 25 (text
    (codes "echo") (operand (only (quoted 31 (codes "i"))) no_elements)))))))

abbrev pub script_27_sheet : Sheet
script_27_sheet =
    let a = known (codes "IFS OPTIND PPID") [] 0 in
    let b = known (codes "IFS OPTIND PPID f") [] 0 in
    let c = known (codes "IFS OPTIND PPID f i") [] 0 in
    record { commands = row a b b ∷ row a a a ∷ row b b b ∷ row c c c ∷ []; heads = (3, b) ∷ []; functions = [] }

-- `x=1 NL echo "$x$y"`
abbrev pub script_28_program : Items
script_28_program =
    alone (simple 1 0 (assignment (codes "x") (plain (codes "1")) no_elements)) (lone (simple 2 4 (text (codes "echo") (operand (only (Double
    (more_parts (Expansion 10 (Variable (codes "x")) Value) (only (Expansion 12 (Variable (codes "y")) Value))))) no_elements))))

abbrev pub script_28_sheet : Sheet
script_28_sheet =
    let a = known (codes "IFS OPTIND PPID") [] 0 in
    let b = known (codes "IFS OPTIND PPID x") [] 0 in
    record { commands = row a b b ∷ row b b b ∷ []; heads = []; functions = [] }

-- `x=1 echo "$x"`
abbrev pub script_29_program : Items
script_29_program =
    lone (simple 1 0 (assignment (codes "x") (plain (codes "1")) (text (codes "echo") (operand (only (quoted 10 (codes "x"))) no_elements))))

abbrev pub script_29_sheet : Sheet
script_29_sheet =
    let a = known (codes "IFS OPTIND PPID") [] 0 in
    record { commands = row a a a ∷ []; heads = []; functions = [] }

-- `echo 'a'`
abbrev pub script_30_program : Items
script_30_program =
    lone (simple 1 0 (text (codes "echo") (operand (only (Single single.Plain (codes "a"))) no_elements)))

abbrev pub script_30_sheet : Sheet
script_30_sheet =
    let a = known (codes "IFS OPTIND PPID") [] 0 in
    record { commands = row a a a ∷ []; heads = []; functions = [] }

pub record ShortScriptsAsExpected : Type 0 where
  pub script_1 :
      answers (declared [] 0) script_1_program script_1_sheet (Claiming (Before 1) (known (codes "IFS OPTIND PPID x") [] 0) ∷ [])
      ≡ Unmet (place 6 U1 (codes "x") ∷ []) ∷ Breaks 1 F1 ∷ []
  pub script_2 :
      answers (declared (codes "x") 0) script_2_program script_2_sheet ([])
      ≡ Unmet ([]) ∷ []
  pub script_3 :
      answers (declared (codes "x") 0) script_3_program script_3_sheet ([])
      ≡ Unmet ([]) ∷ []
  pub script_4 :
      answers (declared [] 0) script_4_program script_4_sheet ([])
      ≡ Unmet (place 5 U1 (codes "x") ∷ []) ∷ []
  pub script_5 :
      answers (declared [] 0) script_5_program script_5_sheet (Claiming (Head 1) (known (codes "IFS OPTIND PPID l") [] 0) ∷ [])
      ≡ Unmet ([]) ∷ Breaks 1 F7 ∷ []
  pub script_6 :
      answers (declared [] 0) script_6_program script_6_sheet ([])
      ≡ Unmet (place 17 U1 (codes "l") ∷ []) ∷ []
  pub script_7 :
      answers (declared [] 0) script_7_program script_7_sheet ([])
      ≡ Unmet (place 29 U1 (codes "a") ∷ []) ∷ []
  pub script_8 :
      answers (declared [] 0) script_8_program script_8_sheet ([])
      ≡ Unmet ([]) ∷ []
  pub script_9 :
      answers (declared [] 0) script_9_program script_9_sheet ([])
      ≡ Unmet ([]) ∷ []
  pub script_10 :
      answers (declared (codes "x") 0) script_10_program script_10_sheet ([])
      ≡ Unmet (place 0 P1 (codes "x") ∷ []) ∷ []
  pub script_11 :
      answers (declared [] 0) script_11_program script_11_sheet ([])
      ≡ Unmet (place 0 P2 [] ∷ []) ∷ []
  pub script_12 :
      answers (declared (codes "x") 0) script_12_program script_12_sheet ([])
      ≡ Unmet (place 12 P1 (codes "x") ∷ []) ∷ []
  pub script_13 :
      answers (declared [] 0) script_13_program script_13_sheet ([])
      ≡ Unmet ([]) ∷ []
  pub script_14 :
      answers (declared [] 0) script_14_program script_14_sheet ([])
      ≡ Unmet ([]) ∷ []
  pub script_15 :
      answers (declared [] 0) script_15_program script_15_sheet ([])
      ≡ Unmet (place 31 U1 (codes "x") ∷ []) ∷ []
  pub script_16 :
      answers (declared [] 0) script_16_program script_16_sheet ([])
      ≡ Unmet ([]) ∷ []
  pub script_17 :
      answers (declared [] 0) script_17_program script_17_sheet ([])
      ≡ Unmet ([]) ∷ []
  pub script_18 :
      answers (declared [] 0) script_18_program script_18_sheet ([])
      ≡ Unmet (place 8 U3 (codes "a") ∷ []) ∷ []
  pub script_19 :
      answers (declared [] 0) script_19_program script_19_sheet ([])
      ≡ Unmet ([]) ∷ []
  pub script_20 :
      answers (declared [] 0) script_20_program script_20_sheet ([])
      ≡ Unmet (place 30 U1 (codes "x") ∷ []) ∷ []
  pub script_21 :
      answers (declared [] 0) script_21_program script_21_sheet ([])
      ≡ Unmet (place 13 U1 (codes "y") ∷ []) ∷ []
  pub script_22 :
      answers (declared [] 0) script_22_program script_22_sheet (Claiming (Before 2) (known (codes "IFS OPTIND PPID") [] 0) ∷ [])
      ≡ Unmet ([]) ∷ Breaks 2 F4 ∷ []
  pub script_23 :
      answers (declared [] 0) script_23_program script_23_sheet (Claiming (AfterZero 4) (known (codes "IFS OPTARG OPTIND PPID") (codes "f") 0) ∷
      Claiming (ReturnsZero (codes "f")) Unreached ∷ [])
      ≡ Unmet ([]) ∷ Breaks 4 F14 ∷ Breaks 2 F13 ∷ []
  pub script_24 :
      answers (declared [] 0) script_24_program script_24_sheet ([])
      ≡ Unmet (place 6 U1 (codes "!") ∷ []) ∷ []
  pub script_25 :
      answers (declared [] 0) script_25_program script_25_sheet ([])
      ≡ Unmet ([]) ∷ []
  pub script_26 :
      answers (declared [] 0) script_26_program script_26_sheet ([])
      ≡ Unmet ([]) ∷ []
  pub script_27 :
      answers (declared [] 0) script_27_program script_27_sheet ([])
      ≡ Unmet ([]) ∷ []
  pub script_28 :
      answers (declared [] 0) script_28_program script_28_sheet ([])
      ≡ Unmet (place 12 U1 (codes "y") ∷ []) ∷ []
  pub script_29 :
      answers (declared [] 0) script_29_program script_29_sheet ([])
      ≡ Unmet (place 10 U1 (codes "x") ∷ []) ∷ []
  pub script_30 :
      answers (declared [] 0) script_30_program script_30_sheet ([])
      ≡ Unmet ([]) ∷ []
