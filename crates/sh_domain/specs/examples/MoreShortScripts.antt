-- More short scripts, each with its greatest certificate and what a check reports.
-- POSIX.1-2024, XCU 2.6 (word expansions), 2.9 (shell commands), 2.15 (special built-in utilities),
-- 3 (getopts, read).
use Rattle.std.specs.Prelude.{◌≡◌, true, false, [], ◌∷◌, codes}
use Rattle.sh_tree.specs.declared.place.Code.TheVariants.{P1, U1, U2}
use Rattle.sh_tree.specs.declared.tree.Action.TheVariants as action
use Rattle.sh_tree.specs.declared.tree.ClauseEnd.TheVariants as clause
use Rattle.sh_tree.specs.declared.tree.Link.TheVariants as link
use Rattle.sh_tree.specs.declared.tree.LoopKind.TheVariants as loop
use Rattle.sh_tree.specs.declared.tree.Special.TheVariants as special
use Rattle.sh_tree.specs.examples.Program.{only, plain, simple, alone, lone}
use Rattle.sh_tree.specs.standard.program.Syntax.{Items, Variable, Positional, Special, Plain, Double, Expansion, Substitution, Tilde, no_parts, more_parts, Value, Use, no_items, more_items, and_or, no_links, more_links, pipeline, no_commands, more_commands, Group, Conditional, Loop, For, Case, Define, no_elements, assignment, operand, redirection, File, no_branches, more_branches, no_else, listed, no_words, more_words, no_clauses, more_clauses}
use Rattle.sh_runs.specs.examples.Steps.{piece}
use Rattle.sh_domain.specs.Facts.{Unreached}
use Rattle.sh_domain.specs.examples.Programs.{quoted, quoted_parameter, text, compound, known, dropping, row, function, Sheet, declared, place, Unmet, answers}

-- `unset x`
abbrev pub script_31_program : Items
script_31_program =
    lone (simple 1 0 (text (codes "unset") (text (codes "x") no_elements)))

abbrev pub script_31_sheet : Sheet
script_31_sheet =
    let a = known (codes "IFS OPTIND PPID") [] 0 in
    record { commands = row a a a ∷ []; heads = []; functions = [] }

-- `read -r a; unset a; echo "$a"`
abbrev pub script_32_program : Items
script_32_program =
    alone (simple 1 0 (text (codes "read") (text (codes "-r") (text (codes "a") no_elements)))) (alone (simple 2 11 (text (codes "unset") (text
    (codes "a") no_elements))) (lone (simple 3 20 (text (codes "echo") (operand (only (quoted 26 (codes "a"))) no_elements)))))

abbrev pub script_32_sheet : Sheet
script_32_sheet =
    let a = known (codes "IFS OPTIND PPID") [] 0 in
    let b = known (codes "IFS OPTIND PPID a") [] 0 in
    record { commands = row a b a ∷ row a a a ∷ row a a a ∷ []; heads = []; functions = [] }

-- `set -- a b; echo "$1"`
abbrev pub script_33_program : Items
script_33_program =
    alone (simple 1 0 (text (codes "set") (text (codes "--") (text (codes "a") (text (codes "b") no_elements))))) (lone (simple 2 12 (text
    (codes "echo") (operand (only (quoted_parameter 18 (Positional 1))) no_elements))))

abbrev pub script_33_sheet : Sheet
script_33_sheet =
    let a = known (codes "IFS OPTIND PPID") [] 0 in
    let b = known (codes "IFS OPTIND PPID") [] 2 in
    record { commands = row a b a ∷ row a a a ∷ []; heads = []; functions = [] }

-- `: "${x:=a}"; echo "$x"`
abbrev pub script_34_program : Items
script_34_program =
    alone (simple 1 0 (text (codes ":") (operand (only (Double (only (Expansion 3 (Variable (codes "x")) (Use action.Assign true (plain
    (codes "a"))))))) no_elements))) (lone (simple 2 13 (text (codes "echo") (operand (only (quoted 19 (codes "x"))) no_elements))))

abbrev pub script_34_sheet : Sheet
script_34_sheet =
    let a = known (codes "IFS OPTIND PPID") [] 0 in
    let b = known (codes "IFS OPTIND PPID x") [] 0 in
    record { commands = row a b Unreached ∷ row b b b ∷ []; heads = []; functions = [] }

-- `export x=1; echo "$x"`
abbrev pub script_35_program : Items
script_35_program =
    alone (simple 1 0 (text (codes "export") (text (codes "x=1") no_elements))) (lone (simple 2 12 (text (codes "echo") (operand (only (quoted 18
    (codes "x"))) no_elements))))

abbrev pub script_35_sheet : Sheet
script_35_sheet =
    let a = known (codes "IFS OPTIND PPID") [] 0 in
    let b = known (codes "IFS OPTIND PPID x") [] 0 in
    record { commands = row a b b ∷ row b b b ∷ []; heads = []; functions = [] }

-- `exit 0; echo "$x"`
abbrev pub script_36_program : Items
script_36_program =
    alone (simple 1 0 (text (codes "exit") (text (codes "0") no_elements))) (lone (simple 2 8 (text (codes "echo") (operand (only (quoted 14
    (codes "x"))) no_elements))))

abbrev pub script_36_sheet : Sheet
script_36_sheet =
    let a = known (codes "IFS OPTIND PPID") [] 0 in
    record { commands = row a Unreached Unreached ∷ row Unreached Unreached Unreached ∷ []; heads = []; functions = [] }

-- `echo ~`
abbrev pub script_37_program : Items
script_37_program =
    lone (simple 1 0 (text (codes "echo") (operand (only (Tilde 5 [])) no_elements)))

abbrev pub script_37_sheet : Sheet
script_37_sheet =
    let a = known (codes "IFS OPTIND PPID") [] 0 in
    record { commands = row a a a ∷ []; heads = []; functions = [] }

-- `>"${x=f}"; echo "$x"`
abbrev pub script_38_program : Items
script_38_program =
    alone (simple 1 0 (redirection (File (only (Double (only (Expansion 2 (Variable (codes "x")) (Use action.Assign false (plain (codes "f"))))))))
    no_elements)) (lone (simple 2 11 (text (codes "echo") (operand (only (quoted 17 (codes "x"))) no_elements))))

abbrev pub script_38_sheet : Sheet
script_38_sheet =
    let a = known (codes "IFS OPTIND PPID") [] 0 in
    record { commands = row a a a ∷ row a a a ∷ []; heads = []; functions = [] }

-- `while :; do break; done; echo "$x"`
abbrev pub script_39_program : Items
script_39_program =
    alone (compound 1 0 (Loop loop.While (lone (simple 2 6 (text (codes ":") no_elements))) (lone (simple 3 12 (text (codes "break") no_elements)))))
    (lone (simple 4 25 (text (codes "echo") (operand (only (quoted 31 (codes "x"))) no_elements))))

abbrev pub script_39_sheet : Sheet
script_39_sheet =
    let a = known (codes "IFS OPTIND PPID") [] 0 in
    record { commands = row a a a ∷ row a a Unreached ∷ row a Unreached Unreached ∷ row a a a ∷ []; heads = (1, a) ∷ []; functions = [] }

-- `while :; do :; done; echo "$x"`
abbrev pub script_40_program : Items
script_40_program =
    alone (compound 1 0 (Loop loop.While (lone (simple 2 6 (text (codes ":") no_elements))) (lone (simple 3 12 (text (codes ":") no_elements)))))
    (lone (simple 4 21 (text (codes "echo") (operand (only (quoted 27 (codes "x"))) no_elements))))

abbrev pub script_40_sheet : Sheet
script_40_sheet =
    let a = known (codes "IFS OPTIND PPID") [] 0 in
    record {
      commands = row a Unreached Unreached ∷ row a a Unreached ∷ row a a Unreached ∷ row Unreached Unreached Unreached ∷ [];
      heads = (1, a) ∷
          [];
      functions = [];
    }

-- `case a in a) x=1;; esac; echo "$x"`
abbrev pub script_41_program : Items
script_41_program =
    alone (compound 1 0 (Case (plain (codes "a")) (more_clauses (more_words (plain (codes "a")) no_words) (lone (simple 2 13 (assignment (codes "x")
    (plain (codes "1")) no_elements))) clause.Break no_clauses))) (lone (simple 3 25 (text (codes "echo") (operand (only (quoted 31 (codes "x")))
    no_elements))))

abbrev pub script_41_sheet : Sheet
script_41_sheet =
    let a = known (codes "IFS OPTIND PPID") [] 0 in
    let b = known (codes "IFS OPTIND PPID x") [] 0 in
    record { commands = row a a b ∷ row a b b ∷ row a a a ∷ []; heads = []; functions = [] }

-- `set -- a b && echo "$1"`
abbrev pub script_42_program : Items
script_42_program =
    more_items (and_or (piece (simple 1 0 (text (codes "set") (text (codes "--") (text (codes "a") (text (codes "b") no_elements)))))) (more_links
    link.AndThen (piece (simple 2 14 (text (codes "echo") (operand (only (quoted_parameter 20 (Positional 1))) no_elements)))) no_links)) false
    no_items

abbrev pub script_42_sheet : Sheet
script_42_sheet =
    let a = known (codes "IFS OPTIND PPID") [] 0 in
    let b = known (codes "IFS OPTIND PPID") [] 2 in
    record { commands = row a b a ∷ row b b b ∷ []; heads = []; functions = [] }

-- `x=1 read -r x && echo "$x"`
abbrev pub script_43_program : Items
script_43_program =
    more_items (and_or (piece (simple 1 0 (assignment (codes "x") (plain (codes "1")) (text (codes "read") (text (codes "-r") (text (codes "x")
    no_elements)))))) (more_links link.AndThen (piece (simple 2 17 (text (codes "echo") (operand (only (quoted 23 (codes "x"))) no_elements))))
    no_links)) false no_items

abbrev pub script_43_sheet : Sheet
script_43_sheet =
    let a = known (codes "IFS OPTIND PPID") [] 0 in
    record { commands = row a a a ∷ row a a a ∷ []; heads = []; functions = [] }

-- `false; case a in *) ;; esac || echo "$x"`
abbrev pub script_44_program : Items
script_44_program =
    alone (simple 1 0 (text (codes "false") no_elements)) (more_items (and_or (piece (compound 2 7 (Case (plain (codes "a")) (more_clauses
    (more_words (plain (codes "*")) no_words) no_items clause.Break no_clauses)))) (more_links link.OrElse (piece (simple 3 31 (text (codes "echo")
    (operand (only (quoted 37 (codes "x"))) no_elements)))) no_links)) false no_items)

abbrev pub script_44_sheet : Sheet
script_44_sheet =
    let a = known (codes "IFS OPTIND PPID") [] 0 in
    record { commands = row a Unreached a ∷ row a a a ∷ row a a a ∷ []; heads = []; functions = [] }

-- `f; f() { echo "$x"; }`
abbrev pub script_45_program : Items
script_45_program =
    alone (simple 1 0 (text (codes "f") no_elements)) (lone (compound 2 3 (Define (codes "f") (compound 3 7 (Group (lone (simple 4 9 (text
    (codes "echo") (operand (only (quoted 15 (codes "x"))) no_elements)))))))))

abbrev pub script_45_sheet : Sheet
script_45_sheet =
    let a = known (codes "IFS OPTIND PPID") [] 0 in
    let b = known (codes "IFS OPTIND PPID") (codes "f") 0 in
    record {
      commands = row a a a ∷ row a b Unreached ∷ row a a a ∷ row a a a ∷ [];
      heads = [];
      functions = function (codes "f") a (dropping [] []) a
          a ∷ [];
    }

-- `f() { x=1; }; f; echo "$x"`
abbrev pub script_46_program : Items
script_46_program =
    alone (compound 1 0 (Define (codes "f") (compound 2 4 (Group (lone (simple 3 6 (assignment (codes "x") (plain (codes "1")) no_elements)))))))
    (alone (simple 4 14 (text (codes "f") no_elements)) (lone (simple 5 17 (text (codes "echo") (operand (only (quoted 23 (codes "x")))
    no_elements)))))

abbrev pub script_46_sheet : Sheet
script_46_sheet =
    let a = known (codes "IFS OPTIND PPID") [] 0 in
    let b = known (codes "IFS OPTIND PPID") (codes "f") 0 in
    let c = known (codes "IFS OPTIND PPID x") (codes "f") 0 in
    record {
      commands = row a b Unreached ∷ row b c c ∷ row b c c ∷ row b c c ∷ row c c c ∷ [];
      heads = [];
      functions = function (codes "f") b
          (dropping [] []) c c ∷ [];
    }

-- `if cd /; then f() { x=1; }; fi; f; echo "$x"`
abbrev pub script_47_program : Items
script_47_program =
    alone (compound 1 0 (Conditional (more_branches (lone (simple 2 3 (text (codes "cd") (text (codes "/") no_elements)))) (lone (compound 3 14
    (Define (codes "f") (compound 4 18 (Group (lone (simple 5 20 (assignment (codes "x") (plain (codes "1")) no_elements)))))))) no_branches)
    no_else)) (alone (simple 6 32 (text (codes "f") no_elements)) (lone (simple 7 35 (text (codes "echo") (operand (only (quoted 41 (codes "x")))
    no_elements)))))

abbrev pub script_47_sheet : Sheet
script_47_sheet =
    let a = known (codes "IFS OPTIND PPID") [] 0 in
    let b = known (codes "IFS OPTIND PPID") (codes "f") 0 in
    let c = known (codes "IFS OPTIND PPID x") [] 0 in
    record {
      commands = row a a Unreached ∷ row a a a ∷ row a b Unreached ∷ row a c c ∷ row a c c ∷ row a a a ∷ row a a a ∷ [];
      heads = [];
      functions
          = function (codes "f") a (dropping [] []) c c ∷ [];
    }

-- `x=1; f() { unset x; }; f; echo "$x"`
abbrev pub script_48_program : Items
script_48_program =
    alone (simple 1 0 (assignment (codes "x") (plain (codes "1")) no_elements)) (alone (compound 2 5 (Define (codes "f") (compound 3 9 (Group (lone
    (simple 4 11 (text (codes "unset") (text (codes "x") no_elements)))))))) (alone (simple 5 23 (text (codes "f") no_elements)) (lone (simple 6 26
    (text (codes "echo") (operand (only (quoted 32 (codes "x"))) no_elements))))))

abbrev pub script_48_sheet : Sheet
script_48_sheet =
    let a = known (codes "IFS OPTIND PPID") [] 0 in
    let b = known (codes "IFS OPTIND PPID x") [] 0 in
    let c = known (codes "IFS OPTIND PPID x") (codes "f") 0 in
    let d = known (codes "IFS OPTIND PPID") (codes "f") 0 in
    record {
      commands = row a b b ∷ row b c Unreached ∷ row c d d ∷ row c d d ∷ row c d d ∷ row d d d ∷ [];
      heads = [];
      functions = function
          (codes "f") c (dropping (codes "x") []) d d ∷ [];
    }

-- `f() { f; } NL f NL echo "$x"`
abbrev pub script_49_program : Items
script_49_program =
    alone (compound 1 0 (Define (codes "f") (compound 2 4 (Group (lone (simple 3 6 (text (codes "f") no_elements))))))) (alone (simple 4 11 (text
    (codes "f") no_elements)) (lone (simple 5 13 (text (codes "echo") (operand (only (quoted 19 (codes "x"))) no_elements)))))

abbrev pub script_49_sheet : Sheet
script_49_sheet =
    let a = known (codes "IFS OPTIND PPID") [] 0 in
    let b = known (codes "IFS OPTIND PPID") (codes "f") 0 in
    record {
      commands = row a b Unreached ∷ row b Unreached Unreached ∷ row b Unreached Unreached ∷ row b Unreached Unreached ∷ row Unreached
          Unreached Unreached ∷ [];
      heads = [];
      functions = function (codes "f") b (dropping [] []) Unreached Unreached ∷ [];
    }

-- `f() { while :; do break 2; done; }; for i in a; do f; done; echo "$1"`, 1 positional parameter
abbrev pub script_50_program : Items
script_50_program =
    alone (compound 1 0 (Define (codes "f") (compound 2 4 (Group (lone (compound 3 6 (Loop loop.While (lone (simple 4 12 (text (codes ":")
    no_elements))) (lone (simple 5 18 (text (codes "break") (text (codes "2") no_elements))))))))))) (alone (compound 6 36 (For (codes "i") (listed
    (more_words (plain (codes "a")) no_words)) (lone (simple 7 51 (text (codes "f") no_elements))))) (lone (simple 8 60 (text (codes "echo") (operand
    (only (quoted_parameter 66 (Positional 1))) no_elements)))))

abbrev pub script_50_sheet : Sheet
script_50_sheet =
    let a = known (codes "IFS OPTIND PPID") [] 1 in
    let b = known (codes "IFS OPTIND PPID") (codes "f") 1 in
    let c = known (codes "IFS OPTIND PPID i") (codes "f") 0 in
    let d = known (codes "IFS OPTIND PPID i") (codes "f") 1 in
    record {
      commands = row a b Unreached ∷ row c c c ∷ row c c c ∷ row c c Unreached ∷ row c Unreached Unreached ∷ row b b b ∷ row d d d ∷ row b b b
          ∷ [];
      heads = (3, c) ∷ (6, b) ∷ [];
      functions = function (codes "f") c (dropping [] []) c c ∷ [];
    }

-- `: "$(echo "${x?}")"; echo "$x"`
abbrev pub script_51_program : Items
script_51_program =
    alone (simple 1 0 (text (codes ":") (operand (only (Double (only (Substitution 3 (lone (simple 2 5 (text (codes "echo") (operand (only (Double
    (only (Expansion 11 (Variable (codes "x")) (Use action.Fault false no_parts))))) no_elements)))))))) no_elements))) (lone (simple 3 21 (text
    (codes "echo") (operand (only (quoted 27 (codes "x"))) no_elements))))

abbrev pub script_51_sheet : Sheet
script_51_sheet =
    let a = known (codes "IFS OPTIND PPID") [] 0 in
    let b = known (codes "IFS OPTIND PPID x") [] 0 in
    record { commands = row a a Unreached ∷ row a b b ∷ row a a a ∷ []; heads = []; functions = [] }

-- `echo a | read -r x; echo "$x"`
abbrev pub script_52_program : Items
script_52_program =
    more_items (and_or (pipeline false (more_commands (simple 1 0 (text (codes "echo") (text (codes "a") no_elements))) (more_commands (simple 2 9
    (text (codes "read") (text (codes "-r") (text (codes "x") no_elements)))) no_commands))) no_links) false (lone (simple 3 20 (text (codes "echo")
    (operand (only (quoted 26 (codes "x"))) no_elements))))

abbrev pub script_52_sheet : Sheet
script_52_sheet =
    let a = known (codes "IFS OPTIND PPID") [] 0 in
    let b = known (codes "IFS OPTIND PPID x") [] 0 in
    record { commands = row a a a ∷ row a b a ∷ row a a a ∷ []; heads = []; functions = [] }

-- `x=1; { unset x; } & echo "$x"`
abbrev pub script_53_program : Items
script_53_program =
    alone (simple 1 0 (assignment (codes "x") (plain (codes "1")) no_elements)) (more_items (and_or (piece (compound 2 5 (Group (lone (simple 3 7
    (text (codes "unset") (text (codes "x") no_elements))))))) no_links) true (lone (simple 4 20 (text (codes "echo") (operand (only (quoted 26
    (codes "x"))) no_elements)))))

abbrev pub script_53_sheet : Sheet
script_53_sheet =
    let a = known (codes "IFS OPTIND PPID") [] 0 in
    let b = known (codes "IFS OPTIND PPID x") [] 0 in
    let c = known (codes "! IFS OPTIND PPID x") [] 0 in
    record { commands = row a b b ∷ row b a a ∷ row b a a ∷ row c c c ∷ []; heads = []; functions = [] }

-- `{ f() { unset x; }; f; } | cat`, x declared
abbrev pub script_54_program : Items
script_54_program =
    more_items (and_or (pipeline false (more_commands (compound 1 0 (Group (alone (compound 2 2 (Define (codes "f") (compound 3 6 (Group (lone
    (simple 4 8 (text (codes "unset") (text (codes "x") no_elements)))))))) (lone (simple 5 20 (text (codes "f") no_elements)))))) (more_commands
    (simple 6 27 (text (codes "cat") no_elements)) no_commands))) no_links) false no_items

abbrev pub script_54_sheet : Sheet
script_54_sheet =
    let a = known (codes "IFS OPTIND PPID x") [] 0 in
    let b = known (codes "IFS OPTIND PPID") (codes "f") 0 in
    let c = known (codes "IFS OPTIND PPID x") (codes "f") 0 in
    record {
      commands = row a b b ∷ row a c Unreached ∷ row c b b ∷ row c b b ∷ row c b b ∷ row a a a ∷ [];
      heads = [];
      functions = function
          (codes "f") c (dropping (codes "x") []) b b ∷ [];
    }

-- `echo *$#`
abbrev pub script_55_program : Items
script_55_program =
    lone (simple 1 0 (text (codes "echo") (operand (more_parts (Plain (codes "*")) (only (Expansion 6 (Special special.NumberSign) Value)))
    no_elements)))

abbrev pub script_55_sheet : Sheet
script_55_sheet =
    let a = known (codes "IFS OPTIND PPID") [] 0 in
    record { commands = row a a a ∷ []; heads = []; functions = [] }

-- `IFS=:; echo $#`
abbrev pub script_56_program : Items
script_56_program =
    alone (simple 1 0 (assignment (codes "IFS") (plain (codes ":")) no_elements)) (lone (simple 2 7 (text (codes "echo") (operand (only (Expansion 12
    (Special special.NumberSign) Value)) no_elements))))

abbrev pub script_56_sheet : Sheet
script_56_sheet =
    let a = known (codes "IFS OPTIND PPID") [] 0 in
    record { commands = row a a a ∷ row a a a ∷ []; heads = []; functions = [] }

-- `read -r "$x"; echo $#`, x declared
abbrev pub script_57_program : Items
script_57_program =
    alone (simple 1 0 (text (codes "read") (text (codes "-r") (operand (only (quoted 9 (codes "x"))) no_elements)))) (lone (simple 2 14 (text
    (codes "echo") (operand (only (Expansion 19 (Special special.NumberSign) Value)) no_elements))))

abbrev pub script_57_sheet : Sheet
script_57_sheet =
    let a = known (codes "IFS OPTIND PPID x") [] 0 in
    record { commands = row a a a ∷ row a a a ∷ []; heads = []; functions = [] }

-- `echo ${x+$x}`
abbrev pub script_58_program : Items
script_58_program =
    lone (simple 1 0 (text (codes "echo") (operand (only (Expansion 5 (Variable (codes "x")) (Use action.Alternative false (only (Expansion 9
    (Variable (codes "x")) Value))))) no_elements)))

abbrev pub script_58_sheet : Sheet
script_58_sheet =
    let a = known (codes "IFS OPTIND PPID") [] 0 in
    record { commands = row a a a ∷ []; heads = []; functions = [] }

-- `export "IFS=0"; echo $#`
abbrev pub script_59_program : Items
script_59_program =
    alone (simple 1 0 (text (codes "export") (operand (only (Double (plain (codes "IFS=0")))) no_elements))) (lone (simple 2 16 (text (codes "echo")
    (operand (only (Expansion 21 (Special special.NumberSign) Value)) no_elements))))

abbrev pub script_59_sheet : Sheet
script_59_sheet =
    let a = known (codes "IFS OPTIND PPID") [] 0 in
    record { commands = row a a a ∷ row a a a ∷ []; heads = []; functions = [] }

-- `i`
abbrev pub script_60_program : Items
script_60_program =
    lone (simple 1 0 (text (codes "i") no_elements))

abbrev pub script_60_sheet : Sheet
script_60_sheet =
    let a = known (codes "IFS OPTIND PPID") [] 0 in
    record { commands = row a a a ∷ []; heads = []; functions = [] }

-- `if cd /; then a=1; fi`
abbrev pub script_61_program : Items
script_61_program =
    lone (compound 1 0 (Conditional (more_branches (lone (simple 2 3 (text (codes "cd") (text (codes "/") no_elements)))) (lone (simple 3 14
    (assignment (codes "a") (plain (codes "1")) no_elements))) no_branches) no_else))

abbrev pub script_61_sheet : Sheet
script_61_sheet =
    let a = known (codes "IFS OPTIND PPID") [] 0 in
    let b = known (codes "IFS OPTIND PPID a") [] 0 in
    record { commands = row a a b ∷ row a a a ∷ row a b b ∷ []; heads = []; functions = [] }

pub record MoreShortScriptsAsExpected : Type 0 where
  pub script_31 :
      answers (declared [] 0) script_31_program script_31_sheet ([])
      ≡ Unmet ([]) ∷ []
  pub script_32 :
      answers (declared [] 0) script_32_program script_32_sheet ([])
      ≡ Unmet (place 26 U1 (codes "a") ∷ []) ∷ []
  pub script_33 :
      answers (declared [] 0) script_33_program script_33_sheet ([])
      ≡ Unmet (place 18 U1 (codes "1") ∷ []) ∷ []
  pub script_34 :
      answers (declared [] 0) script_34_program script_34_sheet ([])
      ≡ Unmet ([]) ∷ []
  pub script_35 :
      answers (declared [] 0) script_35_program script_35_sheet ([])
      ≡ Unmet ([]) ∷ []
  pub script_36 :
      answers (declared [] 0) script_36_program script_36_sheet ([])
      ≡ Unmet ([]) ∷ []
  pub script_37 :
      answers (declared [] 0) script_37_program script_37_sheet ([])
      ≡ Unmet (place 5 U2 (codes "HOME") ∷ []) ∷ []
  pub script_38 :
      answers (declared [] 0) script_38_program script_38_sheet ([])
      ≡ Unmet (place 17 U1 (codes "x") ∷ []) ∷ []
  pub script_39 :
      answers (declared [] 0) script_39_program script_39_sheet ([])
      ≡ Unmet (place 31 U1 (codes "x") ∷ []) ∷ []
  pub script_40 :
      answers (declared [] 0) script_40_program script_40_sheet ([])
      ≡ Unmet ([]) ∷ []
  pub script_41 :
      answers (declared [] 0) script_41_program script_41_sheet ([])
      ≡ Unmet (place 31 U1 (codes "x") ∷ []) ∷ []
  pub script_42 :
      answers (declared [] 0) script_42_program script_42_sheet ([])
      ≡ Unmet ([]) ∷ []
  pub script_43 :
      answers (declared [] 0) script_43_program script_43_sheet ([])
      ≡ Unmet (place 23 U1 (codes "x") ∷ []) ∷ []
  pub script_44 :
      answers (declared [] 0) script_44_program script_44_sheet ([])
      ≡ Unmet (place 37 U1 (codes "x") ∷ []) ∷ []
  pub script_45 :
      answers (declared [] 0) script_45_program script_45_sheet ([])
      ≡ Unmet (place 15 U1 (codes "x") ∷ []) ∷ []
  pub script_46 :
      answers (declared [] 0) script_46_program script_46_sheet ([])
      ≡ Unmet ([]) ∷ []
  pub script_47 :
      answers (declared [] 0) script_47_program script_47_sheet ([])
      ≡ Unmet (place 41 U1 (codes "x") ∷ []) ∷ []
  pub script_48 :
      answers (declared [] 0) script_48_program script_48_sheet ([])
      ≡ Unmet (place 32 U1 (codes "x") ∷ []) ∷ []
  pub script_49 :
      answers (declared [] 0) script_49_program script_49_sheet ([])
      ≡ Unmet ([]) ∷ []
  pub script_50 :
      answers (declared [] 1) script_50_program script_50_sheet ([])
      ≡ Unmet ([]) ∷ []
  pub script_51 :
      answers (declared [] 0) script_51_program script_51_sheet ([])
      ≡ Unmet (place 27 U1 (codes "x") ∷ []) ∷ []
  pub script_52 :
      answers (declared [] 0) script_52_program script_52_sheet ([])
      ≡ Unmet (place 26 U1 (codes "x") ∷ []) ∷ []
  pub script_53 :
      answers (declared [] 0) script_53_program script_53_sheet ([])
      ≡ Unmet ([]) ∷ []
  pub script_54 :
      answers (declared (codes "x") 0) script_54_program script_54_sheet ([])
      ≡ Unmet (place 20 P1 (codes "x") ∷ []) ∷ []
  pub script_55 :
      answers (declared [] 0) script_55_program script_55_sheet ([])
      ≡ Unmet ([]) ∷ []
  pub script_56 :
      answers (declared [] 0) script_56_program script_56_sheet ([])
      ≡ Unmet ([]) ∷ []
  pub script_57 :
      answers (declared (codes "x") 0) script_57_program script_57_sheet ([])
      ≡ Unmet ([]) ∷ []
  pub script_58 :
      answers (declared [] 0) script_58_program script_58_sheet ([])
      ≡ Unmet ([]) ∷ []
  pub script_59 :
      answers (declared [] 0) script_59_program script_59_sheet ([])
      ≡ Unmet ([]) ∷ []
  pub script_60 :
      answers (declared [] 0) script_60_program script_60_sheet ([])
      ≡ Unmet ([]) ∷ []
  pub script_61 :
      answers (declared [] 0) script_61_program script_61_sheet ([])
      ≡ Unmet ([]) ∷ []
