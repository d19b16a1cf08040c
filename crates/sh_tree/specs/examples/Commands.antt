-- Texts with commands of each kind, and their trees.
-- POSIX.1-2024, XCU 2.7 (redirection), 2.9 (commands).
use Rattle.std.specs.Prelude.{ℕ, List, [], ◌∷◌, codes, Some, None}
use Rattle.sh_tree.specs.declared.tree.ClauseEnd.TheVariants.{Break}
use Rattle.sh_tree.specs.declared.tree.Direction.TheVariants as direction
use Rattle.sh_tree.specs.declared.tree.Element.TheVariants as element
use Rattle.sh_tree.specs.declared.tree.Kind.TheVariants as kind
use Rattle.sh_tree.specs.declared.tree.LoopKind.TheVariants as loop
use Rattle.sh_tree.specs.declared.tree.Script.{Script}
use Rattle.sh_tree.specs.declared.tree.Target.TheVariants.{File}
use Rattle.sh_tree.specs.examples.Language.{bare, simple, utility, lone}
use Rattle.sh_tree.specs.standard.language.Reading.{Reads}
use Rattle.sh_tree.specs.standard.language.Trees.{redirect, command, clause, span}

-- a loop on one line
abbrev pub while_text : List ℕ
while_text = codes "while a; do b; done"

abbrev pub while_script : Script
while_script = lone (command 1 0 (kind.Loop loop.While (lone (utility 2 6 7)) (lone (utility 3 12 13))) [])

-- no words, and a semicolon
abbrev pub for_ended_text : List ℕ
for_ended_text = codes "for x; do a; done"

abbrev pub for_ended_script : Script
for_ended_script = lone (command 1 0 (kind.For (span 4 5) None (lone (utility 2 10 11))) [])

-- no words after `in`, over lines
abbrev pub for_none_text : List ℕ
for_none_text = codes "for x\nin\ndo\na\ndone"

abbrev pub for_none_script : Script
for_none_script = lone (command 1 0 (kind.For (span 4 5) (Some []) (lone (utility 2 12 13))) [])

-- two words, over lines
abbrev pub for_two_text : List ℕ
for_two_text = codes "for x in a b\ndo c\ndone"

abbrev pub for_two_script : Script
for_two_script = lone (command 1 0 (kind.For (span 4 5) (Some (bare 9 10 ∷ bare 11 12 ∷ [])) (lone (utility 2 16 17))) [])

-- a clause over lines
abbrev pub case_lines_text : List ℕ
case_lines_text = codes "case a\nin\nb)\nc\n;;\nesac"

abbrev pub case_lines_script : Script
case_lines_script = lone (command 1 0 (kind.Branches (bare 5 6) (clause (bare 10 11 ∷ []) (lone (utility 2 13 14)) Break ∷ [])) [])

-- two patterns without a parenthesis before them
abbrev pub patterns_text : List ℕ
patterns_text = codes "case a in b|c) d;; esac"

abbrev pub patterns_script : Script
patterns_script = lone (command 1 0 (kind.Branches (bare 5 6) (clause (bare 10 11 ∷ bare 12 13 ∷ []) (lone (utility 2 15 16)) Break ∷ [])) [])

-- a reserved word as a pattern
abbrev pub pattern_esac_text : List ℕ
pattern_esac_text = codes "case a in (esac) b;; esac"

abbrev pub pattern_esac_script : Script
pattern_esac_script = lone (command 1 0 (kind.Branches (bare 5 6) (clause (bare 11 15 ∷ []) (lone (utility 2 17 18)) Break ∷ [])) [])

-- each redirection
abbrev pub redirected_text : List ℕ
redirected_text = codes "<a >b >|c >>d <>e <&f >&g"

abbrev pub redirected_script : Script
redirected_script = lone (simple 1 0 (element.Redirection (redirect 0 None (File direction.Read (bare 1 2)))
    ∷ element.Redirection (redirect 3 None (File direction.Write (bare 4 5)))
    ∷ element.Redirection (redirect 6 None (File direction.Clobber (bare 8 9)))
    ∷ element.Redirection (redirect 10 None (File direction.Append (bare 12 13)))
    ∷ element.Redirection (redirect 14 None (File direction.Both (bare 16 17)))
    ∷ element.Redirection (redirect 18 None (File direction.CopyIn (bare 20 21)))
    ∷ element.Redirection (redirect 22 None (File direction.CopyOut (bare 24 25))) ∷ []))

-- an IO number
abbrev pub numbered_text : List ℕ
numbered_text = codes "a 2>b"

abbrev pub numbered_script : Script
numbered_script = lone (simple 1 0 (element.Word (bare 0 1) ∷ element.Redirection (redirect 3 (Some (span 2 3)) (File direction.Write (bare 4 5)))
    ∷ []))

-- a reserved word after an assignment is a command name
abbrev pub behind_assignment_text : List ℕ
behind_assignment_text = codes "x=1 if"

abbrev pub behind_assignment_script : Script
behind_assignment_script = lone (simple 1 0 (element.Assignment (span 0 1) (bare 2 3) ∷ element.Word (bare 4 6) ∷ []))

-- each text is its tree
pub record CommandsRead : Type 0 where
  pub while_read : Reads while_text while_script
  pub for_ended_read : Reads for_ended_text for_ended_script
  pub for_none_read : Reads for_none_text for_none_script
  pub for_two_read : Reads for_two_text for_two_script
  pub case_lines_read : Reads case_lines_text case_lines_script
  pub patterns_read : Reads patterns_text patterns_script
  pub pattern_esac_read : Reads pattern_esac_text pattern_esac_script
  pub redirected_read : Reads redirected_text redirected_script
  pub numbered_read : Reads numbered_text numbered_script
  pub behind_assignment_read : Reads behind_assignment_text behind_assignment_script
