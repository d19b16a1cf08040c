-- Known scripts, and the places of what is unquoted in them, against which the rules of quoting are
-- held.
-- POSIX.1-2024, XCU 2.6.5 (field splitting), 2.6.6 (pathname expansion).
use Rattle.std.specs.Prelude.{◌≡◌, ℕ, true, false, List, [], ◌∷◌, replicate, map, codes, None}
use Rattle.sh_tree.specs.declared.tree.Action.TheVariants as action
use Rattle.sh_tree.specs.declared.tree.SingleStyle.TheVariants as single
use Rattle.sh_tree.specs.declared.tree.Special.TheVariants as special
use Rattle.sh_tree.specs.examples.Program.{only, plain, simple, lone}
use Rattle.sh_tree.specs.standard.program.Syntax.{Items, Variable, Special, Plain, Single, Double, Expansion, Arithmetic, Substitution, more_parts, Value, Use, Constant, Name, Assigned, Subshell, For, no_elements, assignment, operand, redirection, File, every_parameter}
use Rattle.sh_domain.specs.examples.Programs.{quoted, quoted_parameter, text, compound}
use Rattle.sh_quote.specs.Places.{unquoted}
use Rattle.sh_quote.specs.Steady.{steady}
use Rattle.sh_domain.specs.examples.ShortScripts as short_scripts
use Rattle.sh_domain.specs.examples.MoreShortScripts as more_short_scripts
use Rattle.sh_domain.specs.examples.Scripts as scripts
use Rattle.sh_domain.specs.examples.LongerScripts as longer_scripts

-- the offsets of what is unquoted
abbrev pub places : Items → List ℕ
places t = map (λ x. x.at) (unquoted t)

pub record QuotesAsExpected : Type 0 where
  pub in_short_scripts :
      map places
      (short_scripts.script_3_program ∷ short_scripts.script_4_program ∷ short_scripts.script_16_program ∷ short_scripts.script_17_program ∷
      short_scripts.script_18_program ∷ short_scripts.script_26_program ∷ short_scripts.script_27_program ∷ [])
      ≡ (5 ∷ []) ∷ (5 ∷ []) ∷ [] ∷ (9 ∷ []) ∷ [] ∷ [] ∷ (18 ∷ []) ∷ []
  pub in_more_short_scripts :
      map places
      (more_short_scripts.script_55_program ∷ more_short_scripts.script_56_program ∷ more_short_scripts.script_57_program ∷
      more_short_scripts.script_58_program ∷ more_short_scripts.script_59_program ∷ [])
      ≡ (6 ∷ []) ∷ [] ∷ (19 ∷ []) ∷ (5 ∷ []) ∷ (21 ∷ []) ∷ []
  pub in_scripts :
      map places
      (scripts.script_27_program ∷ scripts.script_29_program ∷ scripts.script_31_program ∷ scripts.script_34_program ∷ [])
      ≡ (10 ∷ []) ∷ [] ∷ [] ∷ [] ∷ []
  pub in_longer_scripts :
      map places
      (longer_scripts.script_42_program ∷ longer_scripts.script_48_program ∷ longer_scripts.script_51_program ∷ longer_scripts.script_52_program ∷
      longer_scripts.script_60_program ∷ longer_scripts.script_61_program ∷ longer_scripts.script_64_program ∷ longer_scripts.script_66_program ∷ [])
      ≡ [] ∷ [] ∷ (64 ∷ 67 ∷ 84 ∷ []) ∷ (15 ∷ []) ∷ [] ∷ [] ∷ [] ∷ [] ∷ []
  -- `IFS=:`, `IFS='*'`, `unset IFS`, `read -r x`, `export x="$y"`, `export IFS=:`,
  -- `export "IFS=:"`, `getopts "$o" x`, `echo $((IFS))`, `echo "${IFS-0}"`
  pub steady_scripts :
      map steady
      ((lone (simple 1 0 (assignment (codes "IFS") (plain (codes ":")) no_elements))) ∷ (lone (simple 1 0 (assignment (codes "IFS") (only (Single
      single.Plain (codes "*"))) no_elements))) ∷ (lone (simple 1 0 (text (codes "unset") (text (codes "IFS") no_elements)))) ∷ (lone (simple 1 0
      (text (codes "read") (text (codes "-r") (text (codes "x") no_elements))))) ∷ (lone (simple 1 0 (text (codes "export") (operand (more_parts
      (Plain (codes "x=")) (only (quoted 0 (codes "y")))) no_elements)))) ∷ (lone (simple 1 0 (text (codes "export") (text (codes "IFS=:")
      no_elements)))) ∷ (lone (simple 1 0 (text (codes "export") (operand (only (Double (plain (codes "IFS=:")))) no_elements)))) ∷ (lone (simple 1 0
      (text (codes "getopts") (operand (only (quoted 0 (codes "o"))) (text (codes "x") no_elements))))) ∷ (lone (simple 1 0 (text (codes "echo")
      (operand (only (Arithmetic 0 (Name 0 (codes "IFS")))) no_elements)))) ∷ (lone (simple 1 0 (text (codes "echo") (operand (only (Double (only
      (Expansion 0 (Variable (codes "IFS")) (Use action.Default false (plain (codes "0"))))))) no_elements)))) ∷ [])
      ≡ replicate 10 true
  -- `IFS=0`, `IFS=-`, `IFS=*`, `IFS=$x`, `IFS=0 read -r x`, `export IFS=0`, `readonly "IFS=0"`,
  -- `export "$x"`, `readonly $x`, `for IFS do :; done`, `read -r IFS`, `read -r "$x"`,
  -- `getopts a IFS`, `getopts "$x" "$y"`, `getopts "$@" x`, `getopts $o x`, `: "${IFS=a}"`,
  -- `: $((IFS=1))`, `>"${IFS=a}"`, `(IFS=0)`, `echo "$(IFS=0)"`
  pub unsteady_scripts :
      map steady
      ((lone (simple 1 0 (assignment (codes "IFS") (plain (codes "0")) no_elements))) ∷ (lone (simple 1 0 (assignment (codes "IFS") (plain
      (codes "-")) no_elements))) ∷ (lone (simple 1 0 (assignment (codes "IFS") (plain (codes "*")) no_elements))) ∷ (lone (simple 1 0 (assignment
      (codes "IFS") (only (Expansion 0 (Variable (codes "x")) Value)) no_elements))) ∷ (lone (simple 1 0 (assignment (codes "IFS") (plain
      (codes "0")) (text (codes "read") (text (codes "-r") (text (codes "x") no_elements)))))) ∷ (lone (simple 1 0 (text (codes "export") (text
      (codes "IFS=0") no_elements)))) ∷ (lone (simple 1 0 (text (codes "readonly") (operand (only (Double (plain (codes "IFS=0")))) no_elements)))) ∷
      (lone (simple 1 0 (text (codes "export") (operand (only (quoted 0 (codes "x"))) no_elements)))) ∷ (lone (simple 1 0 (text (codes "readonly")
      (operand (only (Expansion 0 (Variable (codes "x")) Value)) no_elements)))) ∷ (lone (compound 1 0 (For (codes "IFS") every_parameter (lone
      (simple 1 0 (text (codes ":") no_elements)))))) ∷ (lone (simple 1 0 (text (codes "read") (text (codes "-r") (text (codes "IFS")
      no_elements))))) ∷ (lone (simple 1 0 (text (codes "read") (text (codes "-r") (operand (only (quoted 0 (codes "x"))) no_elements))))) ∷ (lone
      (simple 1 0 (text (codes "getopts") (text (codes "a") (text (codes "IFS") no_elements))))) ∷ (lone (simple 1 0 (text (codes "getopts") (operand
      (only (quoted 0 (codes "x"))) (operand (only (quoted 0 (codes "y"))) no_elements))))) ∷ (lone (simple 1 0 (text (codes "getopts") (operand
      (only (quoted_parameter 0 (Special special.At))) (text (codes "x") no_elements))))) ∷ (lone (simple 1 0 (text (codes "getopts") (operand (only
      (Expansion 0 (Variable (codes "o")) Value)) (text (codes "x") no_elements))))) ∷ (lone (simple 1 0 (text (codes ":") (operand (only (Double
      (only (Expansion 0 (Variable (codes "IFS")) (Use action.Assign false (plain (codes "a"))))))) no_elements)))) ∷ (lone (simple 1 0 (text
      (codes ":") (operand (only (Arithmetic 0 (Assigned 0 (codes "IFS") None (Constant (codes "1"))))) no_elements)))) ∷ (lone (simple 1 0
      (redirection (File (only (Double (only (Expansion 0 (Variable (codes "IFS")) (Use action.Assign false (plain (codes "a")))))))) no_elements)))
      ∷ (lone (compound 1 0 (Subshell (lone (simple 1 0 (assignment (codes "IFS") (plain (codes "0")) no_elements)))))) ∷ (lone (simple 1 0 (text
      (codes "echo") (operand (only (Double (only (Substitution 0 (lone (simple 1 0 (assignment (codes "IFS") (plain (codes "0")) no_elements)))))))
      no_elements)))) ∷ [])
      ≡ replicate 21 false
