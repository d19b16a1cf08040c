-- Texts with expansions of each kind, and their trees.
-- POSIX.1-2024, XCU 2.6 (word expansions).
use Rattle.std.specs.Prelude.{ℕ, false, List, [], ◌∷◌, codes}
use Rattle.sh_tree.specs.declared.tree.Action.TheVariants as action
use Rattle.sh_tree.specs.declared.tree.Element.TheVariants as element
use Rattle.sh_tree.specs.declared.tree.Expr.TheVariants as expr
use Rattle.sh_tree.specs.declared.tree.ParameterOperator.TheVariants as operator
use Rattle.sh_tree.specs.declared.tree.Part.TheVariants as part
use Rattle.sh_tree.specs.declared.tree.Removal.TheVariants as removal
use Rattle.sh_tree.specs.declared.tree.Script.{Script}
use Rattle.sh_tree.specs.declared.tree.Special.TheVariants as special
use Rattle.sh_tree.specs.declared.tree.Subject.TheVariants.{Name, Special}
use Rattle.sh_tree.specs.examples.Language.{plain, bare, simple, lone}
use Rattle.sh_tree.specs.standard.language.Reading.{Reads}
use Rattle.sh_tree.specs.standard.language.Trees.{param, span, word}

-- the shortest prefix is removed
abbrev pub removed_prefix_text : List ℕ
removed_prefix_text = codes "${x#p}"

abbrev pub removed_prefix_script : Script
removed_prefix_script = lone (simple 1 0 (element.Word (word 0 6 (param 0 6 (Name (span 2 3)) (operator.Remove removal.ShortPrefix (bare 4 5))
    ∷ [])) ∷ []))

-- an octal constant
abbrev pub octal_text : List ℕ
octal_text = codes "$((017))"

abbrev pub octal_script : Script
octal_script = lone (simple 1 0 (element.Word (word 0 8 (part.Arith (span 0 8) (expr.Constant (span 3 6)) ∷ [])) ∷ []))

-- a special parameter in braces
abbrev pub status_text : List ℕ
status_text = codes "${?}"

abbrev pub status_script : Script
status_script = lone (simple 1 0 (element.Word (word 0 4 (param 0 4 (Special special.QuestionMark (span 2 3)) operator.Value ∷ [])) ∷ []))

-- single quotes in a default in double quotes are bytes
abbrev pub quoted_default_text : List ℕ
quoted_default_text = codes "\"${x-'a'}\""

abbrev pub quoted_default_script : Script
quoted_default_script = lone (simple 1 0 (element.Word (word 0 10
    (part.Double (span 0 10) (param 1 9 (Name (span 3 4)) (operator.Use action.Default false (bare 5 8)) ∷ []) ∷ [])) ∷ []))

-- all positional parameters, if fields are split
abbrev pub all_fields_text : List ℕ
all_fields_text = codes "\"$@\" ${x+$@}"

abbrev pub all_fields_script : Script
all_fields_script = lone (simple 1 0 (element.Word (word 0 4 (part.Double (span 0 4) (param 1 3 (Special special.At (span 2 3)) operator.Value
    ∷ []) ∷ [])) ∷ element.Word (word 5 12 (param 5 12 (Name (span 7 8)) (operator.Use action.Alternative false
    (word 9 11 (param 9 11 (Special special.At (span 10 11)) operator.Value ∷ []))) ∷ [])) ∷ []))

-- a tilde-prefix in an operand of `export` in assignment form
abbrev pub exported_text : List ℕ
exported_text = codes "export x=~"

abbrev pub exported_script : Script
exported_script = lone (simple 1 0 (element.Word (bare 0 6) ∷ element.Word (word 7 10 (plain 7 9 ∷ part.Tilde (span 9 10) ∷ [])) ∷ []))

-- no tilde-prefix after a colon in a pattern in double quotes
abbrev pub colon_in_double_text : List ℕ
colon_in_double_text = codes "x=\"${y%:~}\""

abbrev pub colon_in_double_script : Script
colon_in_double_script = lone (simple 1 0 (element.Assignment (span 0 1) (word 2 11
    (part.Double (span 2 11) (param 3 10 (Name (span 5 6)) (operator.Remove removal.ShortSuffix (bare 7 9)) ∷ []) ∷ [])) ∷ []))

-- nor in one in arithmetic
abbrev pub colon_in_arithmetic_text : List ℕ
colon_in_arithmetic_text = codes "x=$((${y%x:~}))"

abbrev pub colon_in_arithmetic_script : Script
colon_in_arithmetic_script = lone (simple 1 0 (element.Assignment (span 0 1) (word 2 15
    (part.Arith (span 2 15) (expr.Expansion (param 5 13 (Name (span 7 8)) (operator.Remove removal.ShortSuffix (bare 9 12)))) ∷ [])) ∷ []))

-- one after an unquoted colon
abbrev pub colon_in_pattern_text : List ℕ
colon_in_pattern_text = codes "x=${y%:~}"

abbrev pub colon_in_pattern_script : Script
colon_in_pattern_script = lone (simple 1 0 (element.Assignment (span 0 1)
    (word 2 9 (param 2 9 (Name (span 4 5)) (operator.Remove removal.ShortSuffix (word 6 8 (plain 6 7 ∷ part.Tilde (span 7 8) ∷ []))) ∷ [])) ∷ []))

-- each text is its tree
pub record WordsRead : Type 0 where
  pub removed_prefix_read : Reads removed_prefix_text removed_prefix_script
  pub octal_read : Reads octal_text octal_script
  pub status_read : Reads status_text status_script
  pub quoted_default_read : Reads quoted_default_text quoted_default_script
  pub all_fields_read : Reads all_fields_text all_fields_script
  pub exported_read : Reads exported_text exported_script
  pub colon_in_double_read : Reads colon_in_double_text colon_in_double_script
  pub colon_in_arithmetic_read : Reads colon_in_arithmetic_text colon_in_arithmetic_script
  pub colon_in_pattern_read : Reads colon_in_pattern_text colon_in_pattern_script
