-- Words, and what their form says of their fields, against which the definitions are held.
-- POSIX.1-2024, XCU 2.5.2 (special parameters), 2.6.2 (parameter expansion), 2.6.5 (field
-- splitting).
use Rattle.std.specs.Prelude.{◌≡◌, true, false, [], ◌∷◌, replicate, map, codes, Some, None}
use Rattle.sh_tree.specs.declared.tree.Action.TheVariants as action
use Rattle.sh_tree.specs.declared.tree.Binary.TheVariants as binary
use Rattle.sh_tree.specs.declared.tree.Removal.TheVariants as removal
use Rattle.sh_tree.specs.declared.tree.SingleStyle.TheVariants as style
use Rattle.sh_tree.specs.declared.tree.Special.TheVariants as special
use Rattle.sh_tree.specs.declared.tree.Unary.TheVariants as unary
use Rattle.sh_tree.specs.examples.Program.{only, plain, expansion, simple, lone}
use Rattle.sh_tree.specs.standard.program.Syntax.{Parameter, Variable, Positional, Part, Plain, Escaped, Single, Double, Expansion, Substitution, Tilde, Word, no_parts, more_parts, Value, Length, Use, Remove, Expression, Name, Expanded, Parenthesis, Signed, Chain, Choice, Assigned, no_operands, more_operands, no_items, operand, no_elements}
use Rattle.sh_runs.specs.Counts.{Parameters, One, Nothing, count_of}
use Rattle.sh_runs.specs.examples.Fields.{quoted, special_parameter, computed, one}
use Rattle.sh_runs.specs.Quoting.{are_whole, word_begins_pattern, word_mentions, is_about_separators, is_steady}
use Rattle.sh_runs.specs.standard.runs.Environment.{blanks}

-- `${x-w}`, `${x+w}`, `${x=w}`, `${x?w}`; `$x`, `${#x}`
abbrev pub default : Word → Part
default w = expansion 0 (Use action.Default false w)

abbrev pub alternative : Word → Part
alternative w = expansion 0 (Use action.Alternative false w)

abbrev pub assigning : Word → Part
assigning w = expansion 0 (Use action.Assign false w)

abbrev pub demanding : Word → Part
demanding w = expansion 0 (Use action.Fault false w)

abbrev pub value : Part
value = expansion 0 Value

abbrev pub length_of : Part
length_of = expansion 0 Length

-- `${x%w}`
abbrev pub removing : Word → Part
removing w = expansion 0 (Remove removal.ShortSuffix w)

-- `$()`
abbrev pub substituted : Part
substituted = Substitution 0 no_items

abbrev pub a : Word
a = plain (codes "a")

abbrev pub quoted_a : Word
quoted_a = only (Double a)

abbrev pub star : Part
star = special_parameter special.Asterisk

abbrev pub every : Part
every = special_parameter special.At

-- `$IFS`, and the name in arithmetic
abbrev pub ifs : Parameter
ifs = Variable (codes "IFS")

abbrev pub ifs_read : Expression
ifs_read = Name 0 (codes "IFS")

pub record CountsAsExpected : Type 0 where
  -- `"$@"`
  pub parameters : count_of (quoted (special_parameter special.At)) ≡ Parameters
  -- `a`, `$x`, `"$*"`, `${x=a}`, `${x?a}`, `${x%a}`, `$((1))`, `$()`, `~`, `\a`, `${x-a}a`
  pub at_least_one :
      map count_of
      (a ∷ only value ∷ quoted star ∷ only (assigning a) ∷ only (demanding a) ∷ only (removing a) ∷ computed one ∷ only substituted ∷ only (Tilde 0 []) ∷ only (Escaped (codes "a"))
      ∷ more_parts (default a) a ∷ [])
      ≡ replicate 11 One
  -- `""`, `"${x-$*}"`, `"${x+a}"`, `$((${x-$*}))`
  pub one_by_quotes :
      map count_of (only (Double no_parts) ∷ quoted (default (only star)) ∷ quoted (alternative a) ∷ computed (Expanded (default (only star))) ∷ []) ≡ replicate 4 One
  -- `$*`, `$@`, `"$@a"`, `a"$@"`, `${x+"$@"}`, `"${x%$*}"`, `$((1+${x%$*}))`
  pub perhaps_no_parameters :
      map count_of
      (only star ∷ only every ∷ only (Double (more_parts every a)) ∷ more_parts (Plain (codes "a")) (quoted every) ∷ only (alternative (quoted every)) ∷ quoted (removing (only star))
      ∷ computed (Chain one (more_operands binary.Add (Expanded (removing (only star))) no_operands)) ∷ [])
      ≡ replicate 7 Nothing
  -- `${x+a}`, `${x-a}`, `${x-a}${x+b}`
  pub perhaps_no_default : map count_of (only (alternative a) ∷ only (default a) ∷ more_parts (default a) (only (alternative (plain (codes "b")))) ∷ []) ≡ replicate 3 Nothing

pub record QuotingAsExpected : Type 0 where
  -- `$#`, `$?`, `$$`, `$!`, `${#x}`, `$((1))`, `${x+"a"}`, `${x+\a'a'}`, `"$x"`, `a"$x"`
  pub whole :
      map are_whole
      (only (special_parameter special.NumberSign) ∷ only (special_parameter special.QuestionMark) ∷ only (special_parameter special.Dollar) ∷ only (special_parameter special.Exclamation) ∷ only length_of
      ∷ computed one ∷ only (alternative quoted_a) ∷ only (alternative (more_parts (Escaped (codes "a")) (only (Single style.Plain (codes "a"))))) ∷ quoted value ∷ more_parts (Plain (codes "a")) (quoted value) ∷ [])
      ≡ replicate 10 true
  -- `$x`, `$-`, `$()`, `${x+}`, `${x+a}`, `${x+~}`, `${x+${x+"a"}}`, `${x-"a"}`, `${x+"a"a}`,
  -- `a$x`, `${x%a}`, `$1`, `$0`
  pub perhaps_split :
      map are_whole
      (only value ∷ only (special_parameter special.Hyphen) ∷ only substituted ∷ only (alternative no_parts) ∷ only (alternative a) ∷ only (alternative (only (Tilde 0 [])))
      ∷ only (alternative (only (alternative quoted_a))) ∷ only (default quoted_a) ∷ only (alternative (more_parts (Double a) a)) ∷ more_parts (Plain (codes "a")) (only value) ∷ only (removing a)
      ∷ only (Expansion 0 (Positional 1) Value) ∷ only (special_parameter special.Zero) ∷ [])
      ≡ replicate 13 false
  -- `*`, `?`, `[`, `a*`, `${x+*}`, `${x=*}`, `${x?*}`, `${x-${x+?}}`
  pub patterns :
      map word_begins_pattern
      (plain (codes "*") ∷ plain (codes "?") ∷ plain (codes "[") ∷ plain (codes "a*") ∷ only (alternative (plain (codes "*"))) ∷ only (assigning (plain (codes "*")))
      ∷ only (demanding (plain (codes "*"))) ∷ only (default (only (alternative (plain (codes "?"))))) ∷ [])
      ≡ replicate 8 true
  -- `"*"`, `\*`, `'*'`, `${x+"*"}`, `${x%*}`, `$(*)`, `$?`, `$*`, `]`
  pub no_patterns :
      map word_begins_pattern
      (only (Double (plain (codes "*"))) ∷ only (Escaped (codes "*")) ∷ only (Single style.Plain (codes "*")) ∷ only (alternative (only (Double (plain (codes "*"))))) ∷ only (removing (plain (codes "*")))
      ∷ only (Substitution 0 (lone (simple 1 0 (operand (plain (codes "*")) no_elements)))) ∷ only (special_parameter special.QuestionMark) ∷ only star ∷ plain (codes "]") ∷ [])
      ≡ replicate 9 false
  -- `$IFS`, `"$*"`, `${x+"$IFS"}`, `${x%$*}`, `${IFS=a}`, `$((IFS+1))`, `$((1+IFS))`, `$((IFS=1))`,
  -- `$((1?1:IFS))`, `$((-(IFS)))`
  pub separators :
      map (word_mentions is_about_separators)
      (only (Expansion 0 ifs Value) ∷ quoted star ∷ only (alternative (quoted (Expansion 0 ifs Value))) ∷ only (removing (only star)) ∷ only (Expansion 0 ifs (Use action.Assign false a))
      ∷ map computed
      (Chain ifs_read (more_operands binary.Add one no_operands) ∷ Chain one (more_operands binary.Add ifs_read no_operands) ∷ Assigned 0 (codes "IFS") None one ∷ Choice one one ifs_read
      ∷ Signed unary.Minus (Parenthesis ifs_read) ∷ []))
      ≡ replicate 10 true
  -- `a"$x"`, `$#`, `IFS`, `$((1))`, `"$@"`, `${IFSx}`
  pub no_separators :
      map (word_mentions is_about_separators)
      (more_parts (Plain (codes "a")) (quoted value) ∷ only (special_parameter special.NumberSign) ∷ plain (codes "IFS") ∷ computed one ∷ quoted every ∷ only (Expansion 0 (Variable (codes "IFSx")) Value) ∷ [])
      ≡ replicate 6 false
  -- IFS that is not set, and some values of it
  pub steady : map is_steady (None ∷ Some [] ∷ Some blanks ∷ Some (codes ":a") ∷ []) ≡ replicate 4 true
  pub unsteady : map is_steady (Some (codes "0") ∷ Some (codes " 9") ∷ Some (codes ":-") ∷ []) ≡ replicate 3 false

pub record FormsAsExpected : Type 0 where
  pub counts : CountsAsExpected
  pub quoting : QuotingAsExpected
