-- What small words expand to, against which the definitions are held.
-- POSIX.1-2024, XCU 2.5.2 (special parameters), 2.6 (word expansions), 1.1.2.1 (arithmetic
-- precision and operations).
use Rattle.std.specs.Prelude.{◌≡◌, ℕ, ◌==◌, Bool, true, false, List, [], ◌∷◌, map, codes, Option, Some, None, pos, negsuc, ℤ}
use Rattle.sh_tree.specs.declared.tree.Action.{Action}
use Rattle.sh_tree.specs.declared.tree.Action.TheVariants as action
use Rattle.sh_tree.specs.declared.tree.Binary.TheVariants as binary
use Rattle.sh_tree.specs.declared.tree.Removal.TheVariants as removal
use Rattle.sh_tree.specs.declared.tree.Special as tree
use Rattle.sh_tree.specs.declared.tree.Special.TheVariants as special
use Rattle.sh_tree.specs.standard.program.Syntax.{Text, Variable, Positional, Special, Plain, Escaped, Double, Expansion, Arithmetic, Tilde, Part, Word, no_parts, more_parts, Value, Length, Use, Remove, Expression, Name, Constant, Expanded, Parenthesis, Chain, Choice, Assigned, no_operands, more_operands}
use Rattle.sh_tree.specs.examples.Program.{only, plain, expansion}
use Rattle.sh_runs.specs.standard.runs.Environment.{Environment, Frame, with_variable}
use Rattle.sh_runs.specs.standard.runs.Numbers.{digits, integer_text, is_integer}
use Rattle.sh_runs.specs.standard.runs.Answers.{Given, Directory}
use Rattle.sh_runs.specs.standard.runs.States.{State, fresh}
use Rattle.sh_runs.specs.standard.runs.Expansion.{Outcome, in_fields, expand}
use Rattle.sh_runs.specs.Theorem.{fields_of}
use Rattle.sh_runs.specs.examples.Runs.{bare_x, quoted_x, every, bare_start, start_with, quiet_given}

-- Words

-- `$y`, and `$x`, `$y` one after the other
abbrev pub bare_y : Part
bare_y = Expansion 0 (Variable (codes "y")) Value

abbrev pub x_and_y : Word
x_and_y = more_parts (expansion 0 Value) (only bare_y)

abbrev pub quoted : Part → Word
quoted x = only (Double (only x))

-- a special parameter
abbrev pub special_parameter : tree.Special → Part
special_parameter c = Expansion 0 (Special c) Value

-- `${x-w}` and the like, without a colon and with one
abbrev pub used : Action → Word → Word
used a w = only (expansion 0 (Use a false w))

abbrev pub used_colon : Action → Word → Word
used_colon a w = only (expansion 0 (Use a true w))

abbrev pub w_word : Word
w_word = plain (codes "w")

-- `a"$@"b`
abbrev pub between : Word
between = more_parts (Plain (codes "a")) (more_parts (Double (only (special_parameter special.At))) (plain (codes "b")))

-- `$((..))`, and what is in it
abbrev pub computed : Expression → Word
computed e = only (Arithmetic 0 e)

abbrev pub name : Text → Expression
name t = Name 0 t

abbrev pub one : Expression
one = Constant (codes "1")

abbrev pub x_gets : Expression → Expression
x_gets e = Assigned 0 (codes "x") None e

-- `$((x ? y : z))`, and `$(($x + 1))`
abbrev pub x_chooses : Word
x_chooses = computed (Choice (name (codes "x")) (name (codes "y")) (name (codes "z")))

abbrev pub expanded_sum : Word
expanded_sum = computed (Chain (Expanded (expansion 0 Value)) (more_operands binary.Add one no_operands))

-- `$((x + 1))`
abbrev pub named_sum : Word
named_sum = computed (Chain (name (codes "x")) (more_operands binary.Add one no_operands))

-- Starts

abbrev pub with_ifs : Text → Environment → Environment
with_ifs t e = with_variable e (codes "IFS") (Some t)

abbrev pub without_ifs : Environment → Environment
without_ifs e = with_variable e (codes "IFS") None

abbrev pub with_y : Text → Environment → Environment
with_y t e = with_variable e (codes "y") (Some t)

abbrev pub with_home : Text → Environment
with_home t = with_variable bare_start (codes "HOME") (Some t)

-- the parameters `a`, `b c` and `d`
abbrev pub three : Frame
three = codes "a" ∷ codes "b c" ∷ codes "d" ∷ []

-- and what splitting makes of them
abbrev pub four : Frame
four = codes "a" ∷ codes "b" ∷ codes "c" ∷ codes "d" ∷ []

-- x is not set, is empty, and is `v`
abbrev pub three_starts : List Environment
three_starts = bare_start ∷ start_with [] ∷ start_with (codes "v") ∷ []

-- What words expand to

abbrev pub quiet_givens : ℕ → Given
quiet_givens n = quiet_given

-- each answer is this integer
abbrev pub integers : ℤ → ℕ → Given
integers k n = record quiet_given { integer = k }

abbrev pub expanded_by : (ℕ → Given) → Environment → Frame → Word → Outcome
expanded_by given e f w = expand f 0 in_fields w (fresh e given)

-- `$((x += (x = 1)))`; x is read first, or not
abbrev pub added : Word
added = computed (Assigned 0 (codes "x") (Some binary.Add) (Parenthesis (x_gets one)))

abbrev pub reading : Bool → ℕ → Given
reading first n = record quiet_given { integer = pos 3; reads_first = first }

-- a directory without names, and one with two, for each pattern
abbrev pub empty_directory : Directory
empty_directory field = []

abbrev pub two_names : Directory
two_names field = codes "n1" ∷ codes "n2" ∷ []

abbrev pub fields_of_word : Environment → Frame → Word → List Text
fields_of_word e f w = fields_of empty_directory (expanded_by quiet_givens e f w)

-- those with these answers, and in a directory with names
abbrev pub fields_by : (ℕ → Given) → Environment → Frame → Word → List Text
fields_by given e f w = fields_of empty_directory (expanded_by given e f w)

abbrev pub names_of_word : Environment → Word → List Text
names_of_word e w = fields_of two_names (expanded_by quiet_givens e [] w)

-- the state afterwards: a parameter that is not set was met, the process ends, arithmetic met
-- another value, a variable
abbrev pub state_by : (ℕ → Given) → Environment → Word → State
state_by given e w = (expanded_by given e [] w).state

abbrev pub is_unset : Environment → Word → Bool
is_unset e w = (state_by quiet_givens e w).unset

abbrev pub is_ended : Environment → Word → Bool
is_ended e w = (state_by quiet_givens e w).ended

abbrev pub strays : Environment → Word → Bool
strays e w = (state_by quiet_givens e w).strays

abbrev pub x_by : (ℕ → Given) → Environment → Word → Option Text
x_by given e w = (state_by given e w).environment.variables (codes "x")

abbrev pub x_behind : Environment → Word → Option Text
x_behind e w = x_by quiet_givens e w

-- Rows

pub record SplittingAsExpected : Type 0 where
  -- `$x` with `a b`: under the default IFS, without IFS, under an empty one, and under one of other
  -- bytes
  pub blank : fields_of_word (start_with (codes "a b")) [] bare_x ≡ codes "a" ∷ codes "b" ∷ []
  pub blank_without_ifs : fields_of_word (without_ifs (start_with (codes "a b"))) [] bare_x ≡ codes "a" ∷ codes "b" ∷ []
  pub blank_empty_ifs : fields_of_word (with_ifs [] (start_with (codes "a b"))) [] bare_x ≡ codes "a b" ∷ []
  pub blank_other_ifs : fields_of_word (with_ifs (codes ":") (start_with (codes "a b"))) [] bare_x ≡ codes "a b" ∷ []
  pub blanks_around : fields_of_word (start_with (codes " \ta \n b\n")) [] bare_x ≡ codes "a" ∷ codes "b" ∷ []
  -- `$x` under IFS `:`: a field between two separators is empty; one separator at the end ends a
  -- field
  pub empty_between : fields_of_word (with_ifs (codes ":") (start_with (codes "a::b"))) [] bare_x ≡ codes "a" ∷ [] ∷ codes "b" ∷ []
  pub empty_first : fields_of_word (with_ifs (codes ":") (start_with (codes ":a"))) [] bare_x ≡ [] ∷ codes "a" ∷ []
  pub separator_last : fields_of_word (with_ifs (codes ":") (start_with (codes "a:"))) [] bare_x ≡ codes "a" ∷ []
  pub separators_last : fields_of_word (with_ifs (codes ":") (start_with (codes "a::"))) [] bare_x ≡ codes "a" ∷ [] ∷ []
  pub separator_alone : fields_of_word (with_ifs (codes ":") (start_with (codes ":"))) [] bare_x ≡ [] ∷ []
  -- `$x` under IFS ` :`: blanks round a separator belong to it
  pub blanks_of_separator : fields_of_word (with_ifs (codes " :") (start_with (codes " a : b "))) [] bare_x ≡ codes "a" ∷ codes "b" ∷ []
  pub blanks_between_separators : fields_of_word (with_ifs (codes " :") (start_with (codes "a : : b"))) [] bare_x ≡ codes "a" ∷ [] ∷ codes "b" ∷ []
  pub blanks_of_separator_alone : fields_of_word (with_ifs (codes " :") (start_with (codes " : "))) [] bare_x ≡ [] ∷ []
  -- `$x` and `"$x"` with an empty value, and with blanks alone; `$x""`
  pub empty : fields_of_word (start_with []) [] bare_x ≡ []
  pub empty_quoted : fields_of_word (start_with []) [] quoted_x ≡ [] ∷ []
  pub blank_alone : fields_of_word (start_with (codes "  ")) [] bare_x ≡ []
  pub blank_quoted : fields_of_word (start_with (codes "a b")) [] quoted_x ≡ codes "a b" ∷ []
  pub empty_and_quotes : fields_of_word (start_with []) [] (more_parts (expansion 0 Value) (only (Double no_parts))) ≡ [] ∷ []
  -- `a$x`, `""$x`, `"$x"$y`, `$x$y`
  pub behind_literal : fields_of_word (start_with (codes "a b")) [] (more_parts (Plain (codes "a")) bare_x) ≡ codes "aa" ∷ codes "b" ∷ []
  pub behind_literal_blank : fields_of_word (start_with (codes " b")) [] (more_parts (Plain (codes "a")) bare_x) ≡ codes "a" ∷ codes "b" ∷ []
  pub behind_quotes : fields_of_word (start_with (codes " a")) [] (more_parts (Double no_parts) bare_x) ≡ [] ∷ codes "a" ∷ []
  pub quoted_before_bare : fields_of_word (with_y (codes "c d") (start_with (codes "a b"))) [] (more_parts (Double bare_x) (only bare_y)) ≡ codes "a bc" ∷ codes "d" ∷ []
  pub bare_before_bare : fields_of_word (with_y (codes "c d") (start_with (codes "a b"))) [] x_and_y ≡ codes "a" ∷ codes "bc" ∷ codes "d" ∷ []
  pub blanks_meet : fields_of_word (with_y (codes " b") (start_with (codes "a "))) [] x_and_y ≡ codes "a" ∷ codes "b" ∷ []
  pub separators_meet : fields_of_word (with_ifs (codes ":") (with_y (codes ":b") (start_with (codes "a:")))) [] x_and_y ≡ codes "a" ∷ [] ∷ codes "b" ∷ []

pub record ParametersAsExpected : Type 0 where
  -- `$*`, with none, one and three parameters; under an empty IFS
  pub star_none : fields_of_word bare_start [] (only (special_parameter special.Asterisk)) ≡ []
  pub star_one : fields_of_word bare_start (codes "a b" ∷ []) (only (special_parameter special.Asterisk)) ≡ codes "a" ∷ codes "b" ∷ []
  pub star_three : fields_of_word bare_start three (only (special_parameter special.Asterisk)) ≡ four
  pub star_unsplit : fields_of_word (with_ifs [] bare_start) three (only (special_parameter special.Asterisk)) ≡ three
  -- `"$*"`: joined by the first byte of IFS, by nothing if that is empty, and by a blank if it is
  -- not set
  pub quoted_star_none : fields_of_word bare_start [] (quoted (special_parameter special.Asterisk)) ≡ [] ∷ []
  pub quoted_star_one : fields_of_word bare_start (codes "a b" ∷ []) (quoted (special_parameter special.Asterisk)) ≡ codes "a b" ∷ []
  pub quoted_star_three : fields_of_word bare_start three (quoted (special_parameter special.Asterisk)) ≡ codes "a b c d" ∷ []
  pub quoted_star_ifs : fields_of_word (with_ifs (codes ":-") bare_start) three (quoted (special_parameter special.Asterisk)) ≡ codes "a:b c:d" ∷ []
  pub quoted_star_empty_ifs : fields_of_word (with_ifs [] bare_start) three (quoted (special_parameter special.Asterisk)) ≡ codes "ab cd" ∷ []
  pub quoted_star_without_ifs : fields_of_word (without_ifs bare_start) three (quoted (special_parameter special.Asterisk)) ≡ codes "a b c d" ∷ []
  -- `$@`
  pub at_none : fields_of_word bare_start [] (only (special_parameter special.At)) ≡ []
  pub at_one : fields_of_word bare_start (codes "a b" ∷ []) (only (special_parameter special.At)) ≡ codes "a" ∷ codes "b" ∷ []
  pub at_three : fields_of_word bare_start three (only (special_parameter special.At)) ≡ four
  -- `"$@"`, with empty parameters too; `a"$@"b`; `"$@"""`; `${1+"$@"}`
  pub every_none : fields_of_word bare_start [] every ≡ []
  pub every_one : fields_of_word bare_start (codes "a b" ∷ []) every ≡ codes "a b" ∷ []
  pub every_three : fields_of_word bare_start three every ≡ three
  pub every_empty : fields_of_word bare_start ([] ∷ codes "a" ∷ [] ∷ []) every ≡ [] ∷ codes "a" ∷ [] ∷ []
  pub every_empty_ifs : fields_of_word (with_ifs [] bare_start) three every ≡ three
  pub between_none : fields_of_word bare_start [] between ≡ codes "ab" ∷ []
  pub between_one : fields_of_word bare_start (codes "c d" ∷ []) between ≡ codes "ac db" ∷ []
  pub between_three : fields_of_word bare_start three between ≡ codes "aa" ∷ codes "b c" ∷ codes "db" ∷ []
  pub every_and_quotes : fields_of_word bare_start [] (more_parts (Double (only (special_parameter special.At))) (only (Double no_parts))) ≡ [] ∷ []
  pub first_and_every : map (λ f. fields_of_word bare_start f (only (Expansion 0 (Positional 1) (Use action.Alternative false every)))) ([] ∷ three ∷ []) ≡ [] ∷ three ∷ []
  -- `$#`, `${#x}`, `$?`, `$$`, `$!`, `$2`
  pub number_of_parameters : fields_of_word bare_start three (only (special_parameter special.NumberSign)) ≡ codes "3" ∷ []
  pub length_of_x : fields_of_word (start_with (codes "hello world")) [] (only (expansion 0 Length)) ≡ codes "11" ∷ []
  pub length_of_unset : is_unset bare_start (only (expansion 0 Length)) ≡ true
  pub last_status : fields_of empty_directory (expand [] 127 in_fields (only (special_parameter special.QuestionMark)) (fresh bare_start quiet_givens)) ≡ codes "127" ∷ []
  pub process : fields_by (λ n. record quiet_given { number = 4321 }) bare_start [] (only (special_parameter special.Dollar)) ≡ codes "4321" ∷ []
  pub job : fields_by (λ n. record quiet_given { number = 77 }) (record bare_start { job = true }) [] (only (special_parameter special.Exclamation)) ≡ codes "77" ∷ []
  pub job_is_set : is_unset (record bare_start { job = true }) (only (special_parameter special.Exclamation)) ≡ false
  pub job_is_unset : is_unset bare_start (only (special_parameter special.Exclamation)) ≡ true
  pub job_is_nothing : fields_of_word bare_start [] (only (special_parameter special.Exclamation)) ≡ []
  pub second : fields_of_word bare_start three (only (Expansion 0 (Positional 2) Value)) ≡ codes "b" ∷ codes "c" ∷ []
  pub second_is_unset : is_unset bare_start (only (Expansion 0 (Positional 2) Value)) ≡ true

pub record UsesAsExpected : Type 0 where
  -- `${x-w}` with x not set, empty, and `v`; the same of `${x:-w}`, `${x+w}`, `${x:+w}`
  pub default : map (λ e. fields_of_word e [] (used action.Default w_word)) three_starts ≡ (codes "w" ∷ []) ∷ [] ∷ (codes "v" ∷ []) ∷ []
  pub default_colon : map (λ e. fields_of_word e [] (used_colon action.Default w_word)) three_starts ≡ (codes "w" ∷ []) ∷ (codes "w" ∷ []) ∷ (codes "v" ∷ []) ∷ []
  pub alternative : map (λ e. fields_of_word e [] (used action.Alternative w_word)) three_starts ≡ [] ∷ (codes "w" ∷ []) ∷ (codes "w" ∷ []) ∷ []
  pub alternative_colon : map (λ e. fields_of_word e [] (used_colon action.Alternative w_word)) three_starts ≡ [] ∷ [] ∷ (codes "w" ∷ []) ∷ []
  -- none of them meets a parameter that is not set, nor changes x; but the word may, if it is
  -- needed: `${x-$y}`, `${x+$y}`
  pub not_met : map (λ a. is_unset bare_start (used a w_word)) (action.Default ∷ action.Alternative ∷ action.Assign ∷ []) ≡ false ∷ false ∷ false ∷ []
  pub not_assigned : map (λ a. x_behind bare_start (used a w_word)) (action.Default ∷ action.Alternative ∷ action.Fault ∷ []) ≡ None ∷ None ∷ None ∷ []
  pub word_is_met : map (λ e. is_unset e (used action.Default (only bare_y))) three_starts ≡ true ∷ false ∷ false ∷ []
  pub word_is_not_met : map (λ e. is_unset e (used action.Alternative (only bare_y))) three_starts ≡ false ∷ true ∷ true ∷ []
  -- `${x=w}`, `${x:=w}`, and x afterwards
  pub assigned : map (λ e. fields_of_word e [] (used action.Assign w_word)) three_starts ≡ (codes "w" ∷ []) ∷ [] ∷ (codes "v" ∷ []) ∷ []
  pub assigned_x : map (λ e. x_behind e (used action.Assign w_word)) three_starts ≡ Some (codes "w") ∷ Some [] ∷ Some (codes "v") ∷ []
  pub assigned_colon : map (λ e. fields_of_word e [] (used_colon action.Assign w_word)) three_starts ≡ (codes "w" ∷ []) ∷ (codes "w" ∷ []) ∷ (codes "v" ∷ []) ∷ []
  pub assigned_colon_x : map (λ e. x_behind e (used_colon action.Assign w_word)) three_starts ≡ Some (codes "w") ∷ Some (codes "w") ∷ Some (codes "v") ∷ []
  -- `${x=w}$x`
  pub assigned_then_read : fields_of_word bare_start [] (more_parts (expansion 0 (Use action.Assign false w_word)) bare_x) ≡ codes "ww" ∷ []
  -- `${1=w}` ends the process, if the parameter is not set; an assignment that fails does so too
  pub positional_ends : is_ended bare_start (only (Expansion 0 (Positional 1) (Use action.Assign false w_word))) ≡ true
  pub assignment_fails : (state_by (λ n. record quiet_given { fails = true }) bare_start (used action.Assign w_word)).ended ≡ true
  -- `${x?w}`, `${x:?w}`
  pub fault : map (λ e. is_ended e (used action.Fault w_word)) three_starts ≡ true ∷ false ∷ false ∷ []
  pub fault_colon : map (λ e. is_ended e (used_colon action.Fault w_word)) three_starts ≡ true ∷ true ∷ false ∷ []
  pub no_fault : fields_of_word (start_with (codes "v")) [] (used action.Fault w_word) ≡ codes "v" ∷ []
  -- `${x-a b}`, `"${x-a b}"`, `${x-"a b"}`, `${x=a b}`, `${x="a b"}`, `"${x+w}"`
  pub default_splits : fields_of_word bare_start [] (used action.Default (plain (codes "a b"))) ≡ codes "a" ∷ codes "b" ∷ []
  pub quoted_default : fields_of_word bare_start [] (only (Double (used action.Default (plain (codes "a b"))))) ≡ codes "a b" ∷ []
  pub default_quoted : fields_of_word bare_start [] (used action.Default (only (Double (plain (codes "a b"))))) ≡ codes "a b" ∷ []
  pub assigned_splits : fields_of_word bare_start [] (used action.Assign (plain (codes "a b"))) ≡ codes "a" ∷ codes "b" ∷ []
  pub assigned_quoted_splits : fields_of_word bare_start [] (used action.Assign (only (Double (plain (codes "a b"))))) ≡ codes "a" ∷ codes "b" ∷ []
  pub assigned_whole : x_behind bare_start (used action.Assign (plain (codes "a b"))) ≡ Some (codes "a b")
  pub quoted_alternative : fields_of_word bare_start [] (only (Double (used action.Alternative w_word))) ≡ [] ∷ []
  -- `${x%w}`: the answer's text; if x is not set, that is met
  pub removed : fields_by (λ n. record quiet_given { text = codes "t" }) (start_with (codes "tw")) [] (only (expansion 0 (Remove removal.ShortSuffix w_word))) ≡ codes "t" ∷ []
  pub removed_unset : map (λ e. is_unset e (only (expansion 0 (Remove removal.ShortSuffix w_word)))) three_starts ≡ true ∷ false ∷ false ∷ []
  -- `~`, `~/a`, `~` with a blank in HOME, and without HOME; `~user`
  pub home : fields_of_word (with_home (codes "/h")) [] (only (Tilde 0 [])) ≡ codes "/h" ∷ []
  pub home_and_path : fields_of_word (with_home (codes "/h")) [] (more_parts (Tilde 0 []) (plain (codes "/a"))) ≡ codes "/h/a" ∷ []
  pub home_stays_whole : fields_of_word (with_home (codes "/a b*")) [] (only (Tilde 0 [])) ≡ codes "/a b*" ∷ []
  pub home_is_set : is_unset (with_home (codes "/h")) (only (Tilde 0 [])) ≡ false
  pub home_is_unset : is_unset bare_start (only (Tilde 0 [])) ≡ true
  pub user : fields_by (λ n. record quiet_given { text = codes "/u" }) bare_start [] (only (Tilde 0 (codes "user"))) ≡ codes "/u" ∷ []
  pub user_without_home : is_unset bare_start (only (Tilde 0 (codes "user"))) ≡ false

pub record ComputedAsExpected : Type 0 where
  -- `$((x=2))`: x gets the answer's integer, which is the word's text
  pub assigned : x_by (integers (pos 2)) bare_start (computed (x_gets (Constant (codes "2")))) ≡ Some (codes "2")
  pub assigned_text : fields_by (integers (negsuc 1)) bare_start [] (computed (x_gets (Constant (codes "2")))) ≡ codes "-2" ∷ []
  pub assigned_unmet : is_unset bare_start (computed (x_gets (Constant (codes "2")))) ≡ false
  -- `$((x += 1))` reads x
  pub added_met : is_unset bare_start (computed (Assigned 0 (codes "x") (Some binary.Add) one)) ≡ true
  -- `$((x += (x = 1)))` reads x before it is assigned, or after that; it has the last answer's
  -- integer
  pub added_to_assigned : map (λ first. (state_by (reading first) bare_start added).unset) (true ∷ false ∷ []) ≡ true ∷ false ∷ []
  pub added_value : map (λ first. x_by (reading first) bare_start added) (true ∷ false ∷ []) ≡ Some (codes "3") ∷ Some (codes "3") ∷ []
  -- `$((0 && (x=1)))`, if the answer for `0` is zero, and if it is one; `$((1 || (x=1)))`
  pub and_zero : x_by (integers (pos 0)) bare_start (computed (Chain (Constant (codes "0")) (more_operands binary.And (Parenthesis (x_gets one)) no_operands))) ≡ None
  pub and_one : x_by (integers (pos 1)) bare_start (computed (Chain (Constant (codes "0")) (more_operands binary.And (Parenthesis (x_gets one)) no_operands))) ≡ Some (codes "1")
  pub or_zero : x_by (integers (pos 0)) bare_start (computed (Chain one (more_operands binary.Or (Parenthesis (x_gets one)) no_operands))) ≡ Some (codes "0")
  pub or_one : x_by (integers (pos 1)) bare_start (computed (Chain one (more_operands binary.Or (Parenthesis (x_gets one)) no_operands))) ≡ None
  -- `$((x ? y : z))` with x and y set: y is read after another value than zero, and z after zero
  pub choice_one : (state_by (integers (pos 1)) (with_y (codes "2") (start_with (codes "1"))) x_chooses).unset ≡ false
  pub choice_zero : (state_by (integers (pos 0)) (with_y (codes "2") (start_with (codes "0"))) x_chooses).unset ≡ true
  -- `$(($x + 1))`: x is an integer constant, or is not, or is not set
  pub expanded_number : strays (start_with (codes "0x1F")) expanded_sum ≡ false
  pub expanded_text : strays (start_with (codes "a")) expanded_sum ≡ true
  pub expanded_nothing : strays (start_with []) expanded_sum ≡ true
  pub expanded_unset : is_unset bare_start expanded_sum ≡ true
  pub expanded_blanks : map (λ t. strays (start_with t) expanded_sum) (codes " 5 " ∷ codes "\t-0x1F\n" ∷ codes " " ∷ codes "1 2" ∷ []) ≡ false ∷ false ∷ true ∷ true ∷ []
  -- `$((x + 1))`: x may be empty, and blanks may be round its value
  pub named_value :
      map (λ t. strays (start_with t) named_sum) ([] ∷ codes " " ∷ codes " 5 " ∷ codes "\t-0x1F\n" ∷ codes "1 2" ∷ codes "- 1" ∷ codes "a" ∷ [])
      ≡ false ∷ false ∷ false ∷ false ∷ true ∷ true ∷ true ∷ []
  -- `$((1 / 0))`: a division that fails ends the process
  pub division : is_ended bare_start (computed (Chain one (more_operands binary.Divide one no_operands))) ≡ false
  pub division_fails : (state_by (λ n. record quiet_given { fails = n == 2 }) bare_start (computed (Chain one (more_operands binary.Divide one no_operands)))).ended ≡ true

pub record NamesAsExpected : Type 0 where
  -- `*`, in a directory with names and without; `"*"`, `[`, `[a]`, `\*`, `a?`
  pub star : names_of_word bare_start (plain (codes "*")) ≡ codes "n1" ∷ codes "n2" ∷ []
  pub star_without_names : fields_of_word bare_start [] (plain (codes "*")) ≡ codes "*" ∷ []
  pub star_quoted : names_of_word bare_start (only (Double (plain (codes "*")))) ≡ codes "*" ∷ []
  pub star_escaped : names_of_word bare_start (only (Escaped (codes "*"))) ≡ codes "*" ∷ []
  pub bracket : names_of_word bare_start (plain (codes "[")) ≡ codes "[" ∷ []
  pub brackets : names_of_word bare_start (plain (codes "[a]")) ≡ codes "n1" ∷ codes "n2" ∷ []
  pub question_mark : names_of_word bare_start (plain (codes "a?")) ≡ codes "n1" ∷ codes "n2" ∷ []
  -- `$x` and `"$x"` with `n*`, `$x` with `a *`
  pub value : names_of_word (start_with (codes "n*")) bare_x ≡ codes "n1" ∷ codes "n2" ∷ []
  pub value_quoted : names_of_word (start_with (codes "n*")) quoted_x ≡ codes "n*" ∷ []
  pub value_splits_first : names_of_word (start_with (codes "a *")) bare_x ≡ codes "a" ∷ codes "n1" ∷ codes "n2" ∷ []

pub record NumbersAsExpected : Type 0 where
  pub numerals : map digits (0 ∷ 7 ∷ 10 ∷ 65535 ∷ []) ≡ codes "0" ∷ codes "7" ∷ codes "10" ∷ codes "65535" ∷ []
  pub integers : map integer_text (pos 12 ∷ negsuc 0 ∷ negsuc 99 ∷ []) ≡ codes "12" ∷ codes "-1" ∷ codes "-100" ∷ []
  pub constants : map is_integer (codes "0" ∷ codes "010" ∷ codes "0x1F" ∷ codes "0Xa" ∷ codes "-5" ∷ codes "+7" ∷ []) ≡ true ∷ true ∷ true ∷ true ∷ true ∷ true ∷ []
  pub others : map is_integer ([] ∷ codes "08" ∷ codes "1a" ∷ codes "0x" ∷ codes "-" ∷ codes "a" ∷ codes "1 " ∷ []) ≡ false ∷ false ∷ false ∷ false ∷ false ∷ false ∷ false ∷ []

pub record FieldsAsExpected : Type 0 where
  pub splitting : SplittingAsExpected
  pub parameters : ParametersAsExpected
  pub uses : UsesAsExpected
  pub computed : ComputedAsExpected
  pub names : NamesAsExpected
  pub numbers : NumbersAsExpected
