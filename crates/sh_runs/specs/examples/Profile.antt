-- Commands that are refused, and some that are not, against which the profile is held.
-- POSIX.1-2024, XCU 2.9.1 (simple commands), 2.9.5 (function definitions), 2.15 (special built-in
-- utilities), 3 (command).
use Rattle.std.specs.Prelude.{◌≡◌, ℕ, ◌-◌, ◌==◌, if◌then◌else◌, true, false, List, [], ◌∷◌, ◌++◌, replicate, map, length, take, drop, codes, Option, Some, None, option_map}
use Rattle.std.specs.Str.{bytes_eq}
use Rattle.sh_tree.specs.declared.known.Declaration.TheVariants as declaration
use Rattle.sh_tree.specs.declared.known.KnownName.TheVariants as known
use Rattle.sh_tree.specs.declared.refusal.Rule.{Rule}
use Rattle.sh_tree.specs.declared.refusal.Rule.TheVariants as rule
use Rattle.sh_tree.specs.declared.tree.Action.TheVariants as action
use Rattle.sh_tree.specs.declared.tree.Binary.TheVariants as binary
use Rattle.sh_tree.specs.declared.tree.ClauseEnd.TheVariants as clause
use Rattle.sh_tree.specs.declared.tree.Link.TheVariants as link
use Rattle.sh_tree.specs.declared.tree.LoopKind.{LoopKind}
use Rattle.sh_tree.specs.declared.tree.LoopKind.TheVariants as loop
use Rattle.sh_tree.specs.declared.tree.Removal.TheVariants as removal
use Rattle.sh_tree.specs.declared.tree.SingleStyle.TheVariants as style
use Rattle.sh_tree.specs.declared.tree.Unary.TheVariants as unary
use Rattle.sh_tree.specs.standard.language.Bytes.{is_first}
use Rattle.sh_tree.specs.examples.Program.{only, simple, lone}
use Rattle.sh_tree.specs.standard.program.Syntax as p
use Rattle.sh_tree.specs.standard.program.Syntax.{Text}
use Rattle.sh_runs.specs.declared.kind.Kind.TheVariants as kind
use Rattle.sh_runs.specs.examples.Runs.{elements_of, compound, list, both, quoted_x}
use Rattle.sh_runs.specs.standard.Kinds.{kind_of}
use Rattle.sh_runs.specs.Profile.{Refused, first_refused}
use Rattle.sh_runs.specs.examples.Steps.{piece}

-- Commands as lines: words with one blank between two, each `"$x"`, a text in single quotes, or
-- plain bytes

unfoldable pub words_from : Text → Text → List Text
words_from t [] = t ∷ []
words_from t (c ∷ cs) = if c == 32 then t ∷ words_from [] cs else words_from (t ++ c ∷ []) cs

abbrev pub words : Text → List Text
words line = words_from [] line

unfoldable pub word : Text → p.Word
word t =
    if bytes_eq t (codes "\"$x\"") then quoted_x
    else only (if is_first (λ c. c == 39) t then p.Single style.Plain (take (length t - 2) (drop 1 t)) else p.Plain t)

-- a simple command, of this number
abbrev pub written : ℕ → Text → p.Command
written n line = simple n 0 (elements_of (map word (words line)))

abbrev pub background : p.Command → p.Items
background c = p.more_items (p.and_or (piece c) p.no_links) true p.no_items

abbrev pub linked : p.Command → p.Command → p.Items
linked c d = p.more_items (p.and_or (piece c) (p.more_links link.AndThen (piece d) p.no_links)) false p.no_items

-- the rule that is reported of a program, and of a command
abbrev pub told_in : p.Items → Option Rule
told_in t = option_map (λ (r : Refused). r.rule) (first_refused t)

abbrev pub told : Text → Option Rule
told line = told_in (lone (written 1 line))

abbrev pub told_of : p.Kind → Option Rule
told_of kind = told_in (lone (compound kind))

-- Commands in commands

abbrev pub says : Text → p.Items
says line = lone (written 3 line)

abbrev pub colon : p.Items
colon = says (codes ":")

abbrev pub group : p.Items → p.Command
group t = compound (p.Group t)

abbrev pub function : p.Items → p.Kind
function t = p.Define (codes "f") (group t)

-- `while :; do list; done`, and `until`
abbrev pub turning : LoopKind → p.Items → p.Kind
turning kind body = p.Loop kind colon body

abbrev pub looping : p.Items → Option Rule
looping body = told_of (turning loop.While body)

-- `for x in word; do list; done`, and one clause of `case word in pattern) list`
abbrev pub over : p.Word → p.Items → p.Kind
over w body = p.For (codes "x") (p.listed (p.more_words w p.no_words)) body

abbrev pub choosing : p.Word → p.Word → p.Items → p.Kind
choosing w pattern body = p.Case w (p.more_clauses (p.more_words pattern p.no_words) body clause.Break p.no_clauses)

abbrev pub conditional : p.Items → p.Items → p.Items → p.Items → p.Items → p.Kind
conditional first then_first second then_second otherwise =
    p.Conditional (p.more_branches first then_first (p.more_branches second then_second p.no_branches)) (p.else_of otherwise)

-- Places at which a command may be: one with `eval` in it

abbrev pub evaluates : p.Items
evaluates = says (codes "eval")

abbrev pub refused_eval : Option Rule
refused_eval = Some (rule.Refused known.Eval)

-- `$(eval)`; `a`
abbrev pub running : p.Word
running = only (p.Substitution 0 evaluates)

abbrev pub a : p.Word
a = word (codes "a")

abbrev pub expansion : p.Operator → p.Word
expansion operator = only (p.Expansion 0 (p.Variable (codes "x")) operator)

-- `$(($(eval)))` and `$((1))`, as operands of arithmetic
abbrev pub computing : p.Expression
computing = p.Expanded (p.Substitution 0 evaluates)

abbrev pub one : p.Expression
one = p.Constant (codes "1")

abbrev pub arithmetic : p.Expression → p.Word
arithmetic e = only (p.Arithmetic 0 e)

-- after another part, in double quotes, in a braced word, in a pattern, and in each form of
-- arithmetic
abbrev pub words_running : List p.Word
words_running =
    running ∷ p.more_parts (p.Plain (codes "a")) running ∷ only (p.Double running) ∷ expansion (p.Use action.Default false running) ∷ expansion (p.Remove removal.LongPrefix running)
    ∷ map arithmetic
    (computing ∷ p.Parenthesis computing ∷ p.Signed unary.Minus computing ∷ p.Chain computing p.no_operands ∷ p.Chain one (p.more_operands binary.Add one (p.more_operands binary.Add computing p.no_operands))
    ∷ p.Choice computing one one ∷ p.Choice one computing one ∷ p.Choice one one computing ∷ p.Assigned 0 (codes "x") None computing ∷ [])

-- in an operand, a value, targets and here-documents of a simple command and of a compound one; in
-- the word and a pattern of `case`; in a word of `for`
abbrev pub opens : p.Redirect → p.Command
opens r = p.command 1 0 (p.Simple (p.redirection r p.no_elements)) p.no_redirects

abbrev pub opened : p.Redirect → p.Command
opened r = p.command 1 0 (p.Group colon) (p.more_redirects (p.File a) (p.more_redirects r p.no_redirects))

abbrev pub commands_running : List p.Command
commands_running =
    p.command 1 0 (p.Simple (p.operand a (p.operand running p.no_elements))) p.no_redirects ∷ p.command 1 0 (p.Simple (p.assignment (codes "x") running p.no_elements)) p.no_redirects
    ∷ opens (p.File running) ∷ opens (p.Here running) ∷ opened (p.File running) ∷ opened (p.Here running)
    ∷ map compound (choosing running a colon ∷ choosing a running colon ∷ over running colon ∷ [])

-- in each list of each compound command
abbrev pub kinds_running : List p.Kind
kinds_running =
    p.Group evaluates ∷ p.Subshell evaluates ∷ conditional evaluates colon colon colon colon ∷ conditional colon evaluates colon colon colon ∷ conditional colon colon evaluates colon colon
    ∷ conditional colon colon colon evaluates colon ∷ conditional colon colon colon colon evaluates ∷ turning loop.While evaluates ∷ p.Loop loop.Until evaluates colon ∷ over a evaluates
    ∷ choosing a a evaluates ∷ function evaluates ∷ []

-- in each place of a list
abbrev pub lists_running : List p.Items
lists_running =
    list (group colon ∷ group evaluates ∷ []) ∷ linked (group colon) (group evaluates) ∷ both (group evaluates) (group colon) ∷ both (group colon) (group evaluates)
    ∷ background (group evaluates) ∷ []

pub record NamesAsExpected : Type 0 where
  pub special :
      map kind_of (words (codes "break : continue . eval exec exit export readonly return set shift times trap unset"))
      ≡ map kind.Special
      (known.Break ∷ known.Colon ∷ known.Continue ∷ known.Dot ∷ known.Eval ∷ known.Exec ∷ known.Exit ∷ known.Export ∷ known.Readonly ∷ known.Return ∷ known.Set ∷ known.Shift ∷ known.Times ∷ known.Trap ∷ known.Unset ∷ [])
  pub analysed : map kind_of (words (codes "cd command false getopts read true")) ≡ kind.Cd ∷ kind.Command ∷ kind.False ∷ kind.Getopts ∷ kind.Read ∷ kind.True ∷ []
  pub refused :
      map kind_of (words (codes "alias unalias fc local typeset declare source let builtin nameref integer float mapfile readarray shopt [[ ]] function select time namespace"))
      ≡ map kind.Refused
      (known.Alias ∷ known.Unalias ∷ known.Fc ∷ known.Local ∷ known.Typeset ∷ known.Declare ∷ known.Source ∷ known.Let ∷ known.Builtin ∷ known.Nameref
      ∷ known.Integer ∷ known.Float ∷ known.Mapfile ∷ known.Readarray ∷ known.Shopt ∷ known.LeftBrackets ∷ known.RightBrackets ∷ known.Function ∷ known.Select ∷ known.Time ∷ known.Namespace ∷ [])
  pub utilities : map kind_of (words (codes "ls [ echo test wait hash evals Eval ..")) ≡ replicate 9 kind.Utility

pub record RulesAsExpected : Type 0 where
  -- a name that is no static text, a refused one, quoted too, and `+=`
  pub computed_name : map told (codes "\"$x\"" ∷ codes "[[" ∷ []) ≡ Some rule.ComputedName ∷ Some rule.ComputedName ∷ []
  pub refused_name : map told (codes "eval \"$x\"" ∷ codes "'local' a" ∷ codes ". a" ∷ []) ≡ refused_eval ∷ Some (rule.Refused known.Local) ∷ Some (rule.Refused known.Dot) ∷ []
  pub append : map told (codes "a+=b" ∷ codes "'a+=b'" ∷ codes "./a+=b" ∷ codes "a=+b" ∷ []) ≡ Some rule.Append ∷ Some rule.Append ∷ None ∷ None ∷ []
  -- words that other shells reserve, quoted
  pub reserved_elsewhere : map told (codes "'time' ls" ∷ codes "'[[' a" ∷ codes "'select'" ∷ codes "'function'" ∷ []) ≡ replicate 4 None
  pub utilities : map told (codes "ls \"$x\"" ∷ codes "[ \"$x\"" ∷ codes "''" ∷ codes "times" ∷ codes "read -t \"$x\"" ∷ codes "shift \"$x\"" ∷ codes "exec \"$x\"" ∷ []) ≡ replicate 7 None
  -- functions with such names
  pub functions :
      map (λ name. told_of (p.Define name (group colon))) (words (codes "eval export time read cd command f"))
      ≡ Some (rule.FunctionNamed known.Eval) ∷ Some (rule.FunctionNamed known.Export) ∷ Some (rule.FunctionNamed known.Time) ∷ replicate 4 None
  pub quoted_name : map told (codes "'export'" ∷ codes "'readonly' x" ∷ codes "export x" ∷ codes "readonly" ∷ []) ≡ Some (rule.Quoted declaration.Export) ∷ Some (rule.Quoted declaration.Readonly) ∷ None ∷ None ∷ []
  pub traps : map told (codes "trap 'a' EXIT" ∷ codes "trap \"$x\"" ∷ codes "trap -- a" ∷ codes "trap -- \"$x\"" ∷ codes "trap -p" ∷ []) ≡ replicate 5 (Some rule.TrapAction)
  pub trap_resets : map told (codes "trap" ∷ codes "trap '' INT" ∷ codes "trap - INT" ∷ codes "trap -- 2" ∷ codes "trap --" ∷ codes "trap 2 \"$x\"" ∷ []) ≡ replicate 6 None
  pub commands :
      map told
      (codes "command alias a=b" ∷ codes "command read x" ∷ codes "command cd" ∷ codes "command getopts a x" ∷ codes "command command ls" ∷ codes "command set a" ∷ codes "command 'time'"
      ∷ codes "command \"$x\"" ∷ codes "command -p \"$x\"" ∷ codes "command -x ls" ∷ codes "command -- eval" ∷ [])
      ≡ replicate 11 (Some rule.CommandUse)
  pub command_runs :
      map told (codes "command" ∷ codes "command -v \"$x\"" ∷ codes "command -pV eval" ∷ codes "command -p ls" ∷ codes "command -- true \"$x\"" ∷ codes "command false" ∷ []) ≡ replicate 6 None
  pub unsets : map told (codes "unset \"$x\"" ∷ codes "unset -v x \"$x\"" ∷ codes "unset -v x" ∷ codes "unset" ∷ []) ≡ Some rule.UnsetOperand ∷ Some rule.UnsetOperand ∷ None ∷ None ∷ []
  -- operands of `set` that are computed where an option may be, or that shells take differently
  pub sets :
      map told
      (codes "set \"$x\"" ∷ codes "set -" ∷ codes "set +" ∷ codes "set -e \"$x\"" ∷ codes "set -o \"$x\"" ∷ codes "set -o -e" ∷ codes "set -o --" ∷ codes "set -o '' a" ∷ codes "set -oe noglob a"
      ∷ codes "set -e -" ∷ [])
      ≡ replicate 10 (Some rule.SetOperand)
  pub set_words :
      map told
      (codes "set" ∷ codes "set -- \"$x\"" ∷ codes "set a \"$x\"" ∷ codes "set -e a \"$x\"" ∷ codes "set -eo pipefail" ∷ codes "set -o noglob a" ∷ codes "set -o" ∷ codes "set +e -- -" ∷ [])
      ≡ replicate 8 None
  -- outside loops, `break` and `continue` are refused for that if their operands are numbers from 1
  pub break_operands : map told (codes "break 0" ∷ codes "break \"$x\"" ∷ codes "break 1 a" ∷ codes "break -1" ∷ []) ≡ replicate 4 (Some rule.BreakOperand)
  pub break_outside : map told (codes "break" ∷ codes "break 2" ∷ codes "break 01" ∷ []) ≡ replicate 3 (Some rule.BreakOutside)
  pub continue_operands : map told (codes "continue 0" ∷ codes "continue \"$x\"" ∷ codes "continue 2" ∷ codes "continue" ∷ []) ≡ Some rule.ContinueOperand ∷ Some rule.ContinueOperand ∷ Some rule.ContinueOutside ∷ Some rule.ContinueOutside ∷ []

pub record PlacesAsExpected : Type 0 where
  -- a command is met in every place of a word, of a command and of a list
  pub in_words : map (λ w. told_in (lone (p.command 1 0 (p.Simple (p.operand a (p.operand w p.no_elements))) p.no_redirects))) words_running ≡ replicate 14 refused_eval
  pub in_commands : map (λ c. told_in (lone c)) commands_running ≡ replicate 9 refused_eval
  pub in_kinds : map told_of kinds_running ≡ replicate 12 refused_eval
  pub in_lists : map told_in lists_running ≡ replicate 5 refused_eval
  -- `break` in a loop of each kind, in its condition, and in other commands in it
  pub in_loop :
      map told_of
      (turning loop.While (says (codes "break 2")) ∷ turning loop.Until (says (codes "continue")) ∷ over a (says (codes "break")) ∷ p.Loop loop.While (says (codes "break")) colon
      ∷ turning loop.While (lone (compound (conditional colon (says (codes "break")) colon colon (says (codes "continue"))))) ∷ turning loop.While (lone (compound (choosing a a (says (codes "break"))))) ∷ [])
      ≡ replicate 6 None
  -- in what a loop starts: a subshell, an asynchronous list, a part of a pipeline, a substitution;
  -- in a function in it, and after it
  pub out_of_loop :
      map looping
      (lone (compound (p.Subshell (says (codes "break")))) ∷ background (written 3 (codes "break")) ∷ both (written 3 (codes "break")) (written 4 (codes ":"))
      ∷ lone (p.command 2 0 (p.Simple (p.assignment (codes "x") (only (p.Substitution 0 (says (codes "break")))) p.no_elements)) p.no_redirects) ∷ [])
      ≡ replicate 4 (Some rule.BreakOutside)
  -- past the loops of a part of a pipeline that is in a loop, and no further than these
  pub past_part :
      map (λ t. looping (both (written 3 (codes ":")) (compound (over a (says t))))) (codes "break 2" ∷ codes "continue 2" ∷ codes "break 02" ∷ codes "break" ∷ codes "continue 1" ∷ [])
      ≡ Some rule.BreakOutside ∷ Some rule.ContinueOutside ∷ Some rule.BreakOutside ∷ None ∷ None ∷ []
  pub in_part : looping (both (written 3 (codes ":")) (compound (over a (lone (compound (turning loop.While (says (codes "break 2")))))))) ≡ None
  pub past_part_in_part :
      looping (both (written 3 (codes ":")) (group (both (written 4 (codes ":")) (compound (over a (says (codes "break 2"))))))) ≡ Some rule.BreakOutside
  pub part_alone : told_in (both (written 3 (codes ":")) (compound (over a (says (codes "break 2"))))) ≡ None
  pub in_function_in_loop : looping (lone (compound (function (says (codes "break"))))) ≡ Some rule.BreakOutside
  pub behind_loop : told_in (list (compound (turning loop.While colon) ∷ written 5 (codes "break") ∷ [])) ≡ Some rule.BreakOutside
  -- `return` in a function, and in a loop, an inner group and a redirected command in it; not in
  -- what it starts
  pub in_function :
      map (λ t. told_of (function t)) (says (codes "return") ∷ lone (compound (over a (says (codes "return \"$x\"")))) ∷ lone (group (says (codes "return")))
      ∷ lone (p.command 2 0 (p.Group (says (codes "return"))) (p.more_redirects (p.File a) p.no_redirects)) ∷ []) ≡ replicate 4 None
  pub out_of_function :
      map (λ t. told_of (function t))
      (lone (compound (p.Subshell (says (codes "return")))) ∷ background (written 3 (codes "return")) ∷ both (written 3 (codes ":")) (written 4 (codes "return"))
      ∷ lone (p.command 2 0 (p.Simple (p.assignment (codes "x") (only (p.Substitution 0 (says (codes "return")))) p.no_elements)) p.no_redirects) ∷ [])
      ≡ replicate 4 (Some rule.ReturnOutside)
  pub outside : told_of (p.Group (says (codes "return"))) ≡ Some rule.ReturnOutside
  -- the least number is reported, wherever its command is, and its place
  pub least :
      first_refused (list (written 7 (codes "eval") ∷ p.command 3 9 (p.Simple (elements_of (quoted_x ∷ []))) p.no_redirects ∷ written 5 (codes "local") ∷ []))
      ≡ Some (record { number = 3; at = 9; rule = rule.ComputedName })
  pub none : first_refused (list (written 7 (codes "ls") ∷ group colon ∷ [])) ≡ None

pub record ProfileAsExpected : Type 0 where
  pub names : NamesAsExpected
  pub rules : RulesAsExpected
  pub places : PlacesAsExpected
