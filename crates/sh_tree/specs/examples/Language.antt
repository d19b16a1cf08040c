-- Texts and their trees, and texts that nothing reads, against which the definitions are held.
-- POSIX.1-2024, XCU 2.2 (quoting), 2.6 (word expansions), 2.7 (redirection), 2.9 (commands), 2.10
-- (shell grammar).
use Rattle.std.specs.Prelude.{ℕ, true, false, List, [], ◌∷◌, ◌+◌, codes, Some, None}
use Rattle.sh_tree.specs.declared.tree.Action.TheVariants as action
use Rattle.sh_tree.specs.declared.tree.AndOr.{AndOr}
use Rattle.sh_tree.specs.declared.tree.Binary.TheVariants as binary
use Rattle.sh_tree.specs.declared.tree.Branch.{Branch}
use Rattle.sh_tree.specs.declared.tree.Clause.{Clause}
use Rattle.sh_tree.specs.declared.tree.ClauseEnd.TheVariants.{Break, FallThrough}
use Rattle.sh_tree.specs.declared.tree.Command.{Command}
use Rattle.sh_tree.specs.declared.tree.CommandStyle.TheVariants.{Paren, Backquote}
use Rattle.sh_tree.specs.declared.tree.Direction.TheVariants as direction
use Rattle.sh_tree.specs.declared.tree.Element.{Element}
use Rattle.sh_tree.specs.declared.tree.Element.TheVariants as element
use Rattle.sh_tree.specs.declared.tree.Expr.{Expr}
use Rattle.sh_tree.specs.declared.tree.Expr.TheVariants as expr
use Rattle.sh_tree.specs.declared.tree.Kind.TheVariants as kind
use Rattle.sh_tree.specs.declared.tree.Link.TheVariants as link
use Rattle.sh_tree.specs.declared.tree.LoopKind.TheVariants as loop
use Rattle.sh_tree.specs.declared.tree.ParameterOperator.TheVariants as operator
use Rattle.sh_tree.specs.declared.tree.Part.{Part}
use Rattle.sh_tree.specs.declared.tree.Part.TheVariants as part
use Rattle.sh_tree.specs.declared.tree.Removal.TheVariants as removal
use Rattle.sh_tree.specs.declared.tree.Script.{Script}
use Rattle.sh_tree.specs.declared.tree.SingleStyle.TheVariants as single
use Rattle.sh_tree.specs.declared.tree.Special.TheVariants as special
use Rattle.sh_tree.specs.declared.tree.Subject.TheVariants.{Name, Positional, Special}
use Rattle.sh_tree.specs.declared.tree.Target.TheVariants.{File, Here}
use Rattle.sh_tree.specs.declared.tree.Unary.TheVariants as unary
use Rattle.sh_tree.specs.declared.tree.Word.{Word}
use Rattle.sh_tree.specs.standard.language.Trees.{span, word, param, redirect, here_doc, command, pipe, and_or, item, item_of, script, branch, clause}
use Rattle.sh_tree.specs.standard.language.Reading.{Reads}

-- Trees

abbrev pub plain : ℕ → ℕ → Part
plain i j = part.Plain (span i j)

-- the name after the `$` at i
abbrev pub value : ℕ → ℕ → Part
value i j = param i j (Name (span (i + 1) j)) operator.Value

-- a word of plain bytes
abbrev pub bare : ℕ → ℕ → Word
bare i j = word i j (plain i j ∷ [])

-- a simple command
abbrev pub simple : ℕ → ℕ → List Element → Command
simple number at elements = command number at (kind.Simple elements) []

-- a simple command of one word of plain bytes
abbrev pub utility : ℕ → ℕ → ℕ → Command
utility number i j = simple number i (element.Word (bare i j) ∷ [])

abbrev pub lone : Command → Script
lone c = script (item_of c ∷ [])

-- Texts

-- double quotes, single quotes and an escape
abbrev pub quoted_text : List ℕ
quoted_text = codes "echo \"$x\" 'a'\\b"

abbrev pub quoted_words : List Element
quoted_words =
    element.Word (bare 0 4) ∷ element.Word (word 5 9 (part.Double (span 5 9) (value 6 8 ∷ []) ∷ []))
    ∷ element.Word (word 10 15 (part.Single single.Plain (span 10 13) ∷ part.Escaped (span 13 15) ∷ [])) ∷ []

abbrev pub quoted_script : Script
quoted_script = lone (simple 1 0 quoted_words)

-- `$'` with each escape
abbrev pub dollar_text : List ℕ
dollar_text = codes "x=$'\\a\\b\\e\\f\\n\\r\\t\\v\\\"\\'\\\\c'"

abbrev pub dollar_value : Word
dollar_value = word 2 28 (part.Single single.Dollar (span 2 28) ∷ [])

abbrev pub dollar_script : Script
dollar_script = lone (simple 1 0 (element.Assignment (span 0 1) dollar_value ∷ []))

-- the value of a variable, in double quotes
abbrev pub double_text : List ℕ
double_text = codes "echo \"$x\""

abbrev pub double_parts : List Part
double_parts = part.Double (span 5 9) (value 6 8 ∷ []) ∷ []

abbrev pub double_words : List Element
double_words = element.Word (bare 0 4) ∷ element.Word (word 5 9 double_parts) ∷ []

abbrev pub double_script : Script
double_script = lone (simple 1 0 double_words)

-- the same without quotes
abbrev pub bare_text : List ℕ
bare_text = codes "echo $x"

abbrev pub bare_words : List Element
bare_words = element.Word (bare 0 4) ∷ element.Word (word 5 7 (value 5 7 ∷ [])) ∷ []

abbrev pub bare_script : Script
bare_script = lone (simple 1 0 bare_words)

-- the variable gets a value first
abbrev pub assigned_text : List ℕ
assigned_text = codes "x=1\necho \"$x\""

abbrev pub assigned_parts : List Part
assigned_parts = part.Double (span 9 13) (value 10 12 ∷ []) ∷ []

abbrev pub assigned_words : List Element
assigned_words = element.Word (bare 4 8) ∷ element.Word (word 9 13 assigned_parts) ∷ []

abbrev pub assigned_script : Script
assigned_script = script (item_of (simple 1 0 (element.Assignment (span 0 1) (bare 2 3) ∷ [])) ∷ item_of (simple 2 4 assigned_words) ∷ [])

-- the utility's environment gets it
abbrev pub passed_text : List ℕ
passed_text = codes "x=1 echo \"$x\""

abbrev pub passed_script : Script
passed_script = lone (simple 1 0 (element.Assignment (span 0 1) (bare 2 3) ∷ assigned_words))

-- tilde-prefixes in a value, and a command after it
abbrev pub home_text : List ℕ
home_text = codes "a=~/b:~ c"

abbrev pub home_value : Word
home_value = word 2 7 (part.Tilde (span 2 3) ∷ plain 3 6 ∷ part.Tilde (span 6 7) ∷ [])

abbrev pub home_script : Script
home_script = lone (simple 1 0 (element.Assignment (span 0 1) home_value ∷ element.Word (bare 8 9) ∷ []))

-- braces in a value before a redirection are no IO location
abbrev pub braces_text : List ℕ
braces_text = codes "a={b}>f"

abbrev pub braces_elements : List Element
braces_elements = element.Assignment (span 0 1) (bare 2 5) ∷ element.Redirection (redirect 5 None (File direction.Write (bare 6 7))) ∷ []

abbrev pub braces_script : Script
braces_script = lone (simple 1 0 braces_elements)

-- braced expansions; a pattern is read as outside quotes
abbrev pub braced_text : List ℕ
braced_text = codes "echo ${x:-\"y\"} ${#x} \"${x%?}\""

abbrev pub default_part : Part
default_part = param 5 14 (Name (span 7 8)) (operator.Use action.Default true (word 10 13 (part.Double (span 10 13) (plain 11 12 ∷ []) ∷ [])))

abbrev pub length_part : Part
length_part = param 15 20 (Name (span 18 19)) operator.Length

abbrev pub removal_part : Part
removal_part = param 22 28 (Name (span 24 25)) (operator.Remove removal.ShortSuffix (bare 26 27))

abbrev pub braced_words : List Element
braced_words =
    element.Word (bare 0 4) ∷ element.Word (word 5 14 (default_part ∷ [])) ∷ element.Word (word 15 20 (length_part ∷ []))
    ∷ element.Word (word 21 29 (part.Double (span 21 29) (removal_part ∷ []) ∷ [])) ∷ []

abbrev pub braced_script : Script
braced_script = lone (simple 1 0 braced_words)

-- positional parameters, a line continuation in quotes and a special parameter
abbrev pub parameters_text : List ℕ
parameters_text = codes "echo \"$1${10}\\\n$?\""

abbrev pub parameters_parts : List Part
parameters_parts =
    param 6 8 (Positional 1 (span 7 8)) operator.Value ∷ param 8 13 (Positional 10 (span 10 12)) operator.Value ∷ part.Joined (span 13 15)
    ∷ param 15 17 (Special special.QuestionMark (span 16 17)) operator.Value ∷ []

abbrev pub parameters_words : List Element
parameters_words = element.Word (bare 0 4) ∷ element.Word (word 5 18 (part.Double (span 5 18) parameters_parts ∷ [])) ∷ []

abbrev pub parameters_script : Script
parameters_script = lone (simple 1 0 parameters_words)

-- levels of arithmetic, and an assignment
abbrev pub arithmetic_text : List ℕ
arithmetic_text = codes "echo $((a=1+2*3))"

abbrev pub product : Expr
product = expr.Chain (expr.Constant (span 12 13)) ((binary.Multiply, expr.Constant (span 14 15)) ∷ [])

abbrev pub sum : Expr
sum = expr.Chain (expr.Constant (span 10 11)) ((binary.Add, product) ∷ [])

abbrev pub arithmetic_part : Part
arithmetic_part = part.Arith (span 5 17) (expr.Assign (span 8 9) None sum)

abbrev pub arithmetic_script : Script
arithmetic_script = lone (simple 1 0 (element.Word (bare 0 4) ∷ element.Word (word 5 17 (arithmetic_part ∷ [])) ∷ []))

-- a choice between a parenthesis and an expansion
abbrev pub choice_text : List ℕ
choice_text = codes "echo $((-x?(y):$z))"

abbrev pub choice_part : Part
choice_part =
    part.Arith (span 5 19) (expr.Choice (expr.Unary unary.Minus (expr.Variable (span 9 10)))
    (expr.Parenthesis (expr.Variable (span 12 13))) (expr.Expansion (value 15 17)))

abbrev pub choice_script : Script
choice_script = lone (simple 1 0 (element.Word (bare 0 4) ∷ element.Word (word 5 19 (choice_part ∷ [])) ∷ []))

-- a substitution: its command is the second one
abbrev pub substituted_text : List ℕ
substituted_text = codes "echo \"$(echo a)\""

abbrev pub inner_script : Script
inner_script = lone (simple 2 8 (element.Word (bare 8 12) ∷ element.Word (bare 13 14) ∷ []))

abbrev pub substituted_part : Part
substituted_part = part.Double (span 5 16) (part.Command Paren (span 6 15) inner_script ∷ [])

abbrev pub substituted_script : Script
substituted_script = lone (simple 1 0 (element.Word (bare 0 4) ∷ element.Word (word 5 16 (substituted_part ∷ [])) ∷ []))

-- the same between backquotes
abbrev pub ticked_text : List ℕ
ticked_text = codes "echo \"`echo a`\""

abbrev pub ticked_inner : Script
ticked_inner = lone (simple 2 7 (element.Word (bare 7 11) ∷ element.Word (bare 12 13) ∷ []))

abbrev pub ticked_part : Part
ticked_part = part.Double (span 5 15) (part.Command Backquote (span 6 14) ticked_inner ∷ [])

abbrev pub ticked_script : Script
ticked_script = lone (simple 1 0 (element.Word (bare 0 4) ∷ element.Word (word 5 15 (ticked_part ∷ [])) ∷ []))

-- a substitution ends after its commands: the `)` of a pattern does not end it
abbrev pub substituted_case_text : List ℕ
substituted_case_text = codes "x=$(case a in a) echo b;; esac)"

abbrev pub case_echo : List Element
case_echo = element.Word (bare 17 21) ∷ element.Word (bare 22 23) ∷ []

abbrev pub inner_clauses : List Clause
inner_clauses = clause (bare 14 15 ∷ []) (lone (simple 3 17 case_echo)) Break ∷ []

abbrev pub inner_case : Script
inner_case = lone (command 2 4 (kind.Branches (bare 9 10) inner_clauses) [])

abbrev pub substituted_case_value : Word
substituted_case_value = word 2 31 (part.Command Paren (span 2 31) inner_case ∷ [])

abbrev pub substituted_case_script : Script
substituted_case_script = lone (simple 1 0 (element.Assignment (span 0 1) substituted_case_value ∷ []))

-- a here-document, whose body is at its operator
abbrev pub document_text : List ℕ
document_text = codes "cat <<E; b\nx$y\nE\n"

abbrev pub document_body : Word
document_body = word 11 15 (plain 11 12 ∷ value 12 14 ∷ plain 14 15 ∷ [])

abbrev pub document_words : List Element
document_words = element.Word (bare 0 3) ∷ element.Redirection (redirect 4 None (Here (here_doc false (bare 6 7) document_body (span 15 16)))) ∷ []

abbrev pub document_script : Script
document_script = script (item_of (simple 1 0 document_words) ∷ item_of (utility 2 9 10) ∷ [])

-- the body and the end line begin with tabs
abbrev pub stripped_text : List ℕ
stripped_text = codes "<<-E\n\ta\n\tE\n"

abbrev pub stripped_body : Word
stripped_body = word 5 8 (plain 6 8 ∷ [])

abbrev pub stripped_script : Script
stripped_script = lone (simple 1 0 (element.Redirection (redirect 0 None (Here (here_doc true (bare 3 4) stripped_body (span 8 10)))) ∷ []))

abbrev pub branch_text : List ℕ
branch_text = codes "if a; then b; else c; fi"

abbrev pub branch_script : Script
branch_script = lone (command 1 0 (kind.Cond (branch (lone (utility 2 3 4)) (lone (utility 3 11 12)) ∷ []) (Some (lone (utility 4 19 20)))) [])

-- a second condition, and nothing otherwise
abbrev pub elif_text : List ℕ
elif_text = codes "if a; then b; elif c; then d; fi"

abbrev pub elif_branches : List Branch
elif_branches = branch (lone (utility 2 3 4)) (lone (utility 3 11 12)) ∷ branch (lone (utility 4 19 20)) (lone (utility 5 27 28)) ∷ []

abbrev pub elif_script : Script
elif_script = lone (command 1 0 (kind.Cond elif_branches None) [])

-- a loop whose condition is a subshell or a utility
abbrev pub until_text : List ℕ
until_text = codes "until (a) || b; do c; done"

abbrev pub until_subshell : Command
until_subshell = command 2 6 (kind.Subshell (lone (utility 3 7 8))) []

abbrev pub until_condition : Script
until_condition = script (item (and_or (pipe false (until_subshell ∷ [])) ((link.OrElse, pipe false (utility 4 13 14 ∷ [])) ∷ [])) false ∷ [])

abbrev pub until_script : Script
until_script = lone (command 1 0 (kind.Loop loop.Until until_condition (lone (utility 5 19 20))) [])

-- all positional parameters; the command's name has a login name
abbrev pub every_text : List ℕ
every_text = codes "for x do ~a; done"

abbrev pub every_command : Command
every_command = simple 2 9 (element.Word (word 9 11 (part.Tilde (span 9 11) ∷ [])) ∷ [])

abbrev pub every_script : Script
every_script = lone (command 1 0 (kind.For (span 4 5) None (lone every_command)) [])

abbrev pub loop_text : List ℕ
loop_text = codes "for x in a; do b; done"

abbrev pub loop_script : Script
loop_script = lone (command 1 0 (kind.For (span 4 5) (Some (bare 9 10 ∷ [])) (lone (utility 2 15 16))) [])

-- the last clause has no list and no mark at its end
abbrev pub case_text : List ℕ
case_text = codes "case a in (b|c) d;; *) esac"

abbrev pub case_clauses : List Clause
case_clauses = clause (bare 11 12 ∷ bare 13 14 ∷ []) (lone (utility 2 16 17)) Break ∷ clause (bare 20 21 ∷ []) (script []) Break ∷ []

abbrev pub case_script : Script
case_script = lone (command 1 0 (kind.Branches (bare 5 6) case_clauses) [])

-- a clause that falls through to one with an empty list
abbrev pub through_text : List ℕ
through_text = codes "case a in b) c;& d) ;; esac"

abbrev pub through_clauses : List Clause
through_clauses = clause (bare 10 11 ∷ []) (lone (utility 2 13 14)) FallThrough ∷ clause (bare 17 18 ∷ []) (script []) Break ∷ []

abbrev pub through_script : Script
through_script = lone (command 1 0 (kind.Branches (bare 5 6) through_clauses) [])

-- a definition, whose body has the redirection; a pipeline after `!`; an asynchronous list
abbrev pub defined_text : List ℕ
defined_text = codes "f() { a; } >b && ! c | d &"

abbrev pub defined_command : Command
defined_command = command 2 4 (kind.Group (lone (utility 3 6 7))) (redirect 11 None (File direction.Write (bare 12 13)) ∷ [])

abbrev pub defined_list : AndOr
defined_list =
    and_or (pipe false (command 1 0 (kind.Define (span 0 1) defined_command) [] ∷ []))
    ((link.AndThen, pipe true (utility 4 19 20 ∷ utility 5 23 24 ∷ [])) ∷ [])

abbrev pub defined_script : Script
defined_script = script (item defined_list true ∷ [])

-- pipelines of two utilities, one that removes a variable and one that has its value, in both
-- orders
abbrev pub pipe_script : Command → Command → Script
pipe_script c d = script (item (and_or (pipe false (c ∷ d ∷ [])) []) false ∷ [])

abbrev pub unset_first_text : List ℕ
unset_first_text = codes "unset x | echo \"$x\""

abbrev pub unset_first_words : List Element
unset_first_words = element.Word (bare 0 5) ∷ element.Word (bare 6 7) ∷ []

abbrev pub unset_first_value : List Element
unset_first_value = element.Word (bare 10 14) ∷ element.Word (word 15 19 (part.Double (span 15 19) (value 16 18 ∷ []) ∷ [])) ∷ []

abbrev pub unset_first_script : Script
unset_first_script = pipe_script (simple 1 0 unset_first_words) (simple 2 10 unset_first_value)

abbrev pub unset_last_text : List ℕ
unset_last_text = codes "echo \"$x\" | unset x"

abbrev pub unset_last_words : List Element
unset_last_words = element.Word (bare 12 17) ∷ element.Word (bare 18 19) ∷ []

abbrev pub unset_last_script : Script
unset_last_script = pipe_script (simple 1 0 double_words) (simple 2 12 unset_last_words)

-- a closing word directly after a compound command
abbrev pub closed_text : List ℕ
closed_text = codes "{ { a; } }"

abbrev pub closed_script : Script
closed_script = lone (command 1 0 (kind.Group (lone (command 2 2 (kind.Group (lone (utility 3 4 5))) []))) [])

-- a separator after a compound command
abbrev pub separated_text : List ℕ
separated_text = codes "{ a; };"

abbrev pub separated_script : Script
separated_script = lone (command 1 0 (kind.Group (lone (utility 2 2 3))) [])

abbrev pub comment_text : List ℕ
comment_text = codes "# a\n"

-- Texts that no script reads

-- nothing reads the text
abbrev pub IsUnread : List ℕ → Type 0
IsUnread b = (t : Script) → Reads b t → ⊥

-- a double quote that is not closed
abbrev pub open_quote_text : List ℕ
open_quote_text = codes "\"a"

-- a braced expansion that is not closed
abbrev pub open_braced_text : List ℕ
open_braced_text = codes "${x-"

-- a line continuation in a name, in double quotes
abbrev pub split_name_text : List ℕ
split_name_text = codes "\"$a\\\nb\""

-- an arithmetic expansion without an expression
abbrev pub no_expression_text : List ℕ
no_expression_text = codes "$(())"

-- a line continuation in an operator, after an IO number
abbrev pub split_operator_text : List ℕ
split_operator_text = codes "2<<\\\n-E"

-- an operator without a command before it
abbrev pub lone_bar_text : List ℕ
lone_bar_text = codes "| a"

-- the end of a clause outside `case`
abbrev pub clause_end_text : List ℕ
clause_end_text = codes "a;;"

-- a here-document that is not ended
abbrev pub open_document_text : List ℕ
open_document_text = codes "<<E\n"

-- a line continuation in a body that is quoted, inside one that is not: its lines are joined, or
-- are not
abbrev pub split_document_text : List ℕ
split_document_text = codes "<<E\n$(<<'F'\n\\\nF\n)\nE\n"

-- a line that begins with a tab in a body, inside one that is stripped of tabs: they are stripped
-- from its lines too, or are not
abbrev pub tabbed_document_text : List ℕ
tabbed_document_text = codes "<<-E\n$(<<F\n\tx\nF\n)\nE\n"

-- no closing word after a compound command with a redirection
abbrev pub unclosed_text : List ℕ
unclosed_text = codes "{ { a; } >f }"

-- each text is its tree, or none
pub record LanguageRead : Type 0 where
  pub quoted : Reads quoted_text quoted_script
  pub dollar : Reads dollar_text dollar_script
  pub double : Reads double_text double_script
  pub bare_value : Reads bare_text bare_script
  pub assigned : Reads assigned_text assigned_script
  pub passed : Reads passed_text passed_script
  pub home : Reads home_text home_script
  pub braces : Reads braces_text braces_script
  pub braced : Reads braced_text braced_script
  pub parameters : Reads parameters_text parameters_script
  pub arithmetic : Reads arithmetic_text arithmetic_script
  pub choice : Reads choice_text choice_script
  pub substituted : Reads substituted_text substituted_script
  pub ticked : Reads ticked_text ticked_script
  pub substituted_case : Reads substituted_case_text substituted_case_script
  pub document : Reads document_text document_script
  pub stripped : Reads stripped_text stripped_script
  pub branches : Reads branch_text branch_script
  pub elif : Reads elif_text elif_script
  pub until : Reads until_text until_script
  pub every : Reads every_text every_script
  pub loop : Reads loop_text loop_script
  pub cases : Reads case_text case_script
  pub through : Reads through_text through_script
  pub defined : Reads defined_text defined_script
  pub unset_first : Reads unset_first_text unset_first_script
  pub unset_last : Reads unset_last_text unset_last_script
  pub closed : Reads closed_text closed_script
  pub separated : Reads separated_text separated_script
  pub empty : Reads [] (script [])
  pub comment : Reads comment_text (script [])
  pub open_quote : IsUnread open_quote_text
  pub open_braced : IsUnread open_braced_text
  pub split_name : IsUnread split_name_text
  pub no_expression : IsUnread no_expression_text
  pub split_operator : IsUnread split_operator_text
  pub lone_bar : IsUnread lone_bar_text
  pub clause_end : IsUnread clause_end_text
  pub open_document : IsUnread open_document_text
  pub split_document : IsUnread split_document_text
  pub tabbed_document : IsUnread tabbed_document_text
  pub unclosed : IsUnread unclosed_text
