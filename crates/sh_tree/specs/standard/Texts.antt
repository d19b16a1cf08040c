-- What shset reports of each fault, form and rule.
-- The words of shset's refusals; the standard has none.
use Rattle.std.specs.Prelude.{ℕ, List, ◌++◌, codes}
use Rattle.sh_tree.specs.declared.known.Declaration.{Declaration}
use Rattle.sh_tree.specs.declared.known.Declaration.TheVariants as declaration
use Rattle.sh_tree.specs.declared.known.KnownName.{KnownName}
use Rattle.sh_tree.specs.declared.known.KnownName.TheVariants as known
use Rattle.sh_tree.specs.declared.refusal.Fault.{Fault}
use Rattle.sh_tree.specs.declared.refusal.Fault.TheVariants as fault
use Rattle.sh_tree.specs.declared.refusal.Form.{Form}
use Rattle.sh_tree.specs.declared.refusal.Form.TheVariants as form
use Rattle.sh_tree.specs.declared.refusal.Rule.{Rule}
use Rattle.sh_tree.specs.declared.refusal.Rule.TheVariants as rule

abbrev pub fault_text : Fault → List ℕ
fault_text fault.OpenSingle = codes "a single quote is not closed"
fault_text fault.OpenDouble = codes "a double quote is not closed"
fault_text fault.OpenBraced = codes "a braced expansion is not closed"
fault_text fault.OpenSubstitution = codes "a command substitution is not closed"
fault_text fault.OpenArith = codes "an arithmetic expansion is not closed"
fault_text fault.OpenHereDoc = codes "a here-document is not ended"
fault_text fault.BadArith = codes "bad arithmetic"
fault_text fault.UnexpectedToken = codes "unexpected token"
fault_text fault.UnexpectedEnd = codes "unexpected end"
fault_text fault.FinalBackslash = codes "a backslash ends the script"

-- what shset reports of a refused thing
abbrev pub outside : List ℕ → List ℕ
outside name = name ++ codes " is outside the profile"

abbrev pub form_name : Form → List ℕ
form_name form.Continuation = codes "a line continuation inside a token"
form_name form.DollarEscape = codes "this escape in $'"
form_name form.DollarDouble = codes "$\""
form_name form.DollarBracket = codes "$["
form_name form.Backquoted = codes "a backquoted substitution"
form_name form.BackslashInBackquotes = codes "a backslash in a backquoted substitution"
form_name form.BackquoteInside = codes "a backquote inside a backquoted substitution"
form_name form.Braced = codes "this braced form"
form_name form.QuotedInDefault = codes "a double quote in a quoted default"
form_name form.BackslashInDefault = codes "a backslash before } in a quoted default"
form_name form.AllParameters = codes "$@ where fields are not split"
form_name form.Arithmetic = codes "this arithmetic"
form_name form.DoubleParenthesis = codes "(("
form_name form.BangParenthesis = codes "!("
form_name form.LeftBrackets = codes "[["
form_name form.RightBrackets = codes "]]"
form_name form.Function = codes "function"
form_name form.Select = codes "select"
form_name form.Time = codes "time"
form_name form.Namespace = codes "namespace"
form_name form.IoLocation = codes "an IO location"
form_name form.HereWord = codes "this here-document word"
form_name form.HereAcross = codes "a here-document across a substitution"
form_name form.HereTab = codes "a tab after a continuation in a here-document"

abbrev pub form_text : Form → List ℕ
form_text f = outside (form_name f)

-- the special built-in utilities (XCU 2.15), and names that are refused as commands
abbrev pub known_text : KnownName → List ℕ
known_text known.Break = codes "break"
known_text known.Colon = codes ":"
known_text known.Continue = codes "continue"
known_text known.Dot = codes "."
known_text known.Eval = codes "eval"
known_text known.Exec = codes "exec"
known_text known.Exit = codes "exit"
known_text known.Export = codes "export"
known_text known.Readonly = codes "readonly"
known_text known.Return = codes "return"
known_text known.Set = codes "set"
known_text known.Shift = codes "shift"
known_text known.Times = codes "times"
known_text known.Trap = codes "trap"
known_text known.Unset = codes "unset"
known_text known.Alias = codes "alias"
known_text known.Unalias = codes "unalias"
known_text known.Fc = codes "fc"
known_text known.Local = codes "local"
known_text known.Typeset = codes "typeset"
known_text known.Declare = codes "declare"
known_text known.Source = codes "source"
known_text known.Let = codes "let"
known_text known.Builtin = codes "builtin"
known_text known.Nameref = codes "nameref"
known_text known.Integer = codes "integer"
known_text known.Float = codes "float"
known_text known.Mapfile = codes "mapfile"
known_text known.Readarray = codes "readarray"
known_text known.Shopt = codes "shopt"
known_text known.LeftBrackets = codes "[["
known_text known.RightBrackets = codes "]]"
known_text known.Function = codes "function"
known_text known.Select = codes "select"
known_text known.Time = codes "time"
known_text known.Namespace = codes "namespace"

-- the declaration utilities (XCU 2.9.1.1) that are refused with quotes
abbrev pub declaration_text : Declaration → List ℕ
declaration_text declaration.Export = codes "export"
declaration_text declaration.Readonly = codes "readonly"

-- the subject of the report of a rule that is broken
unfoldable pub rule_name : Rule → List ℕ
rule_name rule.ComputedName = codes "a computed command name"
rule_name (rule.Refused name) = known_text name
rule_name rule.Append = codes "+="
rule_name (rule.FunctionNamed name) = codes "a function named " ++ known_text name
rule_name (rule.Quoted d) = codes "a quoted " ++ declaration_text d
rule_name rule.TrapAction = codes "trap with an action"
rule_name rule.CommandUse = codes "this use of command"
rule_name rule.UnsetOperand = codes "this operand of unset"
rule_name rule.SetOperand = codes "this operand of set"
rule_name rule.BreakOperand = codes "this operand of break"
rule_name rule.ContinueOperand = codes "this operand of continue"
rule_name rule.BreakOutside = codes "break outside a loop"
rule_name rule.ContinueOutside = codes "continue outside a loop"
rule_name rule.ReturnOutside = codes "return outside a function"

abbrev pub rule_text : Rule → List ℕ
rule_text r = outside (rule_name r)
