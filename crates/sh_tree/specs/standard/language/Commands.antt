-- The tokens of commands, each the longest, and what is between them.
-- POSIX.1-2024, XCU 2.2.1 (line continuation), 2.3 (token recognition), 2.4 (reserved words), 2.7
-- (redirection), 2.9 (shell commands), 2.10 (shell grammar).
use Rattle.std.specs.Prelude.{ℕ, ◌+◌, ◌-◌, Bool, true, false, not, ◌&&◌, ◌||◌, if◌then◌else◌, ◌==◌, List, [], ◌∷◌, ◌++◌, length, drop, take, codes, nat_lt, nat_le, Option, Some, None}
use Rattle.std.specs.Str.{bytes_eq}
use Rattle.sh_tree.specs.standard.language.Characters as byte
use Rattle.sh_tree.specs.declared.tree.Span.{Span}
use Rattle.sh_tree.specs.declared.tree.Direction.{Direction}
use Rattle.sh_tree.specs.declared.tree.Direction.TheVariants as direction
use Rattle.sh_tree.specs.declared.tree.ClauseEnd.{ClauseEnd}
use Rattle.sh_tree.specs.declared.tree.ClauseEnd.TheVariants as clause
use Rattle.sh_tree.specs.declared.tree.Link.{Link}
use Rattle.sh_tree.specs.declared.tree.Link.TheVariants as link
use Rattle.sh_tree.specs.declared.refusal.Form.{Form}
use Rattle.sh_tree.specs.declared.refusal.Form.TheVariants as form
use Rattle.sh_tree.specs.declared.token.command.Operator.{Operator}
use Rattle.sh_tree.specs.declared.token.command.Operator.TheVariants as op
use Rattle.sh_tree.specs.declared.token.command.Redirection.{Redirection}
use Rattle.sh_tree.specs.declared.token.command.Reserved.{Reserved}
use Rattle.sh_tree.specs.declared.token.command.Reserved.TheVariants as word
use Rattle.sh_tree.specs.declared.token.command.Stage.{Stage}
use Rattle.sh_tree.specs.declared.token.command.Stage.TheVariants.{First, Prefixed, Named}
use Rattle.sh_tree.specs.declared.token.command.Lead.{Lead}
use Rattle.sh_tree.specs.declared.token.command.Lead.TheVariants as lead
use Rattle.sh_tree.specs.standard.language.Bytes.{is_in, is_blank, is_newline, is_backslash, is_digit, is_name, ends_token, run, is_first, is_last_backquote, name_length, longest, behind_joined, is_joined, joined_at}
use Rattle.sh_tree.specs.standard.language.Words.{ends_joined}
use Rattle.sh_tree.specs.standard.language.HereDocuments.{line_length}
use Rattle.sh_tree.specs.standard.language.Trees.{span}

-- Between tokens (XCU 2.3)

-- how long the comment at the front is: up to the newline
abbrev pub comment_length : List ℕ → ℕ
comment_length cs = run (λ c. not (is_newline c)) cs

-- A comment in a here-document's body ends where its line ends. Lines are joined before the body's
-- commands are read (XCU 2.7.4), so the joined line has to end there too.
abbrev pub is_comment : Bool → List ℕ → Bool
is_comment joins cs = is_first (λ c. c == byte.number_sign) cs && (not joins || line_length true cs == comment_length cs)

-- how many bytes of blanks and line continuations are at the front (XCU 2.2.1)
unfoldable pub gap_length : List ℕ → ℕ
gap_length [] = 0
gap_length (c ∷ []) = if is_blank c then 1 else 0
gap_length (c ∷ d ∷ cs) =
    if is_blank c then 1 + gap_length (d ∷ cs)
    else (if is_backslash c && is_newline d then 2 + gap_length cs else 0)

-- how many bytes of blanks, line continuations and a comment are at the front (XCU 2.3)
unfoldable pub blank_length : Bool → List ℕ → ℕ
blank_length joins cs =
    let rest = drop (gap_length cs) cs in
    if is_comment joins rest then gap_length cs + comment_length rest else gap_length cs

-- where the token at or after i begins (XCU 2.3); `joins` says whether this is in a here-document's
-- body whose lines are joined
unfoldable pub blanks : Bool → List ℕ → ℕ → ℕ
blanks joins b i = i + blank_length joins (drop i b)

-- Operators (XCU 2.3, 2.10.2)

-- the operators of two bytes or more, longer ones first (XCU 2.10.2)
abbrev pub long_operators : List (List ℕ × Operator)
long_operators =
    (codes "<<-", op.HereDocTabs) ∷ (codes "&&", op.AndIf) ∷ (codes "||", op.OrIf) ∷ (codes ";;", op.DoubleSemicolon) ∷ (codes ";&", op.SemicolonAnd)
    ∷ (codes "<<", op.HereDoc) ∷ (codes ">>", op.Append) ∷ (codes "<&", op.CopyIn) ∷ (codes ">&", op.CopyOut) ∷ (codes "<>", op.ReadWrite)
    ∷ (codes ">|", op.Clobber) ∷ []

-- the operators of one byte (XCU 2.10.2)
abbrev pub short_operators : List (List ℕ × Operator)
short_operators =
    (codes "&", op.And) ∷ (codes ";", op.Semicolon) ∷ (codes "|", op.Bar) ∷ (codes "(", op.LeftParenthesis) ∷ (codes ")", op.RightParenthesis)
    ∷ (codes "<", op.Less) ∷ (codes ">", op.Greater) ∷ []

-- the operator at the front and its length (XCU 2.3)
unfoldable pub operator_of : List ℕ → Option (Operator × ℕ)
operator_of cs = longest (long_operators ++ short_operators) cs

-- what is found n bytes further on
abbrev pub further : {A : Type 0} → ℕ → Option (A × ℕ) → Option (A × ℕ)
further n (Some found) = Some (found.0, n + found.1)
further n None = None

-- the operator at i, and where it ends
unfoldable pub operator : List ℕ → ℕ → Option (Operator × ℕ)
operator b i = further i (operator_of (drop i b))

abbrev pub is_longer : ℕ → Option (Operator × ℕ) → Bool
is_longer n (Some found) = nat_lt n found.1
is_longer n None = false

-- line continuations after the first n bytes keep them from being a longer operator (XCU 2.2.1)
unfoldable pub is_split : List ℕ → ℕ → Bool
is_split cs n = is_joined (drop n cs) && is_longer n (operator_of (joined_at n cs))

-- what a redirection does, except for a here-document (XCU 2.7)
unfoldable pub direction_of : Operator → Option Direction
direction_of op.Less = Some direction.Read
direction_of op.Greater = Some direction.Write
direction_of op.Clobber = Some direction.Clobber
direction_of op.Append = Some direction.Append
direction_of op.ReadWrite = Some direction.Both
direction_of op.CopyIn = Some direction.CopyIn
direction_of op.CopyOut = Some direction.CopyOut
direction_of _ = None

-- whether the here-document's operator is `<<-` (XCU 2.7.4)
unfoldable pub strip_of : Operator → Option Bool
strip_of op.HereDoc = Some false
strip_of op.HereDocTabs = Some true
strip_of _ = None

-- the operator of a redirection (XCU 2.7)
unfoldable pub redirects : Operator → Bool
redirects op.AndIf = false
redirects op.OrIf = false
redirects op.DoubleSemicolon = false
redirects op.SemicolonAnd = false
redirects op.And = false
redirects op.Semicolon = false
redirects op.Bar = false
redirects op.LeftParenthesis = false
redirects op.RightParenthesis = false
redirects _ = true

-- Words (XCU 2.3)

-- the byte is no delimiter and means nothing more than itself
abbrev pub is_bare : ℕ → Bool
is_bare c = not (ends_token c) && not (is_in (codes "$`\"'\\") c)

-- The token at i, if all of its bytes are such, or no bytes (XCU 2.3). No name that is looked for
-- has a `$` that is literal.
unfoldable pub bare_word : List ℕ → ℕ → List ℕ
bare_word b i =
    let n = run is_bare (drop i b) in
    if ends_joined (drop n (drop i b)) then take n (drop i b) else []

-- the reserved words (XCU 2.4)
abbrev pub reserved_words : List (List ℕ × Reserved)
reserved_words =
    (codes "!", word.Bang) ∷ (codes "{", word.LeftBrace) ∷ (codes "}", word.RightBrace) ∷ (codes "case", word.Case) ∷ (codes "do", word.Do) ∷ (codes "done", word.Done)
    ∷ (codes "elif", word.Elif) ∷ (codes "else", word.Else) ∷ (codes "esac", word.Esac) ∷ (codes "fi", word.Fi) ∷ (codes "for", word.For) ∷ (codes "if", word.If)
    ∷ (codes "in", word.In) ∷ (codes "then", word.Then) ∷ (codes "until", word.Until) ∷ (codes "while", word.While) ∷ []

-- words by which other shells begin forms of their own at the place of a command name: the standard
-- lets them be reserved (XCU 2.4)
abbrev pub left_out_names : List (List ℕ × Form)
left_out_names =
    (codes "[[", form.LeftBrackets) ∷ (codes "]]", form.RightBrackets) ∷ (codes "function", form.Function) ∷ (codes "select", form.Select)
    ∷ (codes "time", form.Time) ∷ (codes "namespace", form.Namespace) ∷ []

-- what a table says of a word
unfoldable pub entry_of : {A : Type 0} → List (List ℕ × A) → List ℕ → Option A
entry_of [] w = None
entry_of (x ∷ xs) w = if bytes_eq x.0 w then Some x.1 else entry_of xs w

-- a name and `=` (XCU 2.10.2, rule 7)
unfoldable pub is_assignment : List ℕ → Bool
is_assignment cs = not (name_length cs == 0) && is_first (λ c. c == byte.equals_sign) (drop (name_length cs) cs)

-- where the name at i ends
unfoldable pub name_end : List ℕ → ℕ → ℕ
name_end b i = i + name_length (drop i b)

-- the command name at i is the unquoted word `export` or `readonly`: declaration utilities
-- (XCU 2.9.1.1)
unfoldable pub declares : List ℕ → ℕ → Bool
declares b i = bytes_eq (codes "export") (bare_word b i) || bytes_eq (codes "readonly") (bare_word b i)

-- `<` or `>` is at the front
abbrev pub is_angle : List ℕ → Bool
is_angle cs = is_first (λ c. c == byte.less_than_sign || c == byte.greater_than_sign) cs

-- A word of three bytes or more, from i to j, that begins with `{` and ends with `}`, before `<` or
-- `>`. The standard lets a shell take it as an IO location (XCU 2.7, 2.10.1). It is refused.
unfoldable pub is_location : List ℕ → ℕ → ℕ → Bool
is_location b i j =
    nat_le (i + 3) j && is_first (λ c. c == byte.left_brace) (drop i b) && is_first (λ c. c == byte.right_brace) (drop (j - 1) b)
    && is_angle (behind_joined (drop j b))

-- Leads: what the token at a place is, by its first bytes (XCU 2.10.1)

abbrev pub is_parenthesis : ℕ → Bool
is_parenthesis c = c == byte.left_parenthesis

-- `(` at a command's first token, before rest: `((` opens no command, since the standard lets
-- shells compute there (XCU 2.9.4.1)
unfoldable pub opening : List ℕ → Lead
opening rest =
    if is_first is_parenthesis rest then lead.LeftOut form.DoubleParenthesis
    else (if is_first is_parenthesis (behind_joined rest) then lead.LeftOut form.Continuation else lead.Operator op.LeftParenthesis)

-- what an operator before rest is: `(` at a command's first token is looked at further
unfoldable pub whole_operator : Stage → List ℕ → Operator → Lead
whole_operator First rest op.LeftParenthesis = opening rest
whole_operator s rest o = lead.Operator o

-- what the operator of n bytes at the front is, unless continuations split it
unfoldable pub operator_lead : Stage → List ℕ → Operator → ℕ → Lead
operator_lead s cs o n = if is_split cs n then lead.LeftOut form.Continuation else whole_operator s (drop n cs) o

-- `!` before rest: what `!(` does the standard leaves open, so it begins no pipeline (XCU 2.9.2)
abbrev pub bang : List ℕ → Lead
bang rest =
    if is_first is_parenthesis rest then lead.LeftOut form.BangParenthesis
    else (if is_first is_parenthesis (behind_joined rest) then lead.LeftOut form.Continuation else lead.Reserved word.Bang)

-- the reserved word at the front (XCU 2.4)
unfoldable pub reserved_lead : List ℕ → Reserved → Lead
reserved_lead cs word.Bang = bang (drop 1 cs)
reserved_lead cs r = lead.Reserved r

-- the word w at i is a name before `(` (XCU 2.10.2, rule 8)
unfoldable pub is_definition : List ℕ → ℕ → List ℕ → Bool
is_definition b i w = is_name w && is_first is_parenthesis (drop (blanks false b (i + length w)) b)

-- a command name, unless it is refused
unfoldable pub name_lead : Option Form → Lead
name_lead (Some f) = lead.LeftOut f
name_lead None = lead.Word

-- the word w at i at a command's first token: a reserved word, a function's name or a command name
-- (XCU 2.10.2, rule 1)
unfoldable pub first_lead : List ℕ → ℕ → List ℕ → Option Reserved → Lead
first_lead b i w (Some r) = reserved_lead (drop i b) r
first_lead b i w None = if is_definition b i w then lead.Definition else name_lead (entry_of left_out_names w)

-- the word w at i, no assignment: it is reserved at a command's first token alone (XCU 2.4)
unfoldable pub word_lead : List ℕ → Stage → ℕ → List ℕ → Lead
word_lead b First i w = first_lead b i w (entry_of reserved_words w)
word_lead b Prefixed i w = name_lead (entry_of left_out_names w)
word_lead b (Named d) i w = lead.Word

abbrev pub is_named : Stage → Bool
is_named (Named d) = true
is_named _ = false

-- an IO number (XCU 2.10.1): digits before an operator, which line continuations do not keep from
-- being a longer one
unfoldable pub number_lead : List ℕ → Option (Operator × ℕ) → Lead
number_lead rest (Some found) = if is_split rest found.1 then lead.LeftOut form.Continuation else lead.Number
number_lead rest None = lead.Number

-- a token that is no operator (XCU 2.10.1): digits before `<` or `>`, an assignment (2.10.2,
-- rule 7), or another word
unfoldable pub other_lead : List ℕ → Stage → ℕ → Lead
other_lead b s i =
    let cs = drop i b in
    let digits = run is_digit cs in
    if not (digits == 0) && is_angle (drop digits cs) then number_lead (drop digits cs) (operator_of (drop digits cs))
    else (if not (digits == 0) && is_angle (behind_joined (drop digits cs)) then lead.LeftOut form.Continuation
    else (if not (is_named s) && is_assignment cs then lead.Assignment
    else word_lead b s i (bare_word b i)))

-- the operator that was found at i, or else the end, a newline or another token (XCU 2.3)
unfoldable pub lead_of : List ℕ → Stage → ℕ → Option (Operator × ℕ) → Lead
lead_of b s i (Some found) = operator_lead s (drop i b) found.0 found.1
lead_of b s i None =
    if nat_le (length b) i then lead.End
    else (if is_first is_newline (drop i b) then lead.Newline
    else (if is_first (λ c. c == byte.number_sign) (drop i b) then lead.LeftOut form.Continuation
    else (if is_last_backquote (drop i b) then lead.Backquote
    else other_lead b s i)))

-- What the token at i is. A comment there is one that a here-document must not hold.
unfoldable pub lead_at : List ℕ → Stage → ℕ → Lead
lead_at b s i = lead_of b s i (operator_of (drop i b))

-- Redirections (XCU 2.7)

-- the digits from i to j before the operator
abbrev pub number_of : ℕ → ℕ → Option Span
number_of i j = if i == j then None else Some (span i j)

-- a redirection from i on, whose operator is at `at`
abbrev pub redirection_by : ℕ → ℕ → Option (Operator × ℕ) → Option Redirection
redirection_by i at (Some o) = if redirects o.0 then Some (record { number = number_of i at; operator = o.0; at = at; end = o.1 }) else None
redirection_by i at None = None

-- where the digits at i end
abbrev pub digits_end : List ℕ → ℕ → ℕ
digits_end b i = i + run is_digit (drop i b)

-- the redirection that begins at i (XCU 2.7)
unfoldable pub redirection : List ℕ → ℕ → Option Redirection
redirection b i = redirection_by i (digits_end b i) (operator b (digits_end b i))

-- Classes of leads, by the grammar's rules (XCU 2.10.2)

-- the first token of a redirection
unfoldable pub is_redirection : Lead → Bool
is_redirection lead.Number = true
is_redirection (lead.Operator o) = redirects o
is_redirection _ = false

-- a word can be here
abbrev pub is_word : Lead → Bool
is_word lead.Word = true
is_word _ = false

-- the first token of a simple command (XCU 2.9.1)
unfoldable pub begins_simple : Lead → Bool
begins_simple lead.Word = true
begins_simple lead.Assignment = true
begins_simple l = is_redirection l

-- the first token of a compound command (XCU 2.9.4)
unfoldable pub begins_compound : Lead → Bool
begins_compound (lead.Operator op.LeftParenthesis) = true
begins_compound (lead.Reserved word.LeftBrace) = true
begins_compound (lead.Reserved word.Case) = true
begins_compound (lead.Reserved word.For) = true
begins_compound (lead.Reserved word.If) = true
begins_compound (lead.Reserved word.Until) = true
begins_compound (lead.Reserved word.While) = true
begins_compound _ = false

-- the first token of a command (XCU 2.9, 2.9.5)
unfoldable pub begins_command : Lead → Bool
begins_command lead.Definition = true
begins_command l = begins_simple l || begins_compound l

-- the first token of a pipeline (XCU 2.9.2)
unfoldable pub begins_pipeline : Lead → Bool
begins_pipeline (lead.Reserved word.Bang) = true
begins_pipeline l = begins_command l

abbrev pub is_newline_lead : Lead → Bool
is_newline_lead lead.Newline = true
is_newline_lead _ = false

abbrev pub is_bar : Lead → Bool
is_bar (lead.Operator op.Bar) = true
is_bar _ = false

abbrev pub is_open : Lead → Bool
is_open (lead.Operator op.LeftParenthesis) = true
is_open _ = false

abbrev pub is_esac : Lead → Bool
is_esac (lead.Reserved word.Esac) = true
is_esac _ = false

-- how a clause of `case` ends (XCU 2.9.4.3)
unfoldable pub clause_end_of : Lead → Option ClauseEnd
clause_end_of (lead.Operator op.DoubleSemicolon) = Some clause.Break
clause_end_of (lead.Operator op.SemicolonAnd) = Some clause.FallThrough
clause_end_of _ = None

-- the word at i is a name, unquoted (XCU 2.10.2, rule 5)
unfoldable pub is_bare_name : List ℕ → ℕ → Bool
is_bare_name b i = is_name (bare_word b i)

abbrev pub is_reserved : Lead → Bool
is_reserved (lead.Reserved r) = true
is_reserved _ = false

-- whether the separator makes what precedes it an asynchronous list (XCU 2.9.3)
unfoldable pub separator : Lead → Option Bool
separator lead.Newline = Some false
separator (lead.Operator op.Semicolon) = Some false
separator (lead.Operator op.And) = Some true
separator _ = None

-- what joins two pipelines (XCU 2.9.3)
unfoldable pub link_of : Lead → Option Link
link_of (lead.Operator op.AndIf) = Some link.AndThen
link_of (lead.Operator op.OrIf) = Some link.OrElse
link_of _ = None
