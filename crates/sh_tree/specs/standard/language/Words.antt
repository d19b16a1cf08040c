-- What begins at each place of a word, each thing the longest.
-- POSIX.1-2024, XCU 2.2 (quoting), 2.3 (token recognition), 2.5 (parameters), 2.6 (word
-- expansions), 2.7.4 (here-documents).
use Rattle.std.specs.Prelude.{ℕ, ◌+◌, ◌-◌, Bool, true, false, not, ◌&&◌, ◌||◌, if◌then◌else◌, ◌==◌, List, [], ◌∷◌, length, drop, take, codes, nat_lt, nat_le, Option, Some, None}
use Rattle.sh_tree.specs.standard.language.Characters as byte
use Rattle.sh_tree.specs.declared.tree.Subject.{Subject}
use Rattle.sh_tree.specs.declared.tree.Subject.TheVariants.{Name, Positional, Special}
use Rattle.sh_tree.specs.declared.tree.Special.{Special as SpecialParameter}
use Rattle.sh_tree.specs.declared.tree.Special.TheVariants as special
use Rattle.sh_tree.specs.declared.tree.Action.{Action}
use Rattle.sh_tree.specs.declared.tree.Action.TheVariants as action
use Rattle.sh_tree.specs.declared.tree.Removal.TheVariants as removal
use Rattle.sh_tree.specs.declared.tree.SingleStyle.TheVariants as style
use Rattle.sh_tree.specs.declared.tree.CommandStyle.TheVariants.{Paren, Backquote}
use Rattle.sh_tree.specs.declared.refusal.Fault.TheVariants as fault
use Rattle.sh_tree.specs.declared.refusal.Form.TheVariants as form
use Rattle.sh_tree.specs.declared.token.word.Site.{Site}
use Rattle.sh_tree.specs.declared.token.word.Site.TheVariants.{Word, Double, Braced, QuotedBraced, Body, Verbatim}
use Rattle.sh_tree.specs.declared.token.word.Context.{Context}
use Rattle.sh_tree.specs.declared.token.word.Sign.{Sign}
use Rattle.sh_tree.specs.declared.token.word.Sign.TheVariants as sign
use Rattle.sh_tree.specs.declared.token.word.Token.{Token}
use Rattle.sh_tree.specs.standard.language.Bytes.{is_in, is_newline, is_tab, is_digit, is_name_start, is_name_byte, ends_token, run, is_first, is_last_backquote, name_length, decimal, behind_joined, is_joined}
use Rattle.sh_tree.specs.standard.language.Trees.{span}

-- Sites: words, and what quotes, braces and here-documents hold (XCU 2.2.3, 2.6.2, 2.7.4)

-- it is read as in double quotes (XCU 2.2.3, 2.7.4)
abbrev pub is_quoted : Site → Bool
is_quoted Word = false
is_quoted Braced = false
is_quoted _ = true

-- the byte ends the site (XCU 2.3, 2.2.3, 2.6.2)
abbrev pub stops : Site → ℕ → Bool
stops Word c = ends_token c
stops Double c = c == byte.quotation_mark
stops Braced c = c == byte.right_brace
stops QuotedBraced c = c == byte.right_brace
stops Body c = false
stops Verbatim c = false

-- how long that end is: a word ends before it, others over it
abbrev pub stop_length : Site → ℕ
stop_length Word = 0
stop_length Double = 1
stop_length Braced = 1
stop_length QuotedBraced = 1
stop_length Body = 0
stop_length Verbatim = 0

-- the byte means more than itself (XCU 2.2)
abbrev pub is_special : Site → ℕ → Bool
is_special Word c = is_in (codes "$`\"'\\") c
is_special Double c = is_in (codes "$`\"\\") c
is_special Braced c = is_in (codes "$`\"'\\") c
is_special QuotedBraced c = is_in (codes "$`\"\\") c
is_special Body c = is_in (codes "$`\\") c
is_special Verbatim c = false

-- a backslash in quotes keeps the byte; before other bytes it is literal (XCU 2.2.3, 2.7.4)
abbrev pub is_kept : Site → ℕ → Bool
is_kept Double c = is_in (codes "$`\"\\") c
is_kept QuotedBraced c = is_in (codes "$`\"\\") c
is_kept Body c = is_in (codes "$`\\") c
is_kept _ c = false

-- a backslash and the byte after it are read together (XCU 2.2.1, 2.2.3)
abbrev pub is_escaped : Site → ℕ → Bool
is_escaped Word c = true
is_escaped Braced c = true
is_escaped QuotedBraced c = is_kept QuotedBraced c || is_newline c || c == byte.right_brace
is_escaped Verbatim c = false
is_escaped s c = is_kept s c || is_newline c

-- Tilde-prefixes (XCU 2.6.1)

-- A byte of a login name: of a portable one (XCU 2.6.1), or a plus sign. Before other bytes a tilde
-- is itself.
abbrev pub is_login_byte : ℕ → Bool
is_login_byte c = is_name_byte c || is_in (codes ".+-") c

-- How long the tilde-prefix is whose tilde is before cs, or 0 if there is none. It is a login name,
-- or none, up to a slash, the end of the word, or a colon in an assignment. A line continuation ends
-- it too, and so does a backquote that ends the text.
unfoldable pub tilde_length : Context → List ℕ → ℕ
tilde_length x cs =
    let rest = drop (run is_login_byte cs) cs in
    if length rest == 0 || is_first (λ c. c == byte.slash || (x.colons && c == byte.colon) || stops x.site c) rest || is_joined rest || is_last_backquote rest then run is_login_byte cs + 1 else 0

-- a tilde-prefix is looked for at i, after the plain byte `prior` (XCU 2.6.1)
abbrev pub may_be_tilde : Context → ℕ → ℕ → Bool
may_be_tilde x prior i = not (is_quoted x.site) && (i == x.origin || (x.colons && prior == byte.colon))

-- the byte c at i is the tilde of a tilde-prefix
unfoldable pub is_tilde : Context → ℕ → ℕ → ℕ → List ℕ → Bool
is_tilde x prior i c cs = c == byte.tilde && may_be_tilde x prior i && not (tilde_length x cs == 0)

-- What a `$` begins (XCU 2.6)

-- The byte after a `$` makes it more than a literal one. The standard says what `$` is before a
-- blank, a newline and the end, and leaves it open before other bytes: there it is read as literal,
-- as in shells.
abbrev pub opens_dollar : Bool → ℕ → Bool
opens_dollar quoted c = is_name_byte c || is_in (codes "@*#?-$!{([") c || (not quoted && is_in (codes "'\"") c)

-- the `$` before cs is literal, whether continuations follow or not
abbrev pub is_literal_dollar : Bool → List ℕ → Bool
is_literal_dollar quoted cs = not (is_first (opens_dollar quoted) (behind_joined cs))

-- the special parameter of a byte (XCU 2.5.2)
unfoldable pub special_of : ℕ → Option SpecialParameter
special_of c =
    if c == byte.commercial_at then Some special.At
    else (if c == byte.asterisk then Some special.Asterisk
    else (if c == byte.number_sign then Some special.NumberSign
    else (if c == byte.question_mark then Some special.QuestionMark
    else (if c == byte.hyphen_minus then Some special.Hyphen
    else (if c == byte.dollar_sign then Some special.Dollar
    else (if c == byte.exclamation_mark then Some special.Exclamation
    else (if c == byte.digit_zero then Some special.Zero
    else None)))))))

-- a `$` at i and a name of n bytes, before rest (XCU 2.6.2)
unfoldable pub named_value : ℕ → ℕ → List ℕ → Sign × ℕ
named_value i n rest =
    if is_joined rest && is_first is_name_byte (behind_joined rest) then (sign.LeftOut form.Continuation, n + 1)
    else (sign.Value (Name (span (i + 1) (i + 1 + n))), n + 1)

-- a special parameter, or else the positional one of the digit c, in the byte at i (XCU 2.5.1,
-- 2.5.2)
abbrev pub one_byte : ℕ → ℕ → Option SpecialParameter → Subject
one_byte i c (Some p) = Special p (span i (i + 1))
one_byte i c None = Positional (c - byte.digit_zero) (span i (i + 1))

-- a `$` at i and one byte more
unfoldable pub single_parameter : ℕ → ℕ → Sign × ℕ
single_parameter i c = (sign.Value (one_byte (i + 1) c (special_of c)), 2)

-- `$(`, before rest (XCU 2.6.3, 2.6.4): `$((` is always arithmetic, though by the standard `$(` and
-- a subshell may begin so
unfoldable pub parenthesis : List ℕ → Sign × ℕ
parenthesis rest =
    if is_first (λ c. c == byte.left_parenthesis) rest then (sign.Arith, 3)
    else (if is_first (λ c. c == byte.left_parenthesis) (behind_joined rest) then (sign.LeftOut form.Continuation, 2)
    else (sign.Substitution Paren, 2))

-- Braced expansions, after `${` (XCU 2.6.2)

-- The digits of a parameter at i: `0`, or a number from 1 to 65535 (XCU 2.5.1). Leading zeros are
-- refused.
unfoldable pub numeric_parameter : ℕ → List ℕ → Option (Subject × ℕ)
numeric_parameter i ds =
    if length ds == 0 then None
    else (if is_first (λ c. c == byte.digit_zero) ds then (if length ds == 1 then Some (Special special.Zero (span i (i + 1)), 1) else None)
    else (if nat_le (length ds) 5 && nat_le (decimal 0 ds) 65535 then Some (Positional (decimal 0 ds) (span i (i + length ds)), length ds)
    else None))

-- the parameter at i that may have an operator, and its length
unfoldable pub parameter : ℕ → List ℕ → Option (Subject × ℕ)
parameter i cs =
    if name_length cs == 0 then numeric_parameter i (take (run is_digit cs) cs)
    else Some (Name (span i (i + name_length cs)), name_length cs)

-- no braced expansion goes on with rest, k bytes after the `$`: an open one, or a refused form
unfoldable pub misfit : ℕ → List ℕ → Sign × ℕ
misfit k rest =
    if length rest == 0 then (sign.Fault fault.OpenBraced, 0)
    else (if is_joined rest then (sign.LeftOut form.Continuation, k)
    else (if length rest == 1 && is_first (λ c. c == byte.backslash) rest then (sign.Fault fault.FinalBackslash, k)
    else (sign.LeftOut form.Braced, 0)))

-- the closing brace comes
abbrev pub closes : List ℕ → Bool
closes rest = is_first (λ c. c == byte.right_brace) rest

-- what an operator does with its word (XCU 2.6.2)
unfoldable pub action_of : ℕ → Option Action
action_of c =
    if c == byte.hyphen_minus then Some action.Default
    else (if c == byte.equals_sign then Some action.Assign
    else (if c == byte.question_mark then Some action.Fault
    else (if c == byte.plus_sign then Some action.Alternative
    else None)))

-- the removal of a prefix or suffix, the longest or the shortest (XCU 2.6.2)
unfoldable pub pattern_removal : Subject → ℕ → List ℕ → Sign × ℕ
pattern_removal p k [] = misfit k []
pattern_removal p k (c ∷ rest) =
    if c == byte.percent_sign then (if is_first (λ d. d == byte.percent_sign) rest then (sign.Remove p removal.LongSuffix, k + 2) else (sign.Remove p removal.ShortSuffix, k + 1))
    else (if c == byte.number_sign then (if is_first (λ d. d == byte.number_sign) rest then (sign.Remove p removal.LongPrefix, k + 2) else (sign.Remove p removal.ShortPrefix, k + 1))
    else misfit k (c ∷ rest))

abbrev pub action_by : Bool → Subject → ℕ → List ℕ → Option Action → Sign × ℕ
action_by colon p k rest (Some a) = (sign.Use p a colon, k + 1)
action_by colon p k rest None = if colon then misfit k rest else pattern_removal p k rest

-- `-`, `=`, `?` or `+`, after a colon or not (XCU 2.6.2)
unfoldable pub parameter_action : Bool → Subject → ℕ → List ℕ → Sign × ℕ
parameter_action colon p k [] = misfit k []
parameter_action colon p k (c ∷ rest) = action_by colon p k (c ∷ rest) (action_of c)

-- what follows the parameter, k bytes after the `$` (XCU 2.6.2)
unfoldable pub parameter_operator : Subject → ℕ → List ℕ → Sign × ℕ
parameter_operator p k rest =
    if closes rest then (sign.Value p, k + 1)
    else (if is_first (λ c. c == byte.colon) rest then parameter_action true p (k + 1) (drop 1 rest)
    else parameter_action false p k rest)

abbrev pub length_by : List ℕ → Option (Subject × ℕ) → Sign × ℕ
length_by rest (Some p) = if closes (drop p.1 rest) then (sign.Length p.0, p.1 + 4) else misfit (p.1 + 3) (drop p.1 rest)
length_by rest None = misfit 3 rest

-- `${#`, at i, and a parameter: the length of its value (XCU 2.6.2)
unfoldable pub parameter_length : ℕ → List ℕ → Sign × ℕ
parameter_length i rest = length_by rest (parameter (i + 3) rest)

-- A special parameter in the byte at i; rest begins with it. With an operator it is refused.
abbrev pub specially : ℕ → List ℕ → Option SpecialParameter → Sign × ℕ
specially i rest (Some p) = if closes (drop 1 rest) then (sign.Value (Special p (span i (i + 1))), 4) else misfit 3 (drop 1 rest)
specially i rest None = misfit 2 rest

-- `${` and a special parameter, or `${#` and a parameter; `${#}` is `$#`
unfoldable pub special_or_length : ℕ → List ℕ → Sign × ℕ
special_or_length i [] = misfit 2 []
special_or_length i (c ∷ rest) = if c == byte.number_sign && not (closes rest) then parameter_length i rest else specially (i + 2) (c ∷ rest) (special_of c)

abbrev pub braced_expansion_by : ℕ → List ℕ → Option (Subject × ℕ) → Sign × ℕ
braced_expansion_by i cs (Some p) = parameter_operator p.0 (p.1 + 2) (drop p.1 cs)
braced_expansion_by i cs None = special_or_length i cs

-- `${`, at i (XCU 2.6.2)
unfoldable pub braced_expansion : ℕ → List ℕ → Sign × ℕ
braced_expansion i cs = braced_expansion_by i cs (parameter (i + 2) cs)

-- A byte that a backslash in `$'` keeps, or makes another byte (XCU 2.2.4). Others are refused, `c`,
-- `x` and octal digits among them.
abbrev pub is_dollar_escape : ℕ → Bool
is_dollar_escape c = is_in (codes "\"'\\abefnrtv") c

-- n bytes further on, unless there is a fault
abbrev pub told_or : ℕ → Sign × ℕ → Sign × ℕ
told_or n (sign.Single s, m) = (sign.Single s, n + m)
told_or n (sign.LeftOut f, m) = (sign.LeftOut f, n + m)
told_or n found = found

-- what follows `$'`, up to the quote that no backslash escapes
unfoldable pub dollar_quoted : List ℕ → Sign × ℕ
dollar_quoted [] = (sign.Fault fault.OpenSingle, 0)
dollar_quoted (c ∷ []) = if c == byte.apostrophe then (sign.Single style.Dollar, 1) else (sign.Fault fault.OpenSingle, 0)
dollar_quoted (c ∷ d ∷ cs) =
    if c == byte.apostrophe then (sign.Single style.Dollar, 1)
    else (if c == byte.backslash then (if is_dollar_escape d then told_or 2 (dollar_quoted cs) else (sign.LeftOut form.DollarEscape, 0))
    else told_or 1 (dollar_quoted (d ∷ cs)))

-- a `$` at i that opens something, before cs (XCU 2.6)
unfoldable pub dollar_expansion : ℕ → List ℕ → Sign × ℕ
dollar_expansion i [] = (sign.Plain, 1)
dollar_expansion i (c ∷ rest) =
    if is_name_start c then named_value i (name_length (c ∷ rest)) (drop (name_length (c ∷ rest)) (c ∷ rest))
    else (if c == byte.left_brace then braced_expansion i rest
    else (if c == byte.left_parenthesis then parenthesis rest
    else (if c == byte.left_bracket then (sign.LeftOut form.DollarBracket, 0)
    else (if c == byte.apostrophe then told_or 2 (dollar_quoted rest)
    else (if c == byte.quotation_mark then (sign.LeftOut form.DollarDouble, 0)
    else single_parameter i c)))))

-- the value of `$@`
abbrev pub is_all : Sign → Bool
is_all (sign.Value (Special special.At s)) = true
is_all _ = false

-- The sign in this context. `$@` is read only if fields are split: elsewhere the standard leaves
-- open what it is (XCU 2.5.2).
abbrev pub sign_in : Context → Sign × ℕ → Sign × ℕ
sign_in x found = if is_all found.0 && not x.fields then (sign.LeftOut form.AllParameters, 0) else found

-- what the `$` at i begins, before cs
unfoldable pub dollar : Context → ℕ → List ℕ → Sign × ℕ
dollar x i cs = if is_joined cs then (sign.LeftOut form.Continuation, 1) else sign_in x (dollar_expansion i cs)

-- Plain bytes (XCU 2.2)

-- a tab at the beginning of a line, which `<<-` strips (XCU 2.7.4)
abbrev pub is_stripped : Context → ℕ → ℕ → Bool
is_stripped x prior c = x.strip && prior == byte.newline && c == byte.tab

-- a backslash in quotes that keeps no byte (XCU 2.2.3)
abbrev pub is_literal_backslash : Site → List ℕ → Bool
is_literal_backslash s cs = not (length cs == 0) && not (is_first (is_escaped s) cs)

-- the byte c, which may mean more, is a literal one before cs
abbrev pub is_literal : Site → ℕ → List ℕ → Bool
is_literal s c cs = if c == byte.dollar_sign then is_literal_dollar (is_quoted s) cs else c == byte.backslash && is_literal_backslash s cs

-- the byte c at i is literal, after the byte `prior` and before cs
unfoldable pub stands : Context → ℕ → ℕ → ℕ → List ℕ → Bool
stands x prior i c cs =
    not (stops x.site c) && not (is_stripped x prior c) && not (is_tilde x prior i c cs)
    && (not (is_special x.site c) || is_literal x.site c cs)

-- how many bytes are literal
unfoldable pub plain_length : Context → ℕ → ℕ → List ℕ → ℕ
plain_length x prior i [] = 0
plain_length x prior i (c ∷ cs) = if stands x prior i c cs then 1 + plain_length x c (i + 1) cs else 0

-- Signs: what begins at a place (XCU 2.2, 2.6)

-- a word ends before continuations after which no token goes on (XCU 2.2.1)
abbrev pub ends_joined : List ℕ → Bool
ends_joined cs = length (behind_joined cs) == 0 || is_first ends_token (behind_joined cs) || is_last_backquote (behind_joined cs)

abbrev pub is_word_site : Site → Bool
is_word_site Word = true
is_word_site _ = false

abbrev pub is_default_site : Site → Bool
is_default_site QuotedBraced = true
is_default_site _ = false

-- A backslash and a newline, before rest (XCU 2.2.1). The standard removes both; inside an unquoted
-- word they are refused.
unfoldable pub continuation : Context → List ℕ → Sign × ℕ
continuation x rest =
    if is_quoted x.site then (if x.strip && is_first is_tab rest then (sign.LeftOut form.HereTab, 2) else (sign.Joined, 2))
    else (if is_word_site x.site && ends_joined rest then (sign.Stop, 0) else (sign.LeftOut form.Continuation, 0))

-- a backslash that is not literal (XCU 2.2.1)
unfoldable pub backslash : Context → List ℕ → Sign × ℕ
backslash x [] = (sign.Fault fault.FinalBackslash, 0)
backslash x (c ∷ rest) =
    if is_newline c then continuation x rest
    else (if is_default_site x.site && c == byte.right_brace then (sign.LeftOut form.BackslashInDefault, 0)
    else (if is_default_site x.site && x.body && c == byte.quotation_mark then (sign.LeftOut form.QuotedInDefault, 0)
    else (sign.Escaped, 2)))

-- a single quote, before cs (XCU 2.2.2)
unfoldable pub single : List ℕ → Sign × ℕ
single cs = let n = run (λ c. not (c == byte.apostrophe)) cs in if nat_lt n (length cs) then (sign.Single style.Plain, n + 2) else (sign.Fault fault.OpenSingle, 0)

-- a double quote that ends nothing (XCU 2.2.3); in a quoted default it is refused
abbrev pub double : Site → Sign × ℕ
double s = if is_default_site s then (sign.LeftOut form.QuotedInDefault, 0) else (sign.Double, 1)

-- A backquote, before cs (XCU 2.6.3). If it ends the text, a word ends before it. In
-- here-documents, arithmetic and quoted braced expansions it is refused.
unfoldable pub backquoted : Context → List ℕ → Sign × ℕ
backquoted x cs =
    if is_word_site x.site && length cs == 0 then (sign.Stop, 0)
    else (if x.backquotes then (sign.Substitution Backquote, 1) else (sign.LeftOut form.Backquoted, 0))

-- what the byte c at i begins, if it is not literal
unfoldable pub meant_by : Context → ℕ → ℕ → List ℕ → Sign × ℕ
meant_by x i c cs =
    if c == byte.backslash then backslash x cs
    else (if c == byte.apostrophe then single cs
    else (if c == byte.quotation_mark then double x.site
    else (if c == byte.backquote then backquoted x cs
    else dollar x i cs)))

-- what the byte c at i begins, after the plain byte `prior` and before cs
unfoldable pub sign_by : Context → ℕ → ℕ → ℕ → List ℕ → Sign × ℕ
sign_by x prior i c cs =
    if stops x.site c then (sign.Stop, stop_length x.site)
    else (if is_stripped x prior c then (sign.Tabs, run is_tab cs + 1)
    else (if stands x prior i c cs then (sign.Plain, plain_length x prior i (c ∷ cs))
    else (if c == byte.tilde then (sign.Tilde, tilde_length x cs)
    else meant_by x i c cs)))

-- the text ends: a word or a body may end there, and other things are open (XCU 2.3)
abbrev pub sign_at_end : Site → Sign
sign_at_end Word = sign.Stop
sign_at_end Double = sign.Open
sign_at_end Braced = sign.Open
sign_at_end QuotedBraced = sign.Open
sign_at_end Body = sign.Stop
sign_at_end Verbatim = sign.Stop

unfoldable pub sign_of : Context → ℕ → ℕ → List ℕ → Sign × ℕ
sign_of x prior i [] = (sign_at_end x.site, 0)
sign_of x prior i (c ∷ cs) = sign_by x prior i c cs

-- what begins at i, after the plain byte `prior`, or 0 if none precedes it
unfoldable pub token : List ℕ → Context → ℕ → ℕ → Token
token b x prior i = let found = sign_of x prior i (drop i b) in record { sign = found.0; end = i + found.1 }

-- Contexts (XCU 2.2.3, 2.6.1, 2.6.2, 2.6.4)

-- inside the double quotes that open here (XCU 2.2.3): a colon in them is quoted (XCU 2.6.1)
abbrev pub in_double : Context → Context
in_double x = record x { site = Double; colons = false }

abbrev pub is_alternative : Action → Bool
is_alternative action.Alternative = true
is_alternative _ = false

-- in the word after `-`, `=`, `?` or `+`, from i on (XCU 2.6.2); in quotes it is quoted too
abbrev pub in_use : Context → Action → ℕ → Context
in_use x a i = record x { site = if is_quoted x.site then QuotedBraced else Braced; origin = i; fields = x.fields && not (is_quoted x.site) && is_alternative a; backquotes = x.backquotes && not (is_quoted x.site) }

-- in the pattern of a removal, from i on, which is read as outside quotes (XCU 2.6.2)
abbrev pub in_removal : Context → ℕ → Context
in_removal x i = record x { site = Braced; origin = i; fields = false; backquotes = x.backquotes && not (is_quoted x.site) }

-- around an expansion that is an operand of arithmetic, which is read as in double quotes
-- (XCU 2.6.4)
abbrev pub in_arithmetic : Context → Context
in_arithmetic x = record (in_double x) { fields = false; backquotes = false }
