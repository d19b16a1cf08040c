-- The tokens of arithmetic, each the longest.
-- POSIX.1-2024, XCU 2.6.4 (arithmetic expansion), 1.1.2.1 (arithmetic precision and operations),
-- 2.2.1 (line continuation).
use Rattle.std.specs.Prelude.{ℕ, ◌+◌, Bool, not, ◌&&◌, ◌||◌, if◌then◌else◌, ◌==◌, List, [], ◌∷◌, length, drop, codes, nat_eq, nat_lt, Option, Some, None}
use Rattle.std.specs.List.{starts_with}
use Rattle.sh_tree.specs.standard.language.Characters as byte
use Rattle.sh_tree.specs.declared.tree.Binary.{Binary}
use Rattle.sh_tree.specs.declared.tree.Binary.TheVariants as op
use Rattle.sh_tree.specs.declared.tree.Unary.{Unary}
use Rattle.sh_tree.specs.declared.tree.Unary.TheVariants as unary
use Rattle.sh_tree.specs.declared.refusal.Form.TheVariants as form
use Rattle.sh_tree.specs.declared.token.arithmetic.Figure.{Figure}
use Rattle.sh_tree.specs.declared.token.arithmetic.Figure.TheVariants as figure
use Rattle.sh_tree.specs.declared.token.arithmetic.Lexeme.{Lexeme}
use Rattle.sh_tree.specs.standard.language.Bytes.{is_in, is_blank, is_newline, is_backslash, is_digit, is_octal, is_hexadecimal, is_name_start, run, is_first, name_length, longest, is_joined, joined_at}

-- Blanks (XCU 2.6.4)

-- how many bytes of blanks, newlines and line continuations are at the front (XCU 2.2.1)
unfoldable pub space_length : List ℕ → ℕ
space_length [] = 0
space_length (c ∷ []) = if is_blank c || is_newline c then 1 else 0
space_length (c ∷ d ∷ cs) =
    if is_blank c || is_newline c then 1 + space_length (d ∷ cs)
    else (if is_backslash c && is_newline d then 2 + space_length cs else 0)

-- Tokens (XCU 2.6.4)

-- The operators, longer ones first (XCU 1.1.2.1). Those that the standard does not require are
-- refused (`++`, `--`, a comma), as are quotes and backquotes.
abbrev pub operator_table : List (List ℕ × Figure)
operator_table =
    (codes "<<=", figure.Assign (Some op.ShiftLeft)) ∷ (codes ">>=", figure.Assign (Some op.ShiftRight))
    ∷ (codes "++", figure.LeftOut form.Arithmetic) ∷ (codes "--", figure.LeftOut form.Arithmetic)
    ∷ (codes "<<", figure.Binary op.ShiftLeft) ∷ (codes ">>", figure.Binary op.ShiftRight)
    ∷ (codes "<=", figure.Binary op.LessEqual) ∷ (codes ">=", figure.Binary op.GreaterEqual)
    ∷ (codes "==", figure.Binary op.Equal) ∷ (codes "!=", figure.Binary op.Unequal)
    ∷ (codes "&&", figure.Binary op.And) ∷ (codes "||", figure.Binary op.Or)
    ∷ (codes "*=", figure.Assign (Some op.Multiply)) ∷ (codes "/=", figure.Assign (Some op.Divide)) ∷ (codes "%=", figure.Assign (Some op.Remainder))
    ∷ (codes "+=", figure.Assign (Some op.Add)) ∷ (codes "-=", figure.Assign (Some op.Subtract))
    ∷ (codes "&=", figure.Assign (Some op.BitAnd)) ∷ (codes "^=", figure.Assign (Some op.BitXor)) ∷ (codes "|=", figure.Assign (Some op.BitOr))
    ∷ (codes "*", figure.Binary op.Multiply) ∷ (codes "/", figure.Binary op.Divide) ∷ (codes "%", figure.Binary op.Remainder)
    ∷ (codes "+", figure.Binary op.Add) ∷ (codes "-", figure.Binary op.Subtract)
    ∷ (codes "<", figure.Binary op.Less) ∷ (codes ">", figure.Binary op.Greater)
    ∷ (codes "&", figure.Binary op.BitAnd) ∷ (codes "^", figure.Binary op.BitXor) ∷ (codes "|", figure.Binary op.BitOr)
    ∷ (codes "=", figure.Assign None) ∷ (codes "~", figure.Complement) ∷ (codes "!", figure.Not) ∷ (codes "?", figure.Question) ∷ (codes ":", figure.Colon)
    ∷ (codes "(", figure.Open) ∷ (codes ")", figure.Close) ∷ (codes "$", figure.Dollar)
    ∷ (codes ",", figure.LeftOut form.Arithmetic) ∷ (codes "'", figure.LeftOut form.Arithmetic) ∷ (codes "\"", figure.LeftOut form.Arithmetic)
    ∷ (codes "`", figure.LeftOut form.Backquoted) ∷ []

-- how long the constant at the front is: hexadecimal after `0x` or `0X`, octal after `0`, else
-- decimal (XCU 2.6.4)
unfoldable pub constant_length : List ℕ → ℕ
constant_length cs =
    if not (is_first (λ c. c == byte.digit_zero) cs) then run is_digit cs
    else (if is_first (is_in (codes "xX")) (drop 1 cs) && is_first is_hexadecimal (drop 2 cs) then run is_hexadecimal (drop 2 cs) + 2
    else run is_octal (drop 1 cs) + 1)

-- a name; `sizeof`, which the standard does not require, is refused (XCU 2.6.4)
unfoldable pub name_figure : List ℕ → Figure × ℕ
name_figure cs = if name_length cs == 6 && starts_with nat_eq cs (codes "sizeof") then (figure.LeftOut form.Arithmetic, 6) else (figure.Name, name_length cs)

-- no token of arithmetic begins so
unfoldable pub unknown : List ℕ → Figure × ℕ
unknown cs = if length cs == 1 && is_first is_backslash cs then (figure.FinalBackslash, 1) else (figure.Bad, 1)

abbrev pub figure_by : List ℕ → Option (Figure × ℕ) → Figure × ℕ
figure_by cs (Some found) = found
figure_by cs None = unknown cs

-- the token at the front and its length (XCU 2.6.4)
unfoldable pub figure_of : List ℕ → Figure × ℕ
figure_of cs =
    if length cs == 0 then (figure.End, 0)
    else (if is_first is_name_start cs then name_figure cs
    else (if is_first is_digit cs then (figure.Constant, constant_length cs)
    else figure_by cs (longest operator_table cs)))

-- line continuations after the first n bytes keep them from being a longer token (XCU 2.2.1)
abbrev pub is_split : List ℕ → ℕ → Bool
is_split cs n = is_joined (drop n cs) && nat_lt n (figure_of (joined_at n cs)).1

abbrev pub lexeme_from : List ℕ → ℕ → Figure × ℕ → Lexeme
lexeme_from cs i found =
    if is_split cs found.1 then record { figure = figure.LeftOut form.Continuation; start = i + found.1; end = i + found.1 }
    else record { figure = found.0; start = i; end = i + found.1 }

-- where the token at or after i begins
unfoldable pub lexeme_start : List ℕ → ℕ → ℕ
lexeme_start b i = i + space_length (drop i b)

-- the token at or after i; a refused form begins where the refusal is reported
unfoldable pub lexeme : List ℕ → ℕ → Lexeme
lexeme b i = lexeme_from (drop (lexeme_start b i) b) (lexeme_start b i) (figure_of (drop (lexeme_start b i) b))

-- Operators (XCU 1.1.2.1)

-- the levels of binary operators, from loose to tight, as in C (XCU 1.1.2.1)
abbrev pub level_of : Binary → ℕ
level_of op.Or = 0
level_of op.And = 1
level_of op.BitOr = 2
level_of op.BitXor = 3
level_of op.BitAnd = 4
level_of op.Equal = 5
level_of op.Unequal = 5
level_of op.Less = 6
level_of op.LessEqual = 6
level_of op.Greater = 6
level_of op.GreaterEqual = 6
level_of op.ShiftLeft = 7
level_of op.ShiftRight = 7
level_of op.Add = 8
level_of op.Subtract = 8
level_of op.Multiply = 9
level_of op.Divide = 9
level_of op.Remainder = 9

-- the level of unary operators and operands
abbrev pub unary_level : ℕ
unary_level = 10

-- the binary operator of a level (XCU 1.1.2.1)
unfoldable pub binary_of : ℕ → Figure → Option Binary
binary_of l (figure.Binary o) = if level_of o == l then Some o else None
binary_of l _ = None

-- the unary operators (XCU 1.1.2.1)
unfoldable pub unary_of : Figure → Option Unary
unary_of (figure.Binary op.Add) = Some unary.Plus
unary_of (figure.Binary op.Subtract) = Some unary.Minus
unary_of figure.Complement = Some unary.Complement
unary_of figure.Not = Some unary.Not
unary_of _ = None

-- an operator that assigns, and the binary one before its `=`, if there is one (XCU 1.1.2.1)
unfoldable pub assignment_of : Figure → Option (Option Binary)
assignment_of (figure.Assign o) = Some o
assignment_of _ = None

-- the byte after a closing parenthesis closes the expansion too (XCU 2.6.4)
unfoldable pub is_closed : List ℕ → ℕ → Bool
is_closed b i = is_first (λ c. c == byte.right_parenthesis) (drop i b)
