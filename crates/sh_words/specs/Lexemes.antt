-- The tokens of arithmetic, as a builder uses them.
-- POSIX.1-2024, XCU 2.6.4 (arithmetic expansion).
use Rattle.std.specs.Prelude.{◌≡◌, ◌≢◌, ◌<◌, ◌≤◌, ℕ, Bool, true, false, List, length, Option, Some, None}
use Rattle.sh_tree.specs.declared.tree.Binary.{Binary}
use Rattle.sh_tree.specs.declared.tree.Expr.{Expr}
use Rattle.sh_tree.specs.declared.tree.Expr.TheVariants as expr
use Rattle.sh_tree.specs.declared.tree.Span.{Span}
use Rattle.sh_tree.specs.declared.token.arithmetic.Figure.{Figure}
use Rattle.sh_tree.specs.declared.token.arithmetic.Figure.TheVariants as figure
use Rattle.sh_tree.specs.declared.token.arithmetic.Lexeme.{Lexeme}
use Rattle.sh_tree.specs.standard.language.Arithmetic.{lexeme, assignment_of}
use Rattle.sh_tree.specs.standard.language.Trees.{span}
use Rattle.sh_scan.specs.Moves.{reads_figure}

-- the token at or after i, in the text
abbrev pub IsLexeme : List ℕ → ℕ → Lexeme → Type 0
IsLexeme b i l =
    (l ≡ lexeme b i) × (i ≤ l.start) × (l.start ≤ l.end) × (l.end ≤ length b) × (l.figure ≢ figure.End → l.start < length b)
    × (reads_figure l.figure ≡ true → l.start < l.end)

abbrev pub span_of : Lexeme → Span
span_of l = span l.start l.end

-- the operator of an assignment that begins with the two tokens
unfoldable pub assigned : Figure → Figure → Option (Option Binary)
assigned figure.Name g = assignment_of g
assigned _ g = None

-- the operand that such a token is, if it is a whole one
unfoldable pub operand_of : Figure → Span → Option Expr
operand_of figure.Constant s = Some (expr.Constant s)
operand_of figure.Name s = Some (expr.Variable s)
operand_of _ s = None

abbrev pub is_open : Figure → Bool
is_open figure.Open = true
is_open _ = false

abbrev pub is_dollar : Figure → Bool
is_dollar figure.Dollar = true
is_dollar _ = false

abbrev pub is_colon : Figure → Bool
is_colon figure.Colon = true
is_colon _ = false

abbrev pub is_close : Figure → Bool
is_close figure.Close = true
is_close _ = false

-- such a token may follow an expression
abbrev pub follows : Figure → Bool
follows (figure.Binary o) = true
follows figure.Question = true
follows figure.Colon = true
follows figure.Close = true
follows _ = false

-- an operand may begin with such a token
abbrev pub begins_operand : Figure → Bool
begins_operand figure.Dollar = true
begins_operand figure.Name = true
begins_operand figure.Constant = true
begins_operand _ = false
