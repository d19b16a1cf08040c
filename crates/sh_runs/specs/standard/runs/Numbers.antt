-- Numbers as texts: decimal numerals, and which texts are integer constants. Blanks may be round a
-- value that is computed with, and one of blanks alone is zero.
-- POSIX.1-2024, XCU 2.5.2 (special parameters), 2.6.4 (arithmetic expansion).
use Rattle.std.specs.Prelude.{ℕ, zero, suc, ◌+◌, ◌/◌, ◌%◌, ◌==◌, nat_lt, Bool, true, false, not, ◌&&◌, ◌||◌, if◌then◌else◌, [], ◌∷◌, ◌++◌, length, ℤ, pos, negsuc, Option, Some, None}
use Rattle.std.specs.List.{list_all}
use Rattle.sh_tree.specs.standard.language.Bytes.{is_digit, is_octal, is_hexadecimal, is_in, decimal}
use Rattle.sh_tree.specs.standard.program.Syntax.{Text}
use Rattle.sh_runs.specs.standard.runs.Environment.{blanks}

-- the last digits of a number, at most so many and one
unfoldable pub last_digits : ℕ → ℕ → Text
last_digits zero n = (48 + n % 10) ∷ []
last_digits (suc k) n = if nat_lt n 10 then (48 + n) ∷ [] else last_digits k (n / 10) ++ (48 + n % 10) ∷ []

-- the decimal numeral of a number, as `$#` and `$?` have it (XCU 2.5.2)
abbrev pub digits : ℕ → Text
digits n = last_digits n n

-- that of an integer
unfoldable pub integer_text : ℤ → Text
integer_text (pos n) = digits n
integer_text (negsuc n) = 45 ∷ digits (suc n)

unfoldable pub is_zero : ℤ → Bool
is_zero (pos n) = n == 0
is_zero (negsuc n) = false

-- at least one digit, and decimal digits alone
unfoldable pub is_number : Text → Bool
is_number [] = false
is_number (c ∷ cs) = list_all is_digit (c ∷ cs)

-- the number that a text writes in decimal digits
unfoldable pub number_in : Text → Option ℕ
number_in t = if is_number t then Some (decimal 0 t) else None

-- after a leading zero: octal digits, or `x` and hexadecimal ones (XCU 2.6.4)
unfoldable pub is_behind_zero : Text → Bool
is_behind_zero [] = true
is_behind_zero (c ∷ cs) = list_all is_octal (c ∷ cs) || ((c == 120 || c == 88) && not (length cs == 0) && list_all is_hexadecimal cs)

-- a decimal, octal or hexadecimal constant (XCU 2.6.4)
unfoldable pub is_constant : Text → Bool
is_constant [] = false
is_constant (c ∷ cs) = if c == 48 then is_behind_zero cs else list_all is_digit (c ∷ cs)

-- an integer constant, with or without a sign (XCU 2.6.4)
unfoldable pub is_integer : Text → Bool
is_integer [] = false
is_integer (c ∷ cs) = if c == 43 || c == 45 then is_constant cs else is_constant (c ∷ cs)

-- Values that arithmetic computes with (XCU 2.6.4); the standard says of integer constants alone
-- what they give

-- space, tab and newline
abbrev pub is_blank : ℕ → Bool
is_blank c = is_in blanks c

unfoldable pub behind_blanks : Text → Text
behind_blanks [] = []
behind_blanks (c ∷ cs) = if is_blank c then behind_blanks cs else c ∷ cs

unfoldable pub before_blanks : Text → Text
before_blanks [] = []
before_blanks (c ∷ cs) = if list_all is_blank (c ∷ cs) then [] else c ∷ before_blanks cs

-- the text without the blanks around it
abbrev pub trimmed : Text → Text
trimmed t = before_blanks (behind_blanks t)

-- what an expansion in an expression has to give (XCU 2.6.4): an integer constant
abbrev pub is_operand : Text → Bool
is_operand t = is_integer (trimmed t)

-- what a name in an expression has to have: an integer constant (XCU 2.6.4), or nothing, which is
-- zero
abbrev pub is_computed : Text → Bool
is_computed t = length (trimmed t) == 0 || is_integer (trimmed t)
