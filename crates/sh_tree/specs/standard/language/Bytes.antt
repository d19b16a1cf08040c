-- Classes of bytes, and the front of a text.
-- POSIX.1-2024, XBD 3.216 (name), XCU 2.2 (quoting), 2.3 (token recognition), 2.6 (word
-- expansions).
use Rattle.std.specs.Prelude.{ℕ, ◌+◌, ◌*◌, ◌-◌, Bool, false, not, ◌&&◌, ◌||◌, if◌then◌else◌, ◌==◌, List, [], ◌∷◌, ◌++◌, length, drop, take, codes, nat_le, nat_eq, Option, Some, None}
use Rattle.std.specs.List.{take_while, list_any, list_all, starts_with}
use Rattle.sh_tree.specs.standard.language.Characters as byte

-- whether the byte is one of these
abbrev pub is_in : List ℕ → ℕ → Bool
is_in bytes c = list_any (λ d. d == c) bytes

-- a blank of the POSIX locale (XCU 2.3), a space or a tab; other locales may have more
abbrev pub is_blank : ℕ → Bool
is_blank c = c == byte.space || c == byte.tab

abbrev pub is_newline : ℕ → Bool
is_newline c = c == byte.newline

abbrev pub is_tab : ℕ → Bool
is_tab c = c == byte.tab

abbrev pub is_backslash : ℕ → Bool
is_backslash c = c == byte.backslash

-- the first byte of a name: a letter of the portable character set or an underscore (XBD 3.216)
abbrev pub is_name_start : ℕ → Bool
is_name_start c = (nat_le byte.capital_a c && nat_le c byte.capital_z) || (nat_le byte.small_a c && nat_le c byte.small_z) || c == byte.underscore

abbrev pub is_digit : ℕ → Bool
is_digit c = nat_le byte.digit_zero c && nat_le c byte.digit_nine

-- a digit of an octal, and of a hexadecimal constant (XCU 2.6.4)
abbrev pub is_octal : ℕ → Bool
is_octal c = nat_le byte.digit_zero c && nat_le c byte.digit_seven

abbrev pub is_hexadecimal : ℕ → Bool
is_hexadecimal c = is_digit c || (nat_le byte.capital_a c && nat_le c byte.capital_f) || (nat_le byte.small_a c && nat_le c byte.small_f)

-- a name is a letter or an underscore, and letters, underscores and digits (XBD 3.216)
abbrev pub is_name_byte : ℕ → Bool
is_name_byte c = is_name_start c || is_digit c

-- the first byte of an operator (XCU 2.3)
abbrev pub is_operator_byte : ℕ → Bool
is_operator_byte c = is_in (codes "|&;<>()") c

-- a blank, a newline or an operator delimits the token before it (XCU 2.3)
abbrev pub ends_token : ℕ → Bool
ends_token c = is_blank c || is_newline c || is_operator_byte c

-- the text is one backquote: it ends the text of the commands between backquotes (XCU 2.6.3)
unfoldable pub is_last_backquote : List ℕ → Bool
is_last_backquote [] = false
is_last_backquote (c ∷ []) = c == byte.backquote
is_last_backquote (c ∷ d ∷ cs) = false

-- how many bytes of a class are at the front
abbrev pub run : (ℕ → Bool) → List ℕ → ℕ
run p cs = length (take_while p cs)

-- whether there is a first byte, and it is of a class
unfoldable pub is_first : (ℕ → Bool) → List ℕ → Bool
is_first p [] = false
is_first p (c ∷ cs) = p c

-- how long the name at the front is (XBD 3.216)
unfoldable pub name_length : List ℕ → ℕ
name_length cs = if is_first is_name_start cs then run is_name_byte cs else 0

-- the whole text is a name (XBD 3.216)
abbrev pub is_name : List ℕ → Bool
is_name cs = is_first is_name_start cs && list_all is_name_byte cs

-- the number that decimal digits write, after those that write n
unfoldable pub decimal : ℕ → List ℕ → ℕ
decimal n [] = n
decimal n (c ∷ cs) = decimal (n * 10 + (c - byte.digit_zero)) cs

-- The first text of a table that is at the front: what the table says of it, and its length. Longer
-- texts precede shorter ones, so each token is the longest (XCU 2.3).
unfoldable pub longest : {A : Type 0} → List (List ℕ × A) → List ℕ → Option (A × ℕ)
longest [] cs = None
longest (x ∷ xs) cs = if starts_with nat_eq cs x.0 then Some (x.1, length x.0) else longest xs cs

-- how many bytes of line continuations are at the front: each a backslash and a newline (XCU 2.2.1)
unfoldable pub joined_length : List ℕ → ℕ
joined_length [] = 0
joined_length (c ∷ []) = 0
joined_length (c ∷ d ∷ cs) = if is_backslash c && is_newline d then 2 + joined_length cs else 0

-- the text after the line continuations at its front
abbrev pub behind_joined : List ℕ → List ℕ
behind_joined cs = drop (joined_length cs) cs

-- whether a line continuation is at the front (XCU 2.2.1)
abbrev pub is_joined : List ℕ → Bool
is_joined cs = not (joined_length cs == 0)

-- the text without the line continuations after its first n bytes
abbrev pub joined_at : ℕ → List ℕ → List ℕ
joined_at n cs = take n cs ++ behind_joined (drop n cs)
