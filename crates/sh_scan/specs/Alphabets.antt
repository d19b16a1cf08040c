-- The bytes of which names and constants are made.
-- POSIX.1-2024, XBD 3.216 (name), XCU 1.1.2.1 (constants).
use Rattle.std.specs.Prelude.{ℕ, Bool}
use Rattle.sh_tree.specs.standard.language.Bytes.{is_digit, is_octal, is_hexadecimal, is_name_byte}
use Rattle.sh_scan.specs.declared.arithmetic.alphabets.Alphabet.{Alphabet}
use Rattle.sh_scan.specs.declared.arithmetic.alphabets.Alphabet.TheVariants.{Name, Decimal, Octal, Hexadecimal}

abbrev pub belongs : Alphabet → (ℕ → Bool)
belongs Name = is_name_byte
belongs Decimal = is_digit
belongs Octal = is_octal
belongs Hexadecimal = is_hexadecimal
