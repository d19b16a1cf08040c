-- The class of a byte.
-- POSIX.1-2024, XCU 2.2 (quoting), 2.3 (token recognition).
use Rattle.std.specs.Prelude.{ℕ, if◌then◌else◌, codes}
use Rattle.sh_tree.specs.standard.language.Bytes.{is_in, is_blank, is_newline, is_operator_byte, is_name_start, is_digit}
use Rattle.sh_scan.specs.declared.class.Class.{Class}
use Rattle.sh_scan.specs.declared.class.Class.TheVariants as class

unfoldable pub class_of : ℕ → Class
class_of c =
    if is_blank c then class.Blank
    else (if is_newline c then class.Newline
    else (if is_operator_byte c then class.Operator
    else (if is_name_start c then class.Letter
    else (if is_digit c then class.Digit
    else (if is_in (codes "$`\"'\\") c then class.Quoting
    else class.Other)))))
