-- A certificate has one text, and a text is that of one certificate.
-- The standard has no such thing: what is read of a text and what is written of a certificate are
-- each other's inverse.
use Rattle.std.specs.Prelude.{◌≡◌, nat_le, Bool, true, ◌&&◌, length, Option, Some, None, Ok}
use Rattle.std.specs.List.{list_all}
use Rattle.sh_tree.specs.standard.language.Bytes.{is_name}
use Rattle.sh_tree.specs.standard.program.Syntax.{Text}
use Rattle.sh_domain.specs.Facts.{Claim, Unreached, Claimed}
use Rattle.sh_domain.specs.Forms.{is_variable, are_rising, read_sheet}
use Rattle.sh_domain.specs.Operands.{Names}
use Rattle.sh_domain.specs.Sheets.{Sheet, CommandClaims, FunctionClaims, certificate_text}

-- names in rising byte order, and a count of parameters that a text may have
unfoldable pub is_writable : Claim → Bool
is_writable Unreached = true
is_writable (Claimed vars functions args) = are_rising is_variable vars && are_rising is_name functions && nat_le args 65535

unfoldable pub is_writable_head : Option Claim → Bool
is_writable_head None = true
is_writable_head (Some h) = is_writable h

abbrev pub are_writable : Names → Bool
are_writable d = are_rising is_variable d.vars && are_rising is_name d.functions

abbrev pub is_command : CommandClaims → Bool
is_command c = is_writable c.before && is_writable c.zero && is_writable c.nonzero && is_writable_head c.head

abbrev pub is_function : FunctionClaims → Bool
is_function f = is_writable f.before && are_writable f.drops && is_writable f.zero && is_writable f.nonzero

-- no more commands and functions than a text may have, and each of them writable
pub record IsSheet (s : Sheet) : Type 0 where
  pub commands : list_all is_command s.commands ≡ true
  pub functions : list_all is_function s.functions ≡ true
  pub few_commands : nat_le (length s.commands) 65535 ≡ true
  pub few_functions : nat_le (length s.functions) 65535 ≡ true

-- Whatever reads as claims is their text, to the byte, so no certificate has two texts, and they
-- may be written. What is written reads as what was written, so no text is that of two
-- certificates.
pub record HasOneText : Type 0 where
  pub spelled : (t : Text) (s : Sheet) → read_sheet t ≡ Ok s → certificate_text s ≡ t
  pub one : (t u : Text) (s : Sheet) → read_sheet t ≡ Ok s → read_sheet u ≡ Ok s → t ≡ u
  pub may_be_written : (t : Text) (s : Sheet) → read_sheet t ≡ Ok s → IsSheet s
  pub read_back : (s : Sheet) → IsSheet s → read_sheet (certificate_text s) ≡ Ok s
  pub apart : (s z : Sheet) → IsSheet s → IsSheet z → certificate_text s ≡ certificate_text z → s ≡ z
