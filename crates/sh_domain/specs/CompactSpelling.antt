-- A compact certificate has one text, and a text is that of one.
-- The standard has no such thing: what is read of a text and what is written of a compact
-- certificate are each other's inverse.
use Rattle.std.specs.Prelude.{◌≡◌, ℕ, ◌+◌, nat_le, Bool, true, ◌&&◌, List, [], ◌∷◌, length, Ok}
use Rattle.std.specs.List.{list_all}
use Rattle.sh_tree.specs.standard.program.Syntax.{Text}
use Rattle.sh_domain.specs.CompactForms.{read_compact_sheet}
use Rattle.sh_domain.specs.Compacts.{CompactSheet, compact_text}
use Rattle.sh_domain.specs.Facts.{Claim}
use Rattle.sh_domain.specs.Spelling.{is_writable, is_function}

-- rising numbers from the least on, each with a writable claim
unfoldable pub turns_rise : ℕ → List (ℕ × Claim) → Bool
turns_rise least [] = true
turns_rise least (h ∷ hs) = nat_le least h.0 && nat_le h.0 65535 && is_writable h.1 && turns_rise (h.0 + 1) hs

-- no more commands, loops and functions than a text may have, and each of them writable
pub record IsCompactSheet (s : CompactSheet) : Type 0 where
  pub start : is_writable s.start ≡ true
  pub heads : turns_rise 0 s.heads ≡ true
  pub functions : list_all is_function s.functions ≡ true
  pub few_commands : nat_le s.commands 65535 ≡ true
  pub few_heads : nat_le (length s.heads) 65535 ≡ true
  pub few_functions : nat_le (length s.functions) 65535 ≡ true

-- Whatever reads as a compact certificate is its text, to the byte, so none has two texts, and it
-- may be written. What is written reads as what was written, so no text is that of two.
pub record CompactHasOneText : Type 0 where
  pub spelled : (t : Text) (s : CompactSheet) → read_compact_sheet t ≡ Ok s → compact_text s ≡ t
  pub one : (t u : Text) (s : CompactSheet) → read_compact_sheet t ≡ Ok s → read_compact_sheet u ≡ Ok s → t ≡ u
  pub may_be_written : (t : Text) (s : CompactSheet) → read_compact_sheet t ≡ Ok s → IsCompactSheet s
  pub read_back : (s : CompactSheet) → IsCompactSheet s → read_compact_sheet (compact_text s) ≡ Ok s
  pub apart : (s z : CompactSheet) → IsCompactSheet s → IsCompactSheet z → compact_text s ≡ compact_text z → s ≡ z
