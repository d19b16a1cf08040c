-- Rows and the names of their numbers, and the texts that are kept of rows.
-- The standard has no such thing: rows of the numbers of names.
use Rattle.std.specs.Prelude.{◌≡◌, ℕ, List, Option, Some}
use Rattle.std.specs.Global.{Vec}
use Rattle.sh_tree.specs.standard.program.Syntax.{Text}
use Rattle.sh_domain.specs.Certificates.{in_byte_order, names_at}
use Rattle.sh_domain.specs.KeptRows.{KeptRows}
use Rattle.sh_domain.specs.Sheets.{names_text}

pub record NamedRows : Type 0 where
  pub names : List Text
  pub rows : KeptRows

-- each text that is kept is that of the row of its place
pub record AreTexts (names : List Text) (rows : KeptRows) (kept : ℕ → Option (Vec ℕ)) : Type 0 where
  pub texts : (i : ℕ) (t : Vec ℕ) → kept i ≡ Some t → t.items ≡ names_text (names_at (in_byte_order names) rows (record { index = i }))
