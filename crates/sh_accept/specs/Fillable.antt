-- What is read of a compact certificate's text may be filled.
-- shset's own; the standard has none.
use Rattle.std.specs.Prelude.{◌≡◌, ℕ, Bool, true, List, length, Ok}
use Rattle.sh_tree.specs.declared.tree.Script.{Script}
use Rattle.sh_tree.specs.standard.program.Syntax.{Text}
use Rattle.sh_domain.specs.declared.compact.Compact.{Compact}
use Rattle.sh_domain.specs.declared.compact.Given.TheVariants as given
use Rattle.sh_domain.specs.Admitted.{IsAdmitted, functions_in}
use Rattle.sh_domain.specs.Certificates.{in_byte_order}
use Rattle.sh_domain.specs.CompactReading.{ReadsGiven}
use Rattle.sh_domain.specs.Compacts.{CompactSheet, compact_claims, stated_sheet}
use Rattle.sh_domain.specs.Facts.{Declared}
use Rattle.sh_domain.specs.Reading.{AreLoops, fits}
use Rattle.sh_domain.specs.Spelling.{IsSheet, is_writable}

-- what a compact certificate states fits the script, and may be written
pub record IsFillable (b : List ℕ) (t : Script) (names : List Text) (s : CompactSheet) : Type 0 where
  pub fit : (loops : List Bool) → AreLoops t loops → fits names loops (length (functions_in b t)) (stated_sheet s) ≡ true
  pub spelled : IsSheet (stated_sheet s)
  pub started : is_writable s.start ≡ true

abbrev pub ReadIsFillable : Type 0
ReadIsFillable =
    (b : List ℕ) (d : Declared) (t : Script) (names : List Text) (text : Text) (k : Compact) → IsAdmitted b d t names
    → ReadsGiven text t (length (functions_in b t)) names (Ok (given.Compact k)) → IsFillable b t names (compact_claims (in_byte_order names) k)
