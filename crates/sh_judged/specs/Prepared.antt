-- A script that is admitted, as it is kept.
-- shset's own; the standard has none.
use Rattle.std.specs.Prelude.{◌≡◌, ℕ, List, length, Result, Ok, Err}
use Rattle.sh_tree.specs.declared.refusal.Refusal.{Refusal}
use Rattle.sh_tree.specs.standard.program.Syntax.{Text}
use Rattle.sh_runs.specs.Calls.{table_of}
use Rattle.sh_domain.specs.Certificates.{in_byte_order, sheet_of}
use Rattle.sh_domain.specs.CompactReading.{ReadsGiven}
use Rattle.sh_domain.specs.Compacts.{compact_claims, compact_of_sheet}
use Rattle.sh_domain.specs.Facts.{Claim, Declared}
use Rattle.sh_domain.specs.Sheets.{Sheet}
use Rattle.sh_domain.specs.declared.certificate.Certificate.{Certificate}
use Rattle.sh_domain.specs.declared.compact.Compact.{Compact}
use Rattle.sh_domain.specs.declared.compact.Given.{Given}
use Rattle.sh_domain.specs.Admitted.{IsAdmitted, IsGreatest}
use Rattle.sh_accept.specs.Answers.{IsCertified, IsStart, Refuses, RefusesText}
use Rattle.sh_judged.specs.declared.prepared.Prepared.{Prepared}

-- the tree is admitted with these names, and this is its table
pub record IsPrepared (b : List ℕ) (d : Declared) (p : Prepared) : Type 0 where
  pub table : p.table ≡ table_of b p.tree
  pub admitted : IsAdmitted b d p.tree p.names

-- what a certificate over its names claims
abbrev pub sheet_in : Prepared → Certificate → Sheet
sheet_in p c = sheet_of (in_byte_order p.names) c

-- the text is that of a certificate which fits the script, or is refused
abbrev pub AnswersText : List ℕ → Declared → Text → Prepared → Result Certificate Refusal → Type 0
AnswersText b d text p (Ok c) = IsCertified b d text p.tree (sheet_in p c)
AnswersText b d text p (Err r) = Refuses b d (RefusesText b d text) r

-- it was read of some text
abbrev pub IsRead : Prepared → Given → Type 0
IsRead p g = (text : Text) × ReadsGiven text p.tree (length p.table.functions.names) p.names (Ok g)

-- it states what the compact form of the greatest certificate does
pub record StatesGreatest (b : List ℕ) (d : Declared) (p : Prepared) (k : Compact) : Type 0 where
  pub certificate : Sheet
  pub greatest : IsGreatest b d p.tree p.names certificate
  pub start : Claim
  pub known : IsStart d start
  pub states : compact_claims (in_byte_order p.names) k ≡ compact_of_sheet start certificate
