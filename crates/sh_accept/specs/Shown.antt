-- The text that is shown of a script claims its greatest certificate, and no other one.
-- shset's own; the standard has none.
use Rattle.std.specs.Prelude.{ℕ, Bool, List, Ok, Vec}
use Rattle.std.specs.declared.alloc.Global.{Global}
use Rattle.sh_tree.specs.declared.tree.Script.{Script}
use Rattle.sh_tree.specs.standard.program.Syntax.{Text}
use Rattle.sh_domain.specs.Admitted.{IsAdmitted, IsGreatest}
use Rattle.sh_domain.specs.Compacts.{compact_of_sheet}
use Rattle.sh_domain.specs.Facts.{Claim, Declared}
use Rattle.sh_domain.specs.Filled.{FillsTo}
use Rattle.sh_domain.specs.Sheets.{Sheet}
use Rattle.sh_accept.specs.Answers.{Certifies, IsBest, IsCertified, IsStart}

-- The compact form of the greatest certificate, with what is known at the start, is filled to it.
-- The shown text of either version claims it, and whatever it claims is the greatest certificate.
pub record ShownIsGreatest : Type 0 where
  pub filled : (b : List ℕ) (d : Declared) (t : Script) (names : List Text) (c : Sheet) (start : Claim)
      → IsAdmitted b d t names → IsGreatest b d t names c → IsStart d start → FillsTo b t names (compact_of_sheet start c) c
  pub claimed : (full : Bool) (b : List ℕ) (d : Declared) (v : Vec ℕ Global) (h : Certifies full b d (Ok v)) → IsCertified b d v.items h.0.tree h.0.certificate
  pub only : (full : Bool) (b : List ℕ) (d : Declared) (v : Vec ℕ Global) (t : Script) (c : Sheet) → Certifies full b d (Ok v) → IsCertified b d v.items t c → IsBest b d t c
