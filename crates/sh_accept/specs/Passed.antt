-- What a lint answers, a check answers of the text of the greatest certificate.
-- shset's own; the standard has none.
use Rattle.std.specs.Prelude.{◌≤◌, ℕ, Bool, List, length, Ok, Vec}
use Rattle.std.specs.declared.alloc.Global.{Global}
use Rattle.sh_tree.specs.declared.tree.Script.{Script}
use Rattle.sh_tree.specs.standard.program.Syntax.{Text}
use Rattle.sh_domain.specs.Facts.{Declared}
use Rattle.sh_domain.specs.Sheets.{Sheet}
use Rattle.sh_domain.specs.declared.limits.TheConstants.{MAX_CERTIFICATE}
use Rattle.sh_answers.specs.declared.verdict.Report.{Report}
use Rattle.sh_answers.specs.declared.verdict.Verdict.TheVariants.{Pass, Fail}
use Rattle.sh_accept.specs.Accepted.{IsAccepted}
use Rattle.sh_accept.specs.Answers.{Checks, IsBest, IsTextOf, Lints, Certifies}

-- If the greatest certificate is accepted, a check of its text passes, in full or in its compact
-- form, if that is within its limit. So if a lint passes, a check of the text that is shown does.
-- If a lint has findings, a check of that text has the same ones.
pub record LintedIsChecked : Type 0 where
  pub best : (full : Bool) (b : List ℕ) (d : Declared) (t : Script) (c : Sheet) (text : Text) → IsBest b d t c → IsAccepted b d c → IsTextOf full d c text → length text ≤ MAX_CERTIFICATE
      → Checks b d text (Ok Pass)
  pub shown : (full : Bool) (b : List ℕ) (d : Declared) (v : Vec ℕ Global) → Lints b d (Ok Pass) → Certifies full b d (Ok v) → Checks b d v.items (Ok Pass)
  pub failed : (full : Bool) (b : List ℕ) (d : Declared) (v : Vec ℕ Global) (r : Report) → Lints b d (Ok (Fail r)) → Certifies full b d (Ok v) → Checks b d v.items (Ok (Fail r))
