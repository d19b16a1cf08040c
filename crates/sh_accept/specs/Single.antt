-- A script has at most one greatest certificate. So it has at most one answer if no certificate is
-- given, and one text that is shown.
-- shset's own; the standard has none.
use Rattle.std.specs.Prelude.{◌≡◌, ℕ, Bool, true, List, Result, Ok, Vec}
use Rattle.std.specs.declared.alloc.Global.{Global}
use Rattle.sh_tree.specs.declared.refusal.Refusal.{Refusal}
use Rattle.sh_tree.specs.declared.tree.Script.{Script}
use Rattle.sh_tree.specs.standard.program.Syntax.{Text}
use Rattle.sh_domain.specs.Facts.{Declared}
use Rattle.sh_domain.specs.Sheets.{Sheet}
use Rattle.sh_answers.specs.declared.verdict.Verdict.{Verdict}
use Rattle.sh_accept.specs.Answers.{IsBest, Lints, Certifies}
use Rattle.sh_accept.specs.Computed.{IsRead, shown, is_told}

pub record HasOneGreatest : Type 0 where
  pub one : (b : List ℕ) (d : Declared) (t : Script) (names : List Text) (loops : List Bool) (c other : Sheet)
      → IsRead b d t names loops → IsBest b d t c → IsBest b d t other → c ≡ other
  pub linted : (b : List ℕ) (d : Declared) (t : Script) (names : List Text) (loops : List Bool) (x y : Result Verdict Refusal)
      → IsRead b d t names loops → Lints b d x → Lints b d y → is_told x ≡ true → is_told y ≡ true → shown x ≡ shown y
  pub certified : (full : Bool) (b : List ℕ) (d : Declared) (t : Script) (names : List Text) (loops : List Bool) (v w : Vec ℕ Global)
      → IsRead b d t names loops → Certifies full b d (Ok v) → Certifies full b d (Ok w) → v.items ≡ w.items
