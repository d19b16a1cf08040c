-- Where a refusal is reported: inside the script's text.
-- POSIX.1-2024, XCU 2.3 (token recognition), 2.10 (shell grammar).
use Rattle.std.specs.Prelude.{◌<◌, ◌≤◌, ℕ, Bool, List, length, Err}
use Rattle.sh_tree.specs.declared.refusal.Refusal.{Refusal}
use Rattle.sh_tree.specs.declared.refusal.Refusal.TheVariants.{NulByte, Syntax, LeftOut, TooDeep, Profile}
use Rattle.sh_tree.specs.standard.program.Syntax.{Text}
use Rattle.sh_domain.specs.Facts.{Declared}
use Rattle.sh_accept.specs.Answers.{Checks, Lints, Certifies}

-- The place of a refusal, if it has one, is before the end of the text. A fault of syntax and a
-- level too many may be reported at its end.
abbrev pub IsInside : List ℕ → Refusal → Type 0
IsInside b (NulByte at) = at < length b
IsInside b (Syntax f at) = at ≤ length b
IsInside b (LeftOut f at) = at < length b
IsInside b (TooDeep at) = at ≤ length b
IsInside b (Profile r at) = at < length b
IsInside b _ = Unit {0}

-- So is that of every refusal that may be answered.
pub record RefusalsStandInside : Type 0 where
  pub checked : (b : List ℕ) (d : Declared) (text : Text) (r : Refusal) → Checks b d text (Err r) → IsInside b r
  pub linted : (b : List ℕ) (d : Declared) (r : Refusal) → Lints b d (Err r) → IsInside b r
  pub certified : (full : Bool) (b : List ℕ) (d : Declared) (r : Refusal) → Certifies full b d (Err r) → IsInside b r
