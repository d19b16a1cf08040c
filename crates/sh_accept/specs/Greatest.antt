-- What the greatest certificate is good for: it leaves no place unmet that another one meets. So
-- some certificate is accepted only if the greatest is.
-- shset's own; the standard has none.
use Rattle.std.specs.Prelude.{◌≡◌, ℕ, Bool, true, List, Ok}
use Rattle.std.specs.List.{list_any}
use Rattle.sh_tree.specs.declared.place.Place.{Place}
use Rattle.sh_tree.specs.declared.tree.Script.{Script}
use Rattle.sh_tree.specs.standard.program.Syntax.{Text}
use Rattle.sh_domain.specs.Facts.{Declared}
use Rattle.sh_domain.specs.Sheets.{Sheet}
use Rattle.sh_answers.specs.declared.verdict.Report.{Report}
use Rattle.sh_answers.specs.declared.verdict.Verdict.TheVariants.{Fail}
use Rattle.sh_domain.specs.Admitted.{Fits, KeepsRules}
use Rattle.sh_accept.specs.Accepted.{IsAccepted}
use Rattle.sh_domain.specs.Admitted.{IsGreatest}
use Rattle.sh_accept.specs.Answers.{IsBest, Lints, places}

-- any test that some first place passes, some second place passes
abbrev pub AreAmong : List Place → List Place → Type 0
AreAmong ps qs = (test : Place → Bool) → list_any test ps ≡ true → list_any test qs ≡ true

pub record GreatestIsBest : Type 0 where
  pub fewest : (b : List ℕ) (d : Declared) (t : Script) (names : List Text) (c other : Sheet)
      → IsGreatest b d t names c → Fits b t names other → KeepsRules b d t other → AreAmong (places b d t c) (places b d t other)
  pub accepted : (b : List ℕ) (d : Declared) (t : Script) (c other : Sheet) → IsBest b d t c → IsAccepted b d other → IsAccepted b d c
  pub failed : (b : List ℕ) (d : Declared) (r : Report) (other : Sheet) → Lints b d (Ok (Fail r)) → IsAccepted b d other → ⊥
