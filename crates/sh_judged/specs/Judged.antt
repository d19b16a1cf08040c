-- What is reported of a certificate that fits a script.
-- shset's own; the standard has none.
use Rattle.std.specs.Prelude.{◌≡◌, ◌<◌, ℕ, List, [], length, Some}
use Rattle.sh_tree.specs.declared.tree.Script.{Script}
use Rattle.sh_tree.specs.standard.program.Trees.{script_of}
use Rattle.sh_domain.specs.Facts.{Declared, start_facts}
use Rattle.sh_domain.specs.Faults.{faults, least}
use Rattle.sh_domain.specs.Sheets.{Sheet}
use Rattle.sh_answers.specs.Findings.{AreFindings}
use Rattle.sh_answers.specs.declared.verdict.Verdict.{Verdict}
use Rattle.sh_answers.specs.declared.verdict.Verdict.TheVariants.{Pass, Fail, Forged}
use Rattle.sh_domain.specs.Admitted.{KeepsRules, claims_in}
use Rattle.sh_accept.specs.Answers.{places}

-- the least fault; or the findings, if there is no fault; or a pass, if there is no place either
abbrev pub Judges : List ℕ → Declared → Script → Sheet → Verdict → Type 0
Judges b d t c Pass = KeepsRules b d t c × (places b d t c ≡ [])
Judges b d t c (Fail r) = KeepsRules b d t c × AreFindings b (places b d t c) r.findings.items
Judges b d t c (Forged k f) = least (faults (start_facts d) (claims_in b t c) (script_of b t)) ≡ Some (record { number = k; rule = f })

-- no rule is broken, and there is a place to report
abbrev pub TellsSome : List ℕ → Declared → Script → Sheet → Type 0
TellsSome b d t c = KeepsRules b d t c × (0 < length (places b d t c))
