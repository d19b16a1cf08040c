-- That each place is reported once, among those of a certificate and among the findings of a
-- report.
-- POSIX.1-2024, XCU 2.6 (word expansions), 2.9 (shell commands).
use Rattle.std.specs.Prelude.{ℕ, List, map, Ok}
use Rattle.sh_tree.specs.Answers.{Parses}
use Rattle.sh_tree.specs.declared.tree.Script.{Script}
use Rattle.sh_tree.specs.standard.program.Syntax.{Text}
use Rattle.sh_reads.specs.Spots.{EachOnce}
use Rattle.sh_domain.specs.Facts.{Declared}
use Rattle.sh_domain.specs.Sheets.{Sheet}
use Rattle.sh_answers.specs.Verdicts.{contents_of}
use Rattle.sh_answers.specs.declared.verdict.Report.{Report}
use Rattle.sh_answers.specs.declared.verdict.Verdict.TheVariants.{Fail}
use Rattle.sh_accept.specs.Answers.{Checks, Lints, places}

pub record PlacesStandOnce : Type 0 where
  pub told : (b : List ℕ) (d : Declared) (t : Script) (c : Sheet) → Parses b (Ok t) → EachOnce (places b d t c)
  pub checked : (b : List ℕ) (d : Declared) (text : Text) (r : Report) → Checks b d text (Ok (Fail r)) → EachOnce (map contents_of r.findings.items)
  pub linted : (b : List ℕ) (d : Declared) (r : Report) → Lints b d (Ok (Fail r)) → EachOnce (map contents_of r.findings.items)
