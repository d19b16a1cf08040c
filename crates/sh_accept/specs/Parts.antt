-- Whatever the parts of a check answer, one after the other, an answer is allowed.
-- shset's own; the standard has none.
use Rattle.std.specs.Prelude.{◌≡◌, ℕ, List, [], length, None, Some, Ok, Err}
use Rattle.sh_tree.specs.Answers.{Parses}
use Rattle.sh_tree.specs.declared.refusal.Refusal.{Refusal}
use Rattle.sh_tree.specs.declared.tree.Script.{Script}
use Rattle.sh_tree.specs.standard.program.Syntax.{Text}
use Rattle.sh_tree.specs.standard.program.Trees.{script_of}
use Rattle.sh_table.specs.Admits.{Admits}
use Rattle.sh_runs.specs.Profile.{first_refused}
use Rattle.sh_domain.specs.CompactReading.{ReadsGiven, given_claims}
use Rattle.sh_domain.specs.Facts.{Declared, start_facts}
use Rattle.sh_domain.specs.Faults.{Fault, faults, least}
use Rattle.sh_domain.specs.Names.{Numbers}
use Rattle.sh_domain.specs.Sheets.{Sheet}
use Rattle.sh_domain.specs.declared.compact.Given.{Given}
use Rattle.sh_answers.specs.Findings.{AreFindings}
use Rattle.sh_answers.specs.declared.verdict.Report.{Report}
use Rattle.sh_answers.specs.declared.verdict.Verdict.TheVariants.{Pass, Fail, Forged}
use Rattle.sh_domain.specs.Admitted.{IsAdmitted, KeepsRules, claims_in, functions_in}
use Rattle.sh_accept.specs.Accepted.{Gives}
use Rattle.sh_accept.specs.Answers.{Checks, IsCertified, IsUnread, places}

-- The refusal of each part is that of the check. What is read of the text is a certificate's. Of
-- that certificate: without a fault and a place the check passes; with a fault it reports the least
-- one; otherwise it reports the findings.
pub record PartsAnswer (b : List ℕ) (d : Declared) (text : Text) : Type 0 where
  pub unread : (e : Refusal) → IsUnread b e → Checks b d text (Err e)
  pub refused : (t : Script) (e : Refusal) → Parses b (Ok t) → Admits (script_of b t) (Err e) → Checks b d text (Err e)
  pub unnumbered : (t : Script) (e : Refusal) → Parses b (Ok t) → first_refused (script_of b t) ≡ None → Numbers b t d (Err e) → Checks b d text (Err e)
  pub uncertified : (t : Script) (names : List Text) (e : Refusal) → IsAdmitted b d t names → ReadsGiven text t (length (functions_in b t)) names (Err e) → Checks b d text (Err e)
  pub certified : (t : Script) (names : List Text) (g : Given) (c : Sheet) → IsAdmitted b d t names → ReadsGiven text t (length (functions_in b t)) names (Ok g)
      → Gives b t names (given_claims names g) c → IsCertified b d text t c
  pub passes : (t : Script) (c : Sheet) → IsCertified b d text t c → KeepsRules b d t c → places b d t c ≡ [] → Checks b d text (Ok Pass)
  pub forged : (t : Script) (c : Sheet) (f : Fault) → IsCertified b d text t c → least (faults (start_facts d) (claims_in b t c) (script_of b t)) ≡ Some f
      → Checks b d text (Ok (Forged f.number f.rule))
  pub fails : (t : Script) (c : Sheet) (r : Report) → IsCertified b d text t c → KeepsRules b d t c → AreFindings b (places b d t c) r.findings.items
      → Checks b d text (Ok (Fail r))

abbrev pub PartsAlwaysAnswer : Type 0
PartsAlwaysAnswer = (b : List ℕ) (d : Declared) (text : Text) → PartsAnswer b d text
