-- Any other answer's text is empty or longer than `clean`.
use Rattle.std.proofs.Common.{◌≡◌, inl, inr, ℕ, zero, suc, ◌+◌, ◌<◌, List, [], ◌∷◌, ◌++◌, length, map, codes, Result, Ok, Err, refl, ap, arith, length-append}
use Rattle.std.specs.Fmt.{decimal}
use Rattle.std.specs.List.{flat_map}
use Rattle.std.proofs.lemmas.List.{length-map}
use Rattle.sh_tree.specs.declared.refusal.Refusal.{Refusal}
use Rattle.sh_tree.specs.declared.refusal.Refusal.TheVariants.{TooLong, NulByte, Syntax, LeftOut, TooDeep, TooMany, Memory, Profile, CertSyntax, CertShape}
use Rattle.sh_tree.specs.standard.Texts as tree_text
use Rattle.sh_answers.specs.declared.verdict.Report.{Report}
use Rattle.sh_answers.specs.declared.verdict.Verdict.{Verdict}
use Rattle.sh_answers.specs.declared.verdict.Verdict.TheVariants.{Pass, Fail, Forged}
use Rattle.sh_answers.specs.Verdicts.{Contents, contents_of}
use Rattle.sh_answers.specs.Texts.{CleanIsPass, answer_text, finding_text, last_line, refused_place, refused_text, status_of, verdict_text}

longer : (k : ℕ) (a b : List ℕ) → length a ≡ k → 6 < k → 6 < length (a ++ b)
longer k a b e l = let both = length-append a b in omega arith

refused_longer : (script : List ℕ) (at : ℕ) (reason : List ℕ) → 6 < length (refused_text script at reason)
refused_longer script at reason =
    let front = length-append (refused_place script at) (reason ++ 10 ∷ []) in
    let place : 6 < length (refused_place script at) = longer 8 (codes "refused ") _ refl (omega arith) in
    omega arith

last_longer : (n : ℕ) → 0 < n → 6 < length (last_line n)
last_longer zero l = absurd (omega arith)
last_longer (suc n) l = longer 10 (codes "findings: ") (decimal (suc n) ++ 10 ∷ []) refl (omega arith)

report_longer : (report : Report) → 6 < length (verdict_text (Fail report))
report_longer report =
    let fs : List Contents = map contents_of report.findings.items in
    let same : length fs ≡ length report.findings.items = length-map report.findings.items contents_of in
    let some : 0 < length report.findings.items = report.some in
    let last : 6 < length (last_line (length fs)) = last_longer (length fs) (omega arith) in
    let both = length-append (flat_map finding_text fs) (last_line (length fs)) in
    omega arith

module _ (script : List ℕ) where
  by_text : (r : Result Verdict Refusal) → length (answer_text script r) ≡ 6 → r ≡ Ok Pass
  by_text (Ok Pass) h = refl
  by_text (Ok (Fail report)) h = let long = report_longer report in absurd (omega arith)
  by_text (Ok (Forged command rule)) h =
      let long : 6 < length (verdict_text (Forged command rule)) = longer 16 (codes "forged: command ") _ refl (omega arith) in
      absurd (omega arith)
  by_text (Err TooLong) h = absurd (omega arith)
  by_text (Err (NulByte at)) h = let long = refused_longer script at (codes "a NUL byte") in absurd (omega arith)
  by_text (Err (Syntax fault at)) h = let long = refused_longer script at (tree_text.fault_text fault) in absurd (omega arith)
  by_text (Err (LeftOut form at)) h = let long = refused_longer script at (tree_text.form_text form) in absurd (omega arith)
  by_text (Err (TooDeep at)) h = let long = refused_longer script at (codes "nested too deep") in absurd (omega arith)
  by_text (Err TooMany) h = absurd (omega arith)
  by_text (Err Memory) h = absurd (omega arith)
  by_text (Err (Profile rule at)) h = let long = refused_longer script at (tree_text.rule_text rule) in absurd (omega arith)
  by_text (Err (CertSyntax line)) h =
      let long = longer 25 (codes "refused certificate line ") (decimal line ++ codes ": malformed" ++ 10 ∷ []) refl (omega arith) in
      absurd (omega arith)
  by_text (Err CertShape) h = absurd (omega arith)

  by_status : (r : Result Verdict Refusal) → status_of r ≡ 0 → r ≡ Ok Pass
  by_status (Ok Pass) h = refl
  by_status (Ok (Fail report)) h = absurd (omega arith)
  by_status (Ok (Forged command rule)) h = absurd (omega arith)
  by_status (Err TooLong) h = absurd (omega arith)
  by_status (Err (NulByte at)) h = absurd (omega arith)
  by_status (Err (Syntax fault at)) h = absurd (omega arith)
  by_status (Err (LeftOut form at)) h = absurd (omega arith)
  by_status (Err (TooDeep at)) h = absurd (omega arith)
  by_status (Err TooMany) h = absurd (omega arith)
  by_status (Err Memory) h = absurd (omega arith)
  by_status (Err (Profile rule at)) h = absurd (omega arith)
  by_status (Err (CertSyntax line)) h = absurd (omega arith)
  by_status (Err CertShape) h = absurd (omega arith)

pub clean_is_pass : CleanIsPass
clean_is_pass script r (inl text) = by_text script r (ap length text)
clean_is_pass script r (inr status) = by_status script r status
