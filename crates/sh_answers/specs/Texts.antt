-- The texts of answers, and their exit statuses.
-- shset's own; the standard has none.
use Rattle.std.specs.Prelude.{◌≡◌, ◌⊎◌, ℕ, zero, suc, List, [], ◌∷◌, ◌++◌, length, map, codes, Option, Some, None, Result, Ok, Err}
use Rattle.std.specs.List.{flat_map}
use Rattle.std.specs.Fmt.{decimal}
use Rattle.sh_tree.specs.declared.place.Code.{Code}
use Rattle.sh_tree.specs.declared.place.Code.TheVariants.{P1, P2, Q1, U1, U2, U3}
use Rattle.sh_tree.specs.declared.refusal.Refusal.{Refusal}
use Rattle.sh_tree.specs.declared.refusal.Refusal.TheVariants.{TooLong, NulByte, Syntax, LeftOut, TooDeep, TooMany, Memory, Profile, CertSyntax, CertShape}
use Rattle.sh_tree.specs.standard.Texts as tree_text
use Rattle.sh_scan.specs.Places.{place_of}
use Rattle.sh_domain.specs.declared.rule.FlowRule.{FlowRule}
use Rattle.sh_domain.specs.declared.rule.FlowRule.TheVariants.{F1, F2, F3, F4, F5, F6, F7, F8, F9, F10, F11, F12, F13, F14, F15}
use Rattle.sh_answers.specs.declared.verdict.Verdict.{Verdict}
use Rattle.sh_answers.specs.declared.verdict.Verdict.TheVariants.{Pass, Fail, Forged}
use Rattle.sh_answers.specs.Verdicts.{Contents, contents_of}

abbrev pub code_text : Code → List ℕ
code_text P1 = codes "P1"
code_text P2 = codes "P2"
code_text Q1 = codes "Q1"
code_text U1 = codes "U1"
code_text U2 = codes "U2"
code_text U3 = codes "U3"

-- the subject and the words after it, if it is shown
abbrev pub subject_shown : List ℕ → Option (List ℕ) → List ℕ
subject_shown s None = []
subject_shown s (Some after) = s ++ after

abbrev pub message_text : Code → List ℕ → List ℕ
message_text P1 s = codes "may unset " ++ s ++ codes " inside a pipeline"
message_text P2 s = codes "changes the positional parameters inside a pipeline"
message_text Q1 s = codes "unquoted expansion"
message_text U1 s = codes "parameter " ++ s ++ codes " may be unset"
message_text U2 s = codes "HOME may be unset"
message_text U3 s = codes "parameter " ++ s ++ codes " may be unset in arithmetic"

-- `LINE:COLUMN: `
abbrev pub place_text : ℕ → ℕ → List ℕ
place_text line column = decimal line ++ codes ":" ++ decimal column ++ codes ": "

-- `LINE:COLUMN: CODE message`, and a newline
abbrev pub finding_text : Contents → List ℕ
finding_text f = place_text f.line f.column ++ code_text f.code ++ codes " " ++ message_text f.code f.subject ++ 10 ∷ []

-- the last line, by how many findings there are
abbrev pub last_line : ℕ → List ℕ
last_line zero = codes "clean" ++ 10 ∷ []
last_line (suc n) = codes "findings: " ++ decimal (suc n) ++ 10 ∷ []

abbrev pub report_text : List Contents → List ℕ
report_text fs = flat_map finding_text fs ++ last_line (length fs)

abbrev pub rule_name_text : FlowRule → List ℕ
rule_name_text F1 = codes "F1"
rule_name_text F2 = codes "F2"
rule_name_text F3 = codes "F3"
rule_name_text F4 = codes "F4"
rule_name_text F5 = codes "F5"
rule_name_text F6 = codes "F6"
rule_name_text F7 = codes "F7"
rule_name_text F8 = codes "F8"
rule_name_text F9 = codes "F9"
rule_name_text F10 = codes "F10"
rule_name_text F11 = codes "F11"
rule_name_text F12 = codes "F12"
rule_name_text F13 = codes "F13"
rule_name_text F14 = codes "F14"
rule_name_text F15 = codes "F15"

abbrev pub forged_text : ℕ → FlowRule → List ℕ
forged_text command rule = codes "forged: command " ++ decimal command ++ (codes " breaks " ++ rule_name_text rule ++ 10 ∷ [])

abbrev pub verdict_text : Verdict → List ℕ
verdict_text Pass = report_text []
verdict_text (Fail report) = report_text (map contents_of report.findings.items)
verdict_text (Forged command rule) = forged_text command rule

-- how a refusal at an offset of the script begins
abbrev pub refused_place : List ℕ → ℕ → List ℕ
refused_place script at =
    let p = place_of script at in
    codes "refused " ++ place_text p.0 p.1

abbrev pub refused_text : List ℕ → ℕ → List ℕ → List ℕ
refused_text script at reason = refused_place script at ++ reason ++ 10 ∷ []

abbrev pub malformed_text : ℕ → List ℕ
malformed_text line = codes "refused certificate line " ++ decimal line ++ codes ": malformed" ++ 10 ∷ []

-- the refusal that memory ran out has no text
abbrev pub refusal_text : List ℕ → Refusal → List ℕ
refusal_text script TooLong = codes "refused: the script is longer than 1048576 bytes" ++ 10 ∷ []
refusal_text script (NulByte at) = refused_text script at (codes "a NUL byte")
refusal_text script (Syntax fault at) = refused_text script at (tree_text.fault_text fault)
refusal_text script (LeftOut form at) = refused_text script at (tree_text.form_text form)
refusal_text script (TooDeep at) = refused_text script at (codes "nested too deep")
refusal_text script TooMany = codes "refused: too many commands or names" ++ 10 ∷ []
refusal_text script Memory = []
refusal_text script (Profile rule at) = refused_text script at (tree_text.rule_text rule)
refusal_text script (CertSyntax line) = malformed_text line
refusal_text script CertShape = codes "refused certificate: does not fit the script" ++ 10 ∷ []

abbrev pub answer_text : List ℕ → Result Verdict Refusal → List ℕ
answer_text script (Ok verdict) = verdict_text verdict
answer_text script (Err refusal) = refusal_text script refusal

-- 0 clean, 1 findings or forged, 2 refused, 3 out of memory
abbrev pub status_of : Result Verdict Refusal → ℕ
status_of (Ok Pass) = 0
status_of (Ok (Fail report)) = 1
status_of (Ok (Forged command rule)) = 1
status_of (Err TooLong) = 2
status_of (Err (NulByte at)) = 2
status_of (Err (Syntax fault at)) = 2
status_of (Err (LeftOut form at)) = 2
status_of (Err (TooDeep at)) = 2
status_of (Err TooMany) = 2
status_of (Err Memory) = 3
status_of (Err (Profile rule at)) = 2
status_of (Err (CertSyntax line)) = 2
status_of (Err CertShape) = 2

-- the text of a pass is that of no other answer, nor is its status
abbrev pub CleanIsPass : Type 0
CleanIsPass = (script : List ℕ) (r : Result Verdict Refusal) → (answer_text script r ≡ codes "clean" ++ 10 ∷ []) ⊎ (status_of r ≡ 0) → r ≡ Ok Pass
