-- What may be answered of a script: of a certificate of it, of all its certificates, which
-- certificate is shown, and how it is printed.
-- shset's own; the standard has none.
use Rattle.std.specs.Prelude.{◌≡◌, ◌≤◌, ◌<◌, ◌⊎◌, ℕ, Bool, true, false, List, ◌++◌, length, None, Some, Result, Ok, Err, Vec}
use Rattle.std.specs.declared.alloc.Global.{Global}
use Rattle.sh_tree.specs.Answers.{IsText, Parses}
use Rattle.sh_tree.specs.declared.place.Place.{Place}
use Rattle.sh_tree.specs.declared.refusal.Refusal.{Refusal}
use Rattle.sh_tree.specs.declared.refusal.Refusal.TheVariants.{TooLong, NulByte, Syntax, LeftOut, TooDeep, TooMany, Memory, Profile, CertSyntax, CertShape}
use Rattle.sh_tree.specs.declared.tree.Script.{Script}
use Rattle.sh_tree.specs.standard.program.Syntax.{Text}
use Rattle.sh_tree.specs.standard.program.Trees.{script_of}
use Rattle.sh_grammar.specs.Faults.{TellsLimit, TellsMisplaced, TellsPending}
use Rattle.sh_table.specs.Admits.{Admits}
use Rattle.sh_runs.specs.Profile.{first_refused}
use Rattle.sh_domain.specs.CompactReading.{ReadsGiven}
use Rattle.sh_domain.specs.Demands.{demands}
use Rattle.sh_domain.specs.Compacts.{compact_of_sheet, compact_text}
use Rattle.sh_domain.specs.Facts.{Claim, Declared, facts, start_facts}
use Rattle.sh_domain.specs.Faults.{faults, least}
use Rattle.sh_domain.specs.Names.{Numbers}
use Rattle.sh_domain.specs.Sheets.{Sheet, certificate_text}
use Rattle.sh_domain.specs.Spelling.{is_writable}
use Rattle.sh_domain.specs.declared.limits.TheConstants.{MAX_CERTIFICATE}
use Rattle.sh_domain.specs.declared.rule.FlowRule.{FlowRule}
use Rattle.sh_quote.specs.Places.{unquoted}
use Rattle.sh_answers.specs.Findings.{AreFindings}
use Rattle.sh_answers.specs.declared.verdict.Finding.{Finding}
use Rattle.sh_answers.specs.declared.verdict.Verdict.{Verdict}
use Rattle.sh_answers.specs.declared.verdict.Verdict.TheVariants.{Pass, Fail, Forged}
use Rattle.sh_domain.specs.Admitted.{IsAdmitted, IsGreatest, KeepsRules, claims_in, functions_in}
use Rattle.sh_print.specs.Layout.{canon}
use Rattle.sh_accept.specs.Accepted.{IsAccepted, IsAcceptedText, Claims}

-- The text has no reading within the limits, and is refused as its reader refuses it: at the token
-- that has no place, at the here-document that is open, or by a limit that each reading exceeds.
pub record IsUnread (b : List ℕ) (r : Refusal) : Type 0 where
  pub refused : Parses b (Err r)
  pub limit : TellsLimit b (Err r)
  pub misplaced : IsText b → TellsMisplaced b (Err r)
  pub pending : IsText b → TellsPending b (Err r)

-- Refusals, in the order script, profile, names, certificate: of the latter P says which come

abbrev pub Refuses : List ℕ → Declared → (Refusal → Type 0) → Refusal → Type 0
Refuses b d P TooLong = IsUnread b TooLong
Refuses b d P (NulByte at) = IsUnread b (NulByte at)
Refuses b d P (Syntax f at) = IsUnread b (Syntax f at)
Refuses b d P (LeftOut f at) = IsUnread b (LeftOut f at)
Refuses b d P (TooDeep at) = IsUnread b (TooDeep at)
Refuses b d P TooMany = IsUnread b TooMany ⊎ ((t : Script) × Parses b (Ok t) × (first_refused (script_of b t) ≡ None) × Numbers b t d (Err TooMany))
Refuses b d P Memory = IsText b
Refuses b d P (Profile r at) = (t : Script) × Parses b (Ok t) × Admits (script_of b t) (Err (Profile r at))
Refuses b d P (CertSyntax n) = P (CertSyntax n)
Refuses b d P CertShape = P CertShape

-- Of one certificate

-- the places of the demands that it leaves unmet, and those that the rules of quoting report
abbrev pub places : List ℕ → Declared → Script → Sheet → List Place
places b d t c = demands (start_facts d) (claims_in b t c) (script_of b t) ++ unquoted (script_of b t)

-- the text claims what fits a script that is admitted
pub record IsCertified (b : List ℕ) (d : Declared) (text : Text) (t : Script) (c : Sheet) : Type 0 where
  pub names : List Text
  pub admitted : IsAdmitted b d t names
  pub claims : Claims b t names text c

-- it breaks a flow rule, the least of them at this command
pub record IsForged (b : List ℕ) (d : Declared) (text : Text) (number : ℕ) (rule : FlowRule) : Type 0 where
  pub tree : Script
  pub certificate : Sheet
  pub certified : IsCertified b d text tree certificate
  pub told : least (faults (start_facts d) (claims_in b tree certificate) (script_of b tree)) ≡ Some (record { number = number; rule = rule })

-- it breaks none, and these are the findings
pub record HasFindings (b : List ℕ) (d : Declared) (text : Text) (fs : List Finding) : Type 0 where
  pub tree : Script
  pub certificate : Sheet
  pub certified : IsCertified b d text tree certificate
  pub rules : KeepsRules b d tree certificate
  pub found : AreFindings b (places b d tree certificate) fs

-- the text is no certificate, or does not fit a script that is admitted
abbrev pub RefusesText : List ℕ → Declared → Text → Refusal → Type 0
RefusesText b d text r = (t : Script) × (names : List Text) × IsAdmitted b d t names × ReadsGiven text t (length (functions_in b t)) names (Err r)

-- what a check of a certificate's text answers: Pass exactly if it is accepted
abbrev pub Checks : List ℕ → Declared → Text → Result Verdict Refusal → Type 0
Checks b d text (Ok Pass) = IsAcceptedText b d text
Checks b d text (Ok (Fail r)) = HasFindings b d text r.findings.items
Checks b d text (Ok (Forged k f)) = IsForged b d text k f
Checks b d text (Err r) = Refuses b d (RefusesText b d text) r

-- Of all certificates of a script

-- the greatest certificate of a script that is admitted
pub record IsBest (b : List ℕ) (d : Declared) (t : Script) (c : Sheet) : Type 0 where
  pub names : List Text
  pub admitted : IsAdmitted b d t names
  pub greatest : IsGreatest b d t names c

-- these are the findings of it
pub record HasLeastFindings (b : List ℕ) (d : Declared) (fs : List Finding) : Type 0 where
  pub tree : Script
  pub certificate : Sheet
  pub best : IsBest b d tree certificate
  pub found : AreFindings b (places b d tree certificate) fs

abbrev pub NoRefusal : Refusal → Type 0
NoRefusal r = ⊥

-- what is answered of a script without a certificate: Pass exactly if some certificate is accepted
abbrev pub Lints : List ℕ → Declared → Result Verdict Refusal → Type 0
Lints b d (Ok Pass) = (c : Sheet) × IsAccepted b d c
Lints b d (Ok (Fail r)) = HasLeastFindings b d r.findings.items
Lints b d (Ok (Forged k f)) = ⊥
Lints b d (Err r) = Refuses b d NoRefusal r

-- what is known at the start, as a certificate has it
pub record IsStart (d : Declared) (c : Claim) : Type 0 where
  pub known : facts c ≡ start_facts d
  pub written : is_writable c ≡ true

-- the full text of a certificate, or that of its compact form
unfoldable pub IsTextOf : (full : Bool) → Declared → Sheet → Text → Type 0
IsTextOf true d c text = text ≡ certificate_text c
IsTextOf false d c text = (start : Claim) × IsStart d start × (text ≡ compact_text (compact_of_sheet start c))

-- the greatest certificate of a script that is admitted, with its text
pub record HasBestText (full : Bool) (b : List ℕ) (d : Declared) (text : Text) : Type 0 where
  pub tree : Script
  pub certificate : Sheet
  pub best : IsBest b d tree certificate
  pub spelled : IsTextOf full d certificate text

-- the text is longer than is read
abbrev pub RefusesLong : (full : Bool) → List ℕ → Declared → Refusal → Type 0
RefusesLong full b d (CertSyntax n) = (text : Text) × HasBestText full b d text × (MAX_CERTIFICATE < length text) × (n ≡ 0)
RefusesLong full b d _ = ⊥

-- the text of the greatest certificate, whether it passes or not
abbrev pub Certifies : (full : Bool) → List ℕ → Declared → Result (Vec ℕ Global) Refusal → Type 0
Certifies full b d (Ok v) = HasBestText full b d v.items × (length v.items ≤ MAX_CERTIFICATE)
Certifies full b d (Err r) = Refuses b d (RefusesLong full b d) r

-- Of the text alone

-- the canonical text of a script that is read, whether it is admitted or not, or the refusal of its
-- text
abbrev pub Prints : List ℕ → Result (Vec ℕ Global) Refusal → Type 0
Prints b (Ok v) = (t : Script) × Parses b (Ok t) × (v.items ≡ canon b t)
Prints b (Err r) = IsUnread b r
