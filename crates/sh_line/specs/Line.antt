-- What a command line asks for, by what clap found in its words, and why there is none.
-- POSIX.1-2024, XBD 12.2 (utility syntax guidelines: `-` is standard input); a name is as in XBD
-- 3.216.
use Rattle.std.specs.Prelude.{◌≡◌, ◌≢◌, ◌⊎◌, ⊤, ℕ, Bool, true, false, List, [], Option, Some, None, IsSome, Ok, codes, pos, string_bytes, unwrap_or}
use Rattle.std.specs.Str.Parse.{ParsesUnsigned}
use Rattle.std.specs.declared.num.ParseIntError.{ParseIntError}
use Rattle.clap.specs.Lexer.{without_minus}
use Rattle.clap.specs.Values.{IsSignedIn}
use Rattle.clap.specs.Words.{IsAmong, Row, Text, all_of, fault_of, first_of, one_of, subcommand_of}
use Rattle.clap.specs.declared.error.kind.ErrorKind.{ErrorKind}
use Rattle.clap.specs.declared.error.kind.ErrorKind.TheVariants.{DisplayHelp, DisplayVersion, OutOfMemory}
use Rattle.sh_domain.specs.Facts.{Declared}
use Rattle.sh_domain.specs.Policy.{first_bad}
use Rattle.sh_domain.specs.declared.policy.PolicyFault.{PolicyFault}
use Rattle.sh_domain.specs.declared.policy.PolicyFault.TheVariants as fault
use Rattle.sh_line.specs.App.{shset_app}
use Rattle.sh_line.specs.declared.line.Line.{Line}
use Rattle.sh_line.specs.declared.line.Source.{Source}
use Rattle.sh_line.specs.declared.line.Source.TheVariants.{Input, File}
use Rattle.sh_line.specs.declared.line.Stop.{Stop}
use Rattle.sh_line.specs.declared.line.Stop.TheVariants.{Usage, Help, BadName, Memory}
use Rattle.sh_answers.specs.declared.task.Action.{Action}
use Rattle.sh_answers.specs.declared.task.Action.TheVariants.{Lint, Cert, Check, Print}

-- the subcommand that asks for the action
abbrev pub action_name : Action → Text
action_name Lint = codes "lint"
action_name (Cert full) = codes "cert"
action_name Check = codes "check"
action_name Print = codes "print"

-- `-` is standard input, and any other text names a file
abbrev pub IsSourceOf : Text → Source → Type 0
IsSourceOf text Input = text ≡ codes "-"
IsSourceOf text (File name) = (text ≢ codes "-") × (name.now ≡ text)

-- only a check has a certificate
abbrev pub IsCertificateOf : Action → List Row → Option Source → Type 0
IsCertificateOf Lint rows None = ⊤
IsCertificateOf Lint rows (Some s) = ⊥
IsCertificateOf (Cert full) rows None = ⊤
IsCertificateOf (Cert full) rows (Some s) = ⊥
IsCertificateOf Print rows None = ⊤
IsCertificateOf Print rows (Some s) = ⊥
IsCertificateOf Check rows None = ⊥
IsCertificateOf Check rows (Some s) = (t : Text) × (first_of (codes "CERT") rows ≡ Some t) × IsSourceOf t s

-- there is one for a check
abbrev pub HasCertificate : Action → List Row → Type 0
HasCertificate Lint rows = ⊤
HasCertificate (Cert full) rows = ⊤
HasCertificate Print rows = ⊤
HasCertificate Check rows = IsSome (first_of (codes "CERT") rows)

-- standard input is read once
abbrev pub AreApart : Source → Option Source → Type 0
AreApart Input (Some Input) = ⊥
AreApart _ _ = ⊤

-- a check whose files are both standard input
abbrev pub HasTwoInputs : Text → List Row → Type 0
HasTwoInputs name rows =
    (name ≡ action_name Check) × (first_of (codes "FILE") rows ≡ Some (codes "-")) × (first_of (codes "CERT") rows ≡ Some (codes "-"))

-- the texts that are to be names
abbrev pub declared_texts : List Row → List Text
declared_texts rows = unwrap_or (all_of (codes "NAME") rows) []

-- the number that clap found
abbrev pub IsGivenNumber : List Row → ℕ → Type 0
IsGivenNumber rows n = (t : Text) × (one_of (codes "args") rows ≡ Some t) × ParsesUnsigned {E = ParseIntError} 16 10 t (Ok n)

-- how many positional parameters are set; no number is declared for a script that is only printed
abbrev pub IsNumberOf : Action → List Row → ℕ → Type 0
IsNumberOf Lint rows n = IsGivenNumber rows n
IsNumberOf (Cert full) rows n = IsGivenNumber rows n
IsNumberOf Check rows n = IsGivenNumber rows n
IsNumberOf Print rows n = n ≡ 0

-- whether the flag is among the words, by what clap found
pub record IsFull (rows : List Row) (full : Bool) : Type 0 where
  pub given : one_of (codes "full") rows ≡ Some (codes "true") → full ≡ true
  pub by_default : one_of (codes "full") rows ≡ Some (codes "false") → full ≡ false
  pub none : one_of (codes "full") rows ≡ None → full ≡ false

-- only a certificate is shown in full
abbrev pub IsShownAs : Action → List Row → Type 0
IsShownAs Lint rows = ⊤
IsShownAs (Cert full) rows = IsFull rows full
IsShownAs Check rows = ⊤
IsShownAs Print rows = ⊤

-- the policy says what clap found
pub record IsPolicyOf (action : Action) (rows : List Row) (p : Declared) : Type 0 where
  pub args : IsNumberOf action rows p.args
  pub names : p.names ≡ declared_texts rows
  pub declared : first_bad (declared_texts rows) ≡ None

-- the line says what clap found for the subcommand of this name
pub record IsLineOf (name : Text) (rows : List Row) (l : Line) : Type 0 where
  pub action : name ≡ action_name l.task.action
  pub shown : IsShownAs l.task.action rows
  pub script : (t : Text) × (first_of (codes "FILE") rows ≡ Some t) × IsSourceOf t l.script
  pub cert : IsCertificateOf l.task.action rows l.cert
  pub apart : AreApart l.script l.cert
  pub policy : IsPolicyOf l.task.action rows l.task.policy

-- there is a number
abbrev pub GivesNumber : List Row → Type 0
GivesNumber rows = (t : Text) × (one_of (codes "args") rows ≡ Some (without_minus t)) × IsSignedIn (pos 0) (pos 65535) t

-- there is one for each action but that which only prints
abbrev pub HasNumber : Action → List Row → Type 0
HasNumber Lint rows = GivesNumber rows
HasNumber (Cert full) rows = GivesNumber rows
HasNumber Check rows = GivesNumber rows
HasNumber Print rows = ⊤

-- what a parse with no fault finds for a subcommand: its name is an action's, and there are a file,
-- and the certificate and the number that the action has
pub record IsWhole (name : Text) (rows : List Row) : Type 0 where
  pub action : (a : Action) × (name ≡ action_name a)
  pub file : IsSome (first_of (codes "FILE") rows)
  pub cert : (a : Action) → name ≡ action_name a → HasCertificate a rows
  pub args : (a : Action) → name ≡ action_name a → HasNumber a rows

-- what is answered for a policy that is not made
abbrev pub fault_stop : PolicyFault → Stop
fault_stop (fault.BadName index) = BadName
fault_stop fault.Memory = Memory

-- the kinds of clap's errors that answer a request
abbrev pub IsRequest : ErrorKind → Type 0
IsRequest kind = (kind ≡ DisplayHelp) ⊎ (kind ≡ DisplayVersion)

-- what is answered for an error of clap's of this kind
abbrev pub StopsAs : ErrorKind → Stop → Type 0
StopsAs kind (Usage text) = (IsRequest kind → ⊥) × (kind ≢ OutOfMemory)
StopsAs kind (Help text) = IsRequest kind
StopsAs kind BadName = ⊥
StopsAs kind Memory = ⊤

-- what may stop the making of a policy: a declared text that is no name, or memory
abbrev pub StopsPolicy : List Row → Stop → Type 0
StopsPolicy rows BadName = IsSome (first_bad (declared_texts rows))
StopsPolicy rows Memory = ⊤
StopsPolicy rows _ = ⊥

-- what may stop the reading of what clap found: two files that are both standard input, then a
-- declared text that is no name; or memory
abbrev pub StopsRead : Text → List Row → Stop → Type 0
StopsRead name rows (Usage text) = HasTwoInputs name rows × (string_bytes text ≡ codes "shset: two inputs from -\n")
StopsRead name rows (Help text) = ⊥
StopsRead name rows BadName = (HasTwoInputs name rows → ⊥) × IsSome (first_bad (declared_texts rows))
StopsRead name rows Memory = ⊤

-- the parse finds no fault, and what it found is stopped so
abbrev pub StopsBehind : List Text → Stop → Type 0
StopsBehind words s = (fault_of shset_app words ≡ []) × (p : Text × List Row) × (subcommand_of shset_app words ≡ Some p) × StopsRead p.0 p.1 s

-- Usage faults, help and the version are answered if clap's parse of the words fails so. If it
-- finds no fault, two files that are both standard input are a usage fault too, and before a bad
-- name.
abbrev pub StopsAt : List Text → Stop → Type 0
StopsAt words (Usage text) =
    ((kind : ErrorKind) × IsAmong kind (fault_of shset_app words) × (IsRequest kind → ⊥)) ⊎ StopsBehind words (Usage text)
StopsAt words (Help text) = (kind : ErrorKind) × IsAmong kind (fault_of shset_app words) × IsRequest kind
StopsAt words BadName = StopsBehind words BadName
StopsAt words Memory = ⊤
