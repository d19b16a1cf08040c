-- What a kept certificate claims at each place that the rules speak of.
-- The standard has no such thing: what is surely set (XCU 2.5) round each command and each
-- function, by their numbers.
use Rattle.std.specs.Prelude.{◌≡◌, ℕ, ◌-◌, ◌<◌, ◌≤◌, nat_eq, List, length, Option, option_and_then, option_map, slice_get, unwrap_or}
use Rattle.indexmap.specs.IndexMap.{get}
use Rattle.sh_tree.specs.standard.program.Syntax.{Text}
use Rattle.sh_domain.specs.declared.certificate.Certificate.{Certificate}
use Rattle.sh_domain.specs.declared.certificate.Entry.{Entry}
use Rattle.sh_domain.specs.declared.certificate.Facts as value
use Rattle.sh_domain.specs.declared.certificate.FunctionEntry.{FunctionEntry}
use Rattle.sh_domain.specs.Certificates.{claim_of, drops_of, sheet_of}
use Rattle.sh_domain.specs.Facts.{Claim, Unreached}
use Rattle.sh_domain.specs.Names.{number_of}
use Rattle.sh_domain.specs.Operands.{Names, no_names}
use Rattle.sh_domain.specs.Sheets.{certificate_of}
use Rattle.sh_domain.specs.Views.{Before, AfterZero, AfterNonzero, Head, Entry as Entered, ReturnsZero, ReturnsNonzero}

-- of the command of a number, from 1; of a command that there is not, that it is never reached
abbrev pub entry_claim : (order : List (ℕ × Text)) → Certificate → (Entry → value.Facts) → ℕ → Claim
entry_claim order c part n = unwrap_or (option_map (λ e. claim_of order c.rows (part e)) (slice_get c.entries.items (n - 1))) Unreached

-- at each turn of the loop of a number
abbrev pub head_claim : (order : List (ℕ × Text)) → Certificate → ℕ → Claim
head_claim order c n = unwrap_or (option_map (claim_of order c.rows) (get nat_eq c.heads n)) Unreached

-- the entry of a function, if these are the names of the functions
abbrev pub entry_of : Certificate → List Text → Text → Option FunctionEntry
entry_of c functions f = option_and_then (slice_get c.functions.items) (number_of functions f)

abbrev pub function_claim : (order : List (ℕ × Text)) → Certificate → List Text → (FunctionEntry → value.Facts) → Text → Claim
function_claim order c functions part f = unwrap_or (option_map (λ e. claim_of order c.rows (part e)) (entry_of c functions f)) Unreached

-- what the function may drop
abbrev pub function_drops : (order : List (ℕ × Text)) → Certificate → List Text → Text → Names
function_drops order c functions f = unwrap_or (option_map (λ e. drops_of order c.rows e.drops) (entry_of c functions f)) no_names

-- The certificate on which the rules are tested claims, at each place, what the entry of that
-- number has.
pub record ClaimsAreEntries (order : List (ℕ × Text)) (c : Certificate) (functions : List Text) : Type 0 where
  pub before : (n : ℕ) → (certificate_of functions (sheet_of order c)).claim (Before n) ≡ entry_claim order c (λ e. e.before) n
  pub zero : (n : ℕ) → (certificate_of functions (sheet_of order c)).claim (AfterZero n) ≡ entry_claim order c (λ e. e.zero) n
  pub nonzero : (n : ℕ) → (certificate_of functions (sheet_of order c)).claim (AfterNonzero n) ≡ entry_claim order c (λ e. e.nonzero) n
  pub head : (n : ℕ) → 0 < n → n ≤ length c.entries.items → (certificate_of functions (sheet_of order c)).claim (Head n) ≡ head_claim order c n
  pub entered : (f : Text) → (certificate_of functions (sheet_of order c)).claim (Entered f) ≡ function_claim order c functions (λ e. e.before) f
  pub returns_zero : (f : Text) → (certificate_of functions (sheet_of order c)).claim (ReturnsZero f) ≡ function_claim order c functions (λ e. e.zero) f
  pub returns_nonzero : (f : Text) → (certificate_of functions (sheet_of order c)).claim (ReturnsNonzero f) ≡ function_claim order c functions (λ e. e.nonzero) f
  pub drops : (f : Text) → (certificate_of functions (sheet_of order c)).drops f ≡ function_drops order c functions f

-- whatever the certificate, the order of its names and the names of its functions
abbrev pub EveryCertificateClaims : Type 0
EveryCertificateClaims = (order : List (ℕ × Text)) (c : Certificate) (functions : List Text) → ClaimsAreEntries order c functions
