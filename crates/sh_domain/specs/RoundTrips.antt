-- A kept certificate that has a text is read again, from that text, as one that claims the same.
-- The standard has no such thing: a kept certificate names rows of numbers, and its text has names
-- in rising byte order.
use Rattle.std.specs.Prelude.{◌≡◌, ℕ, ◌≤◌, nat_eq, Bool, true, List, length, Some, Result, Ok, Err, slice_get}
use Rattle.std.specs.List.{All}
use Rattle.indexmap.specs.IndexMap.{get}
use Rattle.sh_tree.specs.declared.refusal.Refusal.{Refusal}
use Rattle.sh_tree.specs.declared.refusal.Refusal.TheVariants.{Memory}
use Rattle.sh_tree.specs.declared.tree.Script.{Script}
use Rattle.sh_tree.specs.standard.language.Bytes.{is_name}
use Rattle.sh_tree.specs.standard.program.Syntax.{Text}
use Rattle.sh_domain.specs.declared.certificate.Certificate.{Certificate}
use Rattle.sh_domain.specs.declared.certificate.Entry.{Entry}
use Rattle.sh_domain.specs.declared.certificate.Facts as value
use Rattle.sh_domain.specs.declared.certificate.Facts.TheVariants as value_kind
use Rattle.sh_domain.specs.declared.certificate.FunctionEntry.{FunctionEntry}
use Rattle.sh_domain.specs.declared.limits.TheConstants.{MAX_CERTIFICATE}
use Rattle.sh_domain.specs.declared.rows.RowId.{RowId}
use Rattle.sh_domain.specs.Certificates.{in_byte_order, sheet_of}
use Rattle.sh_domain.specs.Forms.{is_variable, read_sheet, read_text}
use Rattle.sh_domain.specs.KeptRows.{KeptRows, holds_at}
use Rattle.sh_domain.specs.Names.{are_distinct}
use Rattle.sh_domain.specs.Reading.{AreLoops, Reads, fits}
use Rattle.sh_domain.specs.Sheets.{Sheet, certificate_of, certificate_text}
use Rattle.sh_domain.specs.Spelling.{IsSheet}

-- Certificates that have a text

-- each number in the row that is one of these names is that of a name that passes
abbrev pub RowPasses : (Text → Bool) → List Text → KeptRows → RowId → Type 0
RowPasses passes names rows id = (k : ℕ) (t : Text) → slice_get names k ≡ Some t → holds_at rows.rows id.index k ≡ true → passes t ≡ true

-- variables, `!` among them, and functions
pub record SetsPass (names : List Text) (rows : KeptRows) (v f : RowId) : Type 0 where
  pub vars : RowPasses is_variable names rows v
  pub functions : RowPasses is_name names rows f

unfoldable pub FactsPass : List Text → KeptRows → value.Facts → Type 0
FactsPass names rows value_kind.NotReached = Unit {0}
FactsPass names rows (value_kind.Known v f a) = SetsPass names rows v f × (a ≤ 65535)

pub record EntryPasses (names : List Text) (rows : KeptRows) (e : Entry) : Type 0 where
  pub before : FactsPass names rows e.before
  pub zero : FactsPass names rows e.zero
  pub nonzero : FactsPass names rows e.nonzero

pub record FunctionPasses (names : List Text) (rows : KeptRows) (f : FunctionEntry) : Type 0 where
  pub before : FactsPass names rows f.before
  pub drops : SetsPass names rows f.drops.vars f.drops.functions
  pub zero : FactsPass names rows f.zero
  pub nonzero : FactsPass names rows f.nonzero

-- No name has two numbers, and the rows of each fact are of variables and of functions. There is no
-- more of anything than a text may have.
pub record HasText (names : List Text) (c : Certificate) : Type 0 where
  pub distinct : are_distinct names ≡ true
  pub entries : All (EntryPasses names c.rows) c.entries.items
  pub heads : (k : ℕ) (f : value.Facts) → get nat_eq c.heads k ≡ Some f → FactsPass names c.rows f
  pub functions : All (FunctionPasses names c.rows) c.functions.items
  pub few_commands : length c.entries.items ≤ 65535
  pub few_functions : length c.functions.items ≤ 65535

-- Writing and reading

-- what a certificate claims, of these names
abbrev pub claimed : List Text → Certificate → Sheet
claimed names c = sheet_of (in_byte_order names) c

abbrev pub written : List Text → Certificate → Text
written names c = certificate_text (claimed names c)

-- a certificate that claims this, unless memory ran out
abbrev pub Claims : List Text → Sheet → Result Certificate Refusal → Type 0
Claims names s (Ok c) = claimed names c ≡ s
Claims names s (Err Memory) = Unit {0}
Claims names s (Err _) = ⊥

-- it fits whichever list says what the loops of the script are
abbrev pub FitsScript : Script → ℕ → List Text → Certificate → Type 0
FitsScript t functions names c = (loops : List Bool) → AreLoops t loops → fits names loops functions (claimed names c) ≡ true

-- What is written of a certificate that has a text has rising names, and reads as what the
-- certificate claims. Within the limit, and for a script that it fits, nothing else is read of it.
pub record WrittenReadsBack : Type 0 where
  pub rising : (names : List Text) (c : Certificate) → HasText names c → IsSheet (claimed names c)
  pub back : (names : List Text) (c : Certificate) → HasText names c → read_sheet (written names c) ≡ Ok (claimed names c)
  pub read : (names : List Text) (c : Certificate) (t : Script) (functions : ℕ) (r : Result Certificate Refusal) → HasText names c → length (written names c) ≤ MAX_CERTIFICATE
      → FitsScript t functions names c → Reads (written names c) t functions names r → Claims names (claimed names c) r

-- What is read as a certificate is what is written of it, and the rules are tested on what the text
-- claims. So texts of one claim are one.
pub record ReadIsWritten : Type 0 where
  pub again : (text : Text) (t : Script) (functions : ℕ) (names : List Text) (c : Certificate) → Reads text t functions names (Ok c) → written names c ≡ text
  pub rising : (text : Text) (t : Script) (functions : ℕ) (names : List Text) (c : Certificate) → Reads text t functions names (Ok c) → IsSheet (claimed names c)
  pub asked : (text : Text) (t : Script) (functions : ℕ) (names of_functions : List Text) (c : Certificate) (s : Sheet) → Reads text t functions names (Ok c) → read_text text ≡ Ok s
      → certificate_of of_functions (claimed names c) ≡ certificate_of of_functions s
  pub one : (text other : Text) (t : Script) (functions : ℕ) (names : List Text) (c d : Certificate) → Reads text t functions names (Ok c) → Reads other t functions names (Ok d)
      → claimed names c ≡ claimed names d → text ≡ other
