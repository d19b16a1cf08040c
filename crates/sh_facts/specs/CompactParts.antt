-- Clauses of private functions: what is read of a compact certificate, and of its lines of loops.
-- The standard has no such thing: parts of the text of a certificate, and rows of the numbers of
-- names.
use Rattle.std.specs.Prelude.{◌≡◌, ℕ, Bool, true, false, List, length, Result, Ok, Err}
use Rattle.sh_tree.specs.declared.refusal.Refusal.{Refusal}
use Rattle.sh_tree.specs.declared.refusal.Refusal.TheVariants.{Memory, CertSyntax, CertShape}
use Rattle.sh_tree.specs.declared.tree.Script.{Script}
use Rattle.sh_tree.specs.standard.program.Syntax.{Text}
use Rattle.sh_domain.specs.declared.certificate.Facts as value
use Rattle.sh_domain.specs.declared.compact.Compact.{Compact}
use Rattle.sh_domain.specs.Certificates.{in_byte_order}
use Rattle.sh_domain.specs.CompactForms.{read_turns, read_compact_text}
use Rattle.sh_domain.specs.CompactReading.{compact_fits, turns_fit}
use Rattle.sh_domain.specs.Compacts.{CompactSheet, compact_claims, turns_of}
use Rattle.sh_domain.specs.Facts.{Claim}
use Rattle.sh_domain.specs.KeptRows.{KeptRows, Stay}
use Rattle.sh_domain.specs.Reading.{AreLoops}

-- The text of a compact certificate

-- what the text claims fits the script, and is what the certificate claims
pub record IsCompactOf (text : Text) (names : List Text) (loops : List Bool) (functions : ℕ) (c : Compact) : Type 0 where
  pub claims : read_compact_text text ≡ Ok (compact_claims (in_byte_order names) c)
  pub fit : compact_fits names loops functions (compact_claims (in_byte_order names) c) ≡ true

-- what the text claims does not fit
pub record IsOtherCompact (text : Text) (names : List Text) (loops : List Bool) (functions : ℕ) : Type 0 where
  pub sheet : CompactSheet
  pub claims : read_compact_text text ≡ Ok sheet
  pub misfit : compact_fits names loops functions sheet ≡ false

abbrev pub AnswersCompact : Text → List Text → List Bool → ℕ → Result Compact Refusal → Type 0
AnswersCompact text names loops functions (Ok c) = IsCompactOf text names loops functions c
AnswersCompact text names loops functions (Err (CertSyntax n)) = read_compact_text text ≡ Err n
AnswersCompact text names loops functions (Err CertShape) = IsOtherCompact text names loops functions
AnswersCompact text names loops functions (Err Memory) = Unit {0}
AnswersCompact text names loops functions (Err _) = ⊥

abbrev pub ReadsCompact : Text → Script → (functions : ℕ) → List Text → Result Compact Refusal → Type 0
ReadsCompact text t functions names (Ok c) = (loops : List Bool) × AreLoops t loops × IsCompactOf text names loops functions c
ReadsCompact text t functions names (Err (CertSyntax n)) = read_compact_text text ≡ Err n
ReadsCompact text t functions names (Err CertShape) = (loops : List Bool) × AreLoops t loops × IsOtherCompact text names loops functions
ReadsCompact text t functions names (Err Memory) = Unit {0}
ReadsCompact text t functions names (Err _) = ⊥

-- The lines of loops

-- those of the loops of these numbers, and what is after them
pub record ReadsTurns (names : List Text) (numbers : List ℕ) (t : Text) (old : KeptRows) (entries : List (ℕ × value.Facts)) (left : Text) (new : KeptRows) : Type 0 where
  pub read : List (ℕ × Claim)
  pub reading : read_turns 4 0 (length numbers) t ≡ Ok (read, left)
  pub fit : turns_fit names numbers read ≡ true
  pub sized : new.count ≡ length names
  pub stay : Stay old.rows new.rows
  pub lasting : (later : KeptRows) → Stay new.rows later.rows → turns_of (in_byte_order names) later entries ≡ read

-- no lines of loops that are read here fit
abbrev pub NoTurnsFit : List Text → List ℕ → Text → Type 0
NoTurnsFit names numbers t = (x : List (ℕ × Claim) × Text) → read_turns 4 0 (length numbers) t ≡ Ok x → turns_fit names numbers x.0 ≡ false
