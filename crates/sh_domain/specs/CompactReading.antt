-- Which certificate of either version a text is, for a script.
-- The standard has no such thing: a compact certificate fits a script by its counts, by the numbers
-- of its loops and by its names.
use Rattle.std.specs.Prelude.{◌≡◌, ℕ, ◌+◌, Bool, true, false, nat_eq, ◌&&◌, List, [], ◌∷◌, length, Result, Ok, Err}
use Rattle.sh_tree.specs.declared.refusal.Refusal.{Refusal}
use Rattle.sh_tree.specs.declared.refusal.Refusal.TheVariants.{Memory, CertSyntax, CertShape}
use Rattle.sh_tree.specs.declared.tree.Script.{Script}
use Rattle.sh_tree.specs.standard.program.Syntax.{Text}
use Rattle.sh_domain.specs.declared.compact.Given.{Given}
use Rattle.sh_domain.specs.declared.compact.Given.TheVariants as given
use Rattle.sh_domain.specs.Certificates.{in_byte_order, sheet_of}
use Rattle.sh_domain.specs.CompactForms.{GivenSheet, Full, Compact, read_given}
use Rattle.sh_domain.specs.Compacts.{CompactSheet, compact_claims}
use Rattle.sh_domain.specs.Facts.{Claim}
use Rattle.sh_domain.specs.KeptRows.{KeptRows}
use Rattle.sh_domain.specs.Reading.{AreLoops, claim_fits, functions_fit, fits}

-- the numbers of the loops among these commands, the first of which has the number k
unfoldable pub loop_numbers : ℕ → (loops : List Bool) → List ℕ
loop_numbers k [] = []
loop_numbers k (true ∷ ls) = k ∷ loop_numbers (k + 1) ls
loop_numbers k (false ∷ ls) = loop_numbers (k + 1) ls

-- a turn for each of these numbers
unfoldable pub turns_fit : List Text → List ℕ → List (ℕ × Claim) → Bool
turns_fit names [] [] = true
turns_fit names (k ∷ ks) (h ∷ hs) = nat_eq k h.0 && claim_fits names h.1 && turns_fit names ks hs
turns_fit names _ _ = false

abbrev pub compact_fits : List Text → (loops : List Bool) → (functions : ℕ) → CompactSheet → Bool
compact_fits names loops functions s =
    nat_eq s.commands (length loops) && claim_fits names s.start && turns_fit names (loop_numbers 1 loops) s.heads
    && functions_fit names functions s.functions

-- The answer, for a text of either version

unfoldable pub given_fits : List Text → (loops : List Bool) → (functions : ℕ) → GivenSheet → Bool
given_fits names loops functions (Full s) = fits names loops functions s
given_fits names loops functions (Compact s) = compact_fits names loops functions s

-- what is claimed by a kept one, of these names
unfoldable pub given_claims : List Text → Given → GivenSheet
given_claims names (given.Full c) = Full (sheet_of (in_byte_order names) c)
given_claims names (given.Compact c) = Compact (compact_claims (in_byte_order names) c)

unfoldable pub given_rows : Given → KeptRows
given_rows (given.Full c) = c.rows
given_rows (given.Compact c) = c.rows

-- what the text claims fits the script, and is what the given certificate claims
pub record IsGiven (text : Text) (names : List Text) (loops : List Bool) (functions : ℕ) (g : Given) : Type 0 where
  pub claims : read_given text ≡ Ok (given_claims names g)
  pub fit : given_fits names loops functions (given_claims names g) ≡ true

-- what the text claims does not fit
pub record IsOtherGiven (text : Text) (names : List Text) (loops : List Bool) (functions : ℕ) : Type 0 where
  pub sheet : GivenSheet
  pub claims : read_given text ≡ Ok sheet
  pub misfit : given_fits names loops functions sheet ≡ false

-- The text of a certificate of either version is read as one that claims the same, and no other
-- text is read as one.
abbrev pub ReadsGiven : Text → Script → (functions : ℕ) → List Text → Result Given Refusal → Type 0
ReadsGiven text t functions names (Ok g) = (loops : List Bool) × AreLoops t loops × IsGiven text names loops functions g
ReadsGiven text t functions names (Err (CertSyntax n)) = read_given text ≡ Err n
ReadsGiven text t functions names (Err CertShape) = (loops : List Bool) × AreLoops t loops × IsOtherGiven text names loops functions
ReadsGiven text t functions names (Err Memory) = Unit {0}
ReadsGiven text t functions names (Err _) = ⊥
