-- A compact certificate that has a text is read again, from that text, as one that claims the same.
-- The standard has no such thing: a kept certificate names rows of numbers, and its text has names
-- in rising byte order.
use Rattle.std.specs.Prelude.{◌≡◌, ℕ, ◌+◌, ◌≤◌, Bool, true, List, [], ◌∷◌, length, Result, Ok, Err}
use Rattle.std.specs.List.{All}
use Rattle.sh_tree.specs.declared.refusal.Refusal.{Refusal}
use Rattle.sh_tree.specs.declared.refusal.Refusal.TheVariants.{Memory}
use Rattle.sh_tree.specs.declared.tree.Script.{Script}
use Rattle.sh_tree.specs.standard.program.Syntax.{Text}
use Rattle.sh_domain.specs.declared.certificate.Facts as value
use Rattle.sh_domain.specs.declared.compact.Compact.{Compact}
use Rattle.sh_domain.specs.declared.compact.Given.{Given}
use Rattle.sh_domain.specs.declared.compact.Given.TheVariants as given
use Rattle.sh_domain.specs.declared.limits.TheConstants.{MAX_CERTIFICATE}
use Rattle.sh_domain.specs.Certificates.{in_byte_order}
use Rattle.sh_domain.specs.CompactForms as form
use Rattle.sh_domain.specs.CompactForms.{read_compact_sheet}
use Rattle.sh_domain.specs.CompactReading.{ReadsGiven, compact_fits, given_claims}
use Rattle.sh_domain.specs.Compacts.{CompactSheet, compact_claims, compact_text}
use Rattle.sh_domain.specs.CompactSpelling.{IsCompactSheet}
use Rattle.sh_domain.specs.KeptRows.{KeptRows}
use Rattle.sh_domain.specs.Names.{are_distinct}
use Rattle.sh_domain.specs.Reading.{AreLoops}
use Rattle.sh_domain.specs.RoundTrips.{FactsPass, FunctionPasses, written}

-- turns of rising numbers from the least on, whose facts are of variables and of functions
unfoldable pub TurnsPass : List Text → KeptRows → ℕ → List (ℕ × value.Facts) → Type 0
TurnsPass names rows least [] = Unit {0}
TurnsPass names rows least (h ∷ hs) = (least ≤ h.0) × (h.0 ≤ 65535) × FactsPass names rows h.1 × TurnsPass names rows (h.0 + 1) hs

-- No name has two numbers, the rows of each fact are of variables and of functions, and the loops
-- rise. There is no more of anything than a text may have.
pub record CompactHasText (names : List Text) (c : Compact) : Type 0 where
  pub distinct : are_distinct names ≡ true
  pub start : FactsPass names c.rows c.start
  pub heads : TurnsPass names c.rows 0 c.heads.entries
  pub functions : All (FunctionPasses names c.rows) c.functions.items
  pub few_commands : c.commands ≤ 65535
  pub few_heads : length c.heads.entries ≤ 65535
  pub few_functions : length c.functions.items ≤ 65535

-- what a compact certificate claims, of these names, and its text
abbrev pub compact_claimed : List Text → Compact → CompactSheet
compact_claimed names c = compact_claims (in_byte_order names) c

abbrev pub compact_written : List Text → Compact → Text
compact_written names c = compact_text (compact_claimed names c)

-- the text of a certificate of either version
unfoldable pub given_text : List Text → Given → Text
given_text names (given.Full c) = written names c
given_text names (given.Compact c) = compact_written names c

-- a compact certificate that claims this, unless memory ran out
abbrev pub ClaimsCompact : List Text → CompactSheet → Result Given Refusal → Type 0
ClaimsCompact names s (Ok g) = given_claims names g ≡ form.Compact s
ClaimsCompact names s (Err Memory) = Unit {0}
ClaimsCompact names s (Err _) = ⊥

-- What is written of a compact certificate that has a text reads as what it claims. Within the
-- limit, and for a script that it fits, nothing else is read of it.
pub record WrittenCompactReadsBack : Type 0 where
  pub rising : (names : List Text) (c : Compact) → CompactHasText names c → IsCompactSheet (compact_claimed names c)
  pub back : (names : List Text) (c : Compact) → CompactHasText names c → read_compact_sheet (compact_written names c) ≡ Ok (compact_claimed names c)
  pub read : (names : List Text) (c : Compact) (t : Script) (functions : ℕ) (r : Result Given Refusal) → CompactHasText names c → length (compact_written names c) ≤ MAX_CERTIFICATE
      → ((loops : List Bool) → AreLoops t loops → compact_fits names loops functions (compact_claimed names c) ≡ true)
      → ReadsGiven (compact_written names c) t functions names r → ClaimsCompact names (compact_claimed names c) r

-- What is read of a text of either version is what is written of it; so texts of one claim are one.
pub record GivenIsWritten : Type 0 where
  pub again : (text : Text) (t : Script) (functions : ℕ) (names : List Text) (g : Given) → ReadsGiven text t functions names (Ok g) → given_text names g ≡ text
  pub one : (text other : Text) (t : Script) (functions : ℕ) (names : List Text) (g d : Given) → ReadsGiven text t functions names (Ok g) → ReadsGiven other t functions names (Ok d)
      → given_claims names g ≡ given_claims names d → text ≡ other
