-- Clauses of private functions: what is read of a part of a text, and which rows there are then.
-- The standard has no such thing: parts of the text of a certificate, and rows of the numbers of
-- names.
use Rattle.std.specs.Prelude.{◌≡◌, ℕ, nat_eq, Bool, true, false, List, length, map, Ok, Option, option_map}
use Rattle.std.specs.List.{list_all}
use Rattle.indexmap.specs.IndexMap.{get}
use Rattle.sh_rows.specs.declared.bits.BitRow.{BitRow}
use Rattle.sh_tree.specs.declared.refusal.Refusal.{Refusal}
use Rattle.sh_tree.specs.declared.refusal.Refusal.TheVariants.{Memory, CertShape}
use Rattle.sh_tree.specs.standard.program.Syntax.{Text}
use Rattle.sh_domain.specs.declared.certificate.Certificate.{Certificate}
use Rattle.sh_domain.specs.declared.certificate.Facts as value
use Rattle.sh_domain.specs.declared.certificate.Drops.{Drops}
use Rattle.sh_domain.specs.declared.certificate.Entry.{Entry}
use Rattle.sh_domain.specs.declared.certificate.FunctionEntry.{FunctionEntry}
use Rattle.sh_domain.specs.declared.rows.RowId.{RowId}
use Rattle.sh_facts.specs.declared.forms.SetTexts.{SetTexts}
use Rattle.sh_facts.specs.declared.forms.FactText.{FactText}
use Rattle.sh_facts.specs.declared.forms.CommandTexts.{CommandTexts}
use Rattle.sh_facts.specs.declared.forms.FunctionTexts.{FunctionTexts}
use Rattle.sh_domain.specs.Certificates as claims
use Rattle.sh_domain.specs.Certificates.{in_byte_order, names_at, commands_from}
use Rattle.sh_facts.specs.Fields.{split, sets_of, claim_of, command_of, function_of}
use Rattle.sh_domain.specs.Forms.{is_rising, read_lines, command_in, function_in}
use Rattle.sh_domain.specs.KeptRows.{KeptRows, Stay, bits_of}
use Rattle.sh_domain.specs.Names.{are_distinct, is_among}
use Rattle.sh_domain.specs.Reading.{are_known, sets_fit, claim_fits, head_fits, command_fits, commands_fit, function_fits}
use Rattle.sh_domain.specs.Sheets.{CommandClaims, FunctionClaims}
use Rattle.sh_domain.specs.Spelling.{is_writable, is_writable_head, are_writable, is_command, is_function}

-- What is read

-- the row of the names of a text
pub record IsRowOf (names : List Text) (t : Text) (row : BitRow) : Type 0 where
  pub distinct : are_distinct names ≡ true
  pub count : row.count ≡ length names
  pub fit : are_known names (split t) ≡ true
  pub numbers : (k : ℕ) → bits_of row k ≡ is_among names (split t) k

-- what is read fits; what is said of these rows is so of all rows that have them in their places
pub record IsRead (old new : KeptRows) (fits : Bool) (Says : KeptRows → Type 0) : Type 0 where
  pub count : new.count ≡ old.count
  pub stay : Stay old.rows new.rows
  pub fit : fits ≡ true
  pub lasting : (later : KeptRows) → Stay new.rows later.rows → Says later

module _ (names : List Text) where
  abbrev pub ReadsRow : Text → KeptRows → RowId → KeptRows → Type 0
  ReadsRow t old id new = IsRead old new (are_known names (split t)) (λ rows. is_rising (split t) ≡ true → names_at (in_byte_order names) rows id ≡ split t)

  abbrev pub ReadsSets : SetTexts → KeptRows → Drops → KeptRows → Type 0
  ReadsSets t old d new = IsRead old new (sets_fit names (sets_of t)) (λ rows. are_writable (sets_of t) ≡ true → claims.drops_of (in_byte_order names) rows d ≡ sets_of t)

  abbrev pub ReadsFacts : FactText → KeptRows → value.Facts → KeptRows → Type 0
  ReadsFacts t old f new = IsRead old new (claim_fits names (claim_of t)) (λ rows. is_writable (claim_of t) ≡ true → claims.claim_of (in_byte_order names) rows f ≡ claim_of t)

  abbrev pub ReadsHead : Option FactText → Bool → KeptRows → Option value.Facts → KeptRows → Type 0
  ReadsHead t l old f new =
      IsRead old new (head_fits names l (option_map claim_of t)) (λ rows. is_writable_head (option_map claim_of t) ≡ true → option_map (claims.claim_of (in_byte_order names) rows) f ≡ option_map claim_of t)

  abbrev pub ReadsCommand : CommandTexts → Bool → KeptRows → Entry → Option value.Facts → KeptRows → Type 0
  ReadsCommand t l old e head new =
      IsRead old new (command_fits names l (command_of t)) (λ rows. is_command (command_of t) ≡ true → claims.command_claims (in_byte_order names) rows e head ≡ command_of t)

  abbrev pub ReadsFunction : FunctionTexts → KeptRows → FunctionEntry → KeptRows → Type 0
  ReadsFunction t old e new =
      IsRead old new (function_fits names (function_of t)) (λ rows. is_function (function_of t) ≡ true → claims.function_claims (in_byte_order names) rows e ≡ function_of t)

-- what is read does not fit
abbrev pub Misfits : Bool → Refusal → Type 0
Misfits fits CertShape = fits ≡ false
Misfits fits Memory = Unit {0}
Misfits fits _ = ⊥

-- it does not fit, and P is a proof of that
abbrev pub Misses : Type 0 → Refusal → Type 0
Misses P CertShape = P
Misses P Memory = Unit {0}
Misses P _ = ⊥

-- the lines of the commands, each with whether it is a loop, and what is after them
pub record ReadsCommands (names : List Text) (loops : List Bool) (t : Text) (entries : List Entry) (heads : ℕ → Option value.Facts) (left : Text) (rows : KeptRows) : Type 0 where
  pub claims : List CommandClaims
  pub reading : read_lines command_in 3 1 (length loops) t ≡ Ok (claims, left)
  pub fit : commands_fit names loops claims ≡ true
  pub count : rows.count ≡ length names
  pub lasting : (c : Certificate) → Stay rows.rows c.rows.rows → ((k : ℕ) → get nat_eq c.heads k ≡ heads k) → commands_from (in_byte_order names) c 1 entries ≡ claims

-- the lines of the functions
pub record ReadsFunctions (names : List Text) (first count : ℕ) (t : Text) (old : KeptRows) (entries : List FunctionEntry) (new : KeptRows) : Type 0 where
  pub read : List FunctionClaims
  pub left : Text
  pub reading : read_lines function_in first 1 count t ≡ Ok (read, left)
  pub fit : list_all (function_fits names) read ≡ true
  pub sized : new.count ≡ length names
  pub stay : Stay old.rows new.rows
  pub lasting : (later : KeptRows) → Stay new.rows later.rows → map (claims.function_claims (in_byte_order names) later) entries ≡ read

-- no lines of commands that are read here fit
abbrev pub NoneFit : List Text → List Bool → Text → Type 0
NoneFit names loops t = (x : List CommandClaims × Text) → read_lines command_in 3 1 (length loops) t ≡ Ok x → commands_fit names loops x.0 ≡ false

abbrev pub NoFunctionsFit : List Text → (first count : ℕ) → Text → Type 0
NoFunctionsFit names first count t = (x : List FunctionClaims × Text) → read_lines function_in first 1 count t ≡ Ok x → list_all (function_fits names) x.0 ≡ false
