-- Which certificate a text is, for a script.
-- The standard has no such thing: a certificate fits a script by the counts of its commands and
-- functions, by its loops and by its names.
use Rattle.std.specs.Prelude.{◌≡◌, ℕ, Bool, true, false, nat_eq, ◌&&◌, List, [], ◌∷◌, length, map, Option, Some, None, Result, Ok, Err}
use Rattle.std.specs.Borrow.{Bor}
use Rattle.std.specs.List.{list_all}
use Rattle.std.specs.List.Sorted.{IsPermutation, IsNonDecreasingBy}
use Rattle.sh_tree.specs.declared.refusal.Refusal.{Refusal}
use Rattle.sh_tree.specs.declared.refusal.Refusal.TheVariants.{Memory, CertSyntax, CertShape}
use Rattle.sh_tree.specs.declared.tree.Command.{Command, out-Command}
use Rattle.sh_tree.specs.declared.tree.Kind.{Kind, Loop, For'}
use Rattle.sh_tree.specs.declared.tree.Script.{Script}
use Rattle.sh_tree.specs.standard.program.Syntax.{Text}
use Rattle.sh_tree.specs.Commands.{commands_of}
use Rattle.sh_runs.specs.standard.runs.Environment.{is_one_of}
use Rattle.sh_domain.specs.declared.certificate.Certificate.{Certificate}
use Rattle.sh_domain.specs.Certificates.{in_byte_order, sheet_of}
use Rattle.sh_domain.specs.Facts.{Claim, Unreached, Claimed}
use Rattle.sh_domain.specs.Forms.{read_text}
use Rattle.sh_domain.specs.Operands.{Names}
use Rattle.sh_domain.specs.Sheets.{Sheet, CommandClaims, FunctionClaims}

-- Names that a script has

abbrev pub are_known : List Text → List Text → Bool
are_known names ts = list_all (is_one_of names) ts

abbrev pub sets_fit : List Text → Names → Bool
sets_fit names d = are_known names d.vars && are_known names d.functions

unfoldable pub claim_fits : List Text → Claim → Bool
claim_fits names Unreached = true
claim_fits names (Claimed vars functions args) = are_known names vars && are_known names functions

-- Heads are at loops

unfoldable pub kind_loops : Kind → Bool
kind_loops (Loop k condition body) = true
kind_loops (For' name words body) = true
kind_loops _ = false

abbrev pub is_loop : Command → Bool
is_loop c = kind_loops (out-Command c).kind

-- which of these commands are loops
abbrev pub loops_of : List (Bor Command) → List Bool
loops_of cs = map (λ (c : Bor Command). is_loop c.now) cs

unfoldable pub head_fits : List Text → (is_loop : Bool) → Option Claim → Bool
head_fits names true (Some h) = claim_fits names h
head_fits names false None = true
head_fits names _ _ = false

abbrev pub command_fits : List Text → (is_loop : Bool) → CommandClaims → Bool
command_fits names l c = claim_fits names c.before && claim_fits names c.zero && claim_fits names c.nonzero && head_fits names l c.head

-- a line for each command, with whether it is a loop
unfoldable pub commands_fit : List Text → (loops : List Bool) → List CommandClaims → Bool
commands_fit names [] [] = true
commands_fit names (l ∷ ls) (c ∷ cs) = command_fits names l c && commands_fit names ls cs
commands_fit names _ _ = false

abbrev pub function_fits : List Text → FunctionClaims → Bool
function_fits names f = claim_fits names f.before && sets_fit names f.drops && claim_fits names f.zero && claim_fits names f.nonzero

abbrev pub functions_fit : List Text → ℕ → List FunctionClaims → Bool
functions_fit names count fs = nat_eq (length fs) count && list_all (function_fits names) fs

abbrev pub fits : List Text → (loops : List Bool) → (functions : ℕ) → Sheet → Bool
fits names loops functions s = commands_fit names loops s.commands && functions_fit names functions s.functions

-- The answer

-- the commands of a script by their numbers, each with whether it is a loop
pub record AreLoops (t : Script) (loops : List Bool) : Type 0 where
  pub commands : List (Bor Command)
  pub all : IsPermutation (commands_of t) (map (λ (c : Bor Command). c.now) commands)
  pub ordered : IsNonDecreasingBy (λ (c : Bor Command). (out-Command c.now).number) commands
  pub each : loops ≡ map (λ (c : Bor Command). is_loop c.now) commands

-- what the text claims fits the script, and is what the certificate claims
pub record IsTextOf (text : Text) (names : List Text) (loops : List Bool) (functions : ℕ) (c : Certificate) : Type 0 where
  pub claims : read_text text ≡ Ok (sheet_of (in_byte_order names) c)
  pub fit : fits names loops functions (sheet_of (in_byte_order names) c) ≡ true

-- what the text claims does not fit
pub record IsOther (text : Text) (names : List Text) (loops : List Bool) (functions : ℕ) : Type 0 where
  pub sheet : Sheet
  pub claims : read_text text ≡ Ok sheet
  pub misfit : fits names loops functions sheet ≡ false

abbrev pub Answers : Text → List Text → List Bool → ℕ → Result Certificate Refusal → Type 0
Answers text names loops functions (Ok c) = IsTextOf text names loops functions c
Answers text names loops functions (Err (CertSyntax n)) = read_text text ≡ Err n
Answers text names loops functions (Err CertShape) = IsOther text names loops functions
Answers text names loops functions (Err Memory) = Unit {0}
Answers text names loops functions (Err _) = ⊥

-- The text of a certificate is read as one that claims the same, and no other text is read as a
-- certificate.
abbrev pub Reads : Text → Script → (functions : ℕ) → List Text → Result Certificate Refusal → Type 0
Reads text t functions names (Ok c) = (loops : List Bool) × AreLoops t loops × IsTextOf text names loops functions c
Reads text t functions names (Err (CertSyntax n)) = read_text text ≡ Err n
Reads text t functions names (Err CertShape) = (loops : List Bool) × AreLoops t loops × IsOther text names loops functions
Reads text t functions names (Err Memory) = Unit {0}
Reads text t functions names (Err _) = ⊥
