-- A certificate as claims about names, and its text.
-- The standard has no such thing: what is surely set (XCU 2.5) round each command, as the lines of
-- a text. Each certificate has one text.
use Rattle.std.specs.Prelude.{ℕ, ◌+◌, ◌-◌, Bool, if◌then◌else◌, List, [], ◌∷◌, ◌++◌, length, codes, Option, Some, None, slice_get, unwrap_or}
use Rattle.std.specs.Fmt.{decimal}
use Rattle.std.specs.Cmp.Lexicographic.{slice_cmp}
use Rattle.std.specs.Ordering.{nat_cmp, is_lt}
use Rattle.std.specs.Str.{bytes_eq}
use Rattle.sh_tree.specs.standard.program.Syntax.{Text}
use Rattle.sh_domain.specs.Facts.{Claim, Unreached, Claimed}
use Rattle.sh_domain.specs.Operands.{Names, no_names}
use Rattle.sh_domain.specs.Views.{Certificate, Slot, Before, AfterZero, AfterNonzero, Head, Entry, ReturnsZero, ReturnsNonzero}

-- what is claimed of a command: before it, after zero, after another status, and of a loop at each
-- turn
pub record CommandClaims : Type 0 where
  pub before : Claim
  pub zero : Claim
  pub nonzero : Claim
  pub head : Option Claim

-- of a function: where it is entered, what it may drop, where it returns by its status
pub record FunctionClaims : Type 0 where
  pub before : Claim
  pub drops : Names
  pub zero : Claim
  pub nonzero : Claim

-- the commands and the functions by their numbers, from 1
pub record Sheet : Type 0 where
  pub commands : List CommandClaims
  pub functions : List FunctionClaims

-- What a sheet claims at each place that the rules speak of, if its functions have these names

abbrev pub nowhere : CommandClaims
nowhere = record { before = Unreached; zero = Unreached; nonzero = Unreached; head = None }

abbrev pub uncalled : FunctionClaims
uncalled = record { before = Unreached; drops = no_names; zero = Unreached; nonzero = Unreached }

abbrev pub command_at : Sheet → ℕ → CommandClaims
command_at s n = unwrap_or (slice_get s.commands (n - 1)) nowhere

-- the function of a name
unfoldable pub function_at : List Text → List FunctionClaims → Text → FunctionClaims
function_at (name ∷ names) (f ∷ fs) t = if bytes_eq name t then f else function_at names fs t
function_at _ _ t = uncalled

unfoldable pub claim_at : List Text → Sheet → Slot → Claim
claim_at functions s (Before n) = (command_at s n).before
claim_at functions s (AfterZero n) = (command_at s n).zero
claim_at functions s (AfterNonzero n) = (command_at s n).nonzero
claim_at functions s (Head n) = unwrap_or (command_at s n).head Unreached
claim_at functions s (Entry f) = (function_at functions s.functions f).before
claim_at functions s (ReturnsZero f) = (function_at functions s.functions f).zero
claim_at functions s (ReturnsNonzero f) = (function_at functions s.functions f).nonzero

-- the certificate on which the rules and the demands are tested
abbrev pub certificate_of : List Text → Sheet → Certificate
certificate_of functions s = record { claim = claim_at functions s; drops = λ f. (function_at functions s.functions f).drops }

-- Rising byte order

-- by the first byte that differs; a front of a text comes before it
abbrev pub precedes : Text → Text → Bool
precedes t u = is_lt (slice_cmp nat_cmp t u)

-- Texts

-- texts one after the other, with a byte between two
unfoldable pub joined : ℕ → List Text → Text
joined c [] = []
joined c (t ∷ []) = t
joined c (t ∷ u ∷ ts) = t ++ c ∷ joined c (u ∷ ts)

-- names with commas between them
abbrev pub names_text : List Text → Text
names_text names = joined 44 names

-- `-`, or the count of parameters, the variables and the functions, with colons between them
unfoldable pub claim_text : Claim → Text
claim_text Unreached = codes "-"
claim_text (Claimed vars functions args) = joined 58 (decimal args ∷ names_text vars ∷ names_text functions ∷ [])

abbrev pub drops_text : Names → Text
drops_text d = joined 58 (names_text d.vars ∷ names_text d.functions ∷ [])

-- fields with a blank between two, and a newline
abbrev pub line : List Text → Text
line fields = joined 32 fields ++ 10 ∷ []

unfoldable pub head_fields : Option Claim → List Text
head_fields None = []
head_fields (Some h) = claim_text h ∷ []

abbrev pub command_fields : ℕ → CommandClaims → List Text
command_fields k c = codes "c" ∷ decimal k ∷ claim_text c.before ∷ claim_text c.zero ∷ claim_text c.nonzero ∷ head_fields c.head

abbrev pub function_fields : ℕ → FunctionClaims → List Text
function_fields k f = codes "f" ∷ decimal k ∷ claim_text f.before ∷ drops_text f.drops ∷ claim_text f.zero ∷ claim_text f.nonzero ∷ []

-- a line for each, with its number
unfoldable pub numbered_lines : {A : Type 0} → (ℕ → A → List Text) → ℕ → List A → Text
numbered_lines fields k [] = []
numbered_lines fields k (x ∷ xs) = line (fields k x) ++ numbered_lines fields (k + 1) xs

abbrev pub first_line : Text
first_line = codes "shset certificate 1"

abbrev pub count_fields : ℕ → ℕ → List Text
count_fields n m = codes "commands" ∷ decimal n ∷ codes "functions" ∷ decimal m ∷ []

-- the one text of a certificate
unfoldable pub certificate_text : Sheet → Text
certificate_text s =
    line (first_line ∷ [])
    ++ line (count_fields (length s.commands) (length s.functions))
    ++ numbered_lines command_fields 1 s.commands
    ++ numbered_lines function_fields 1 s.functions
