-- Clauses of private functions: what the fields of a line mean, while the names of a set are still
-- a text.
-- The standard has no such thing: fields of the text of a certificate.
use Rattle.std.specs.Prelude.{ℕ, Bool, List, [], ◌∷◌, Option, Some, None, option_map, Result, Ok, Err, if◌then◌else◌, ◌&&◌}
use Rattle.std.specs.Borrow.{Bor}
use Rattle.std.specs.Fmt.{decimal}
use Rattle.std.specs.Str.{bytes_eq}
use Rattle.sh_tree.specs.standard.language.Bytes.{is_name}
use Rattle.sh_tree.specs.standard.program.Syntax.{Text}
use Rattle.sh_facts.specs.declared.forms.Held.{Held}
use Rattle.sh_facts.specs.declared.forms.Held.TheVariants as held
use Rattle.sh_facts.specs.declared.forms.SetTexts.{SetTexts}
use Rattle.sh_facts.specs.declared.forms.FactText.{FactText}
use Rattle.sh_facts.specs.declared.forms.FactText.TheVariants as fact
use Rattle.sh_facts.specs.declared.forms.CommandTexts.{CommandTexts}
use Rattle.sh_facts.specs.declared.forms.FunctionTexts.{FunctionTexts}
use Rattle.sh_facts.specs.declared.forms.Counts.{Counts}
use Rattle.sh_domain.specs.Facts.{Claim, Unreached, Claimed}
use Rattle.sh_domain.specs.Forms.{Reading, pieces, cut_at, is_variable, claim_in, drops_in, claims_of, head_of, function_claims_of}
use Rattle.sh_domain.specs.Operands.{Names}
use Rattle.sh_domain.specs.Sheets.{CommandClaims, FunctionClaims}

-- Pieces

abbrev pub sides_of : Bor (List ℕ) × Bor (List ℕ) → Text × Text
sides_of x = (x.0.now, x.1.now)

-- the pieces of what is left, if anything is
unfoldable pub pieces_left : ℕ → Option (Bor (List ℕ)) → List Text
pieces_left c None = []
pieces_left c (Some t) = pieces c t.now

-- Names

-- the names that a set may hold
unfoldable pub test_of : Held → Text → Bool
test_of held.Variables t = is_variable t
test_of held.Functions t = is_name t

-- the names of a text that has the form
unfoldable pub split : Text → List Text
split [] = []
split (c ∷ t) = pieces 44 (c ∷ t)

-- Facts

abbrev pub sets_of : SetTexts → Names
sets_of s = record { vars = split s.vars.now; functions = split s.functions.now }

unfoldable pub claim_of : FactText → Claim
claim_of fact.NotReached = Unreached
claim_of (fact.Known n s) = Claimed (split s.vars.now) (split s.functions.now) n

-- what is known of a count and two sets
abbrev pub known : ℕ → Names → Claim
known n d = Claimed d.vars d.functions n

abbrev pub command_of : CommandTexts → CommandClaims
command_of x = record { before = claim_of x.before; zero = claim_of x.zero; nonzero = claim_of x.nonzero; head = option_map claim_of x.head }

abbrev pub function_of : FunctionTexts → FunctionClaims
function_of x = record { before = claim_of x.before; drops = sets_of x.drops; zero = claim_of x.zero; nonzero = claim_of x.nonzero }

-- Lines

-- what is after the letter and the number that begin a line
unfoldable pub behind_number : ℕ → ℕ → List Text → Option (List Text)
behind_number letter k (l ∷ n ∷ t ∷ ts) = if bytes_eq (letter ∷ []) l && bytes_eq (decimal k) n then Some (t ∷ ts) else None
behind_number letter k _ = None

unfoldable pub command_behind : List Text → Option CommandClaims
command_behind (b ∷ z ∷ e ∷ rest) = claims_of (claim_in b) (claim_in z) (claim_in e) (head_of rest)
command_behind _ = None

unfoldable pub function_behind : List Text → Option FunctionClaims
function_behind (b ∷ d ∷ z ∷ e ∷ []) = function_claims_of (claim_in b) (drops_in d) (claim_in z) (claim_in e)
function_behind _ = None

abbrev pub counts_of : Counts → ℕ × ℕ
counts_of c = (c.commands, c.functions)

-- The text

-- what the first line means, if it has the form, and what is after it
unfoldable pub line_of : {A : Type 0} → (Text → Option A) → Option (Text × Text) → Option (A × Text)
line_of form None = None
line_of form (Some x) = option_map (λ a. (a, x.1)) (form x.0)

abbrev pub line_in : {A : Type 0} → (Text → Option A) → Text → Option (A × Text)
line_in form t = line_of form (cut_at 10 t)

abbrev pub command_line_of : CommandTexts × Bor (List ℕ) → CommandClaims × Text
command_line_of x = (command_of x.0, x.1.now)

abbrev pub function_line_of : FunctionTexts × Bor (List ℕ) → FunctionClaims × Text
function_line_of x = (function_of x.0, x.1.now)

-- what is left after a reading, whatever was read
unfoldable pub left_of : {A : Type 0} → Reading A → Result Text ℕ
left_of (Ok x) = Ok x.1
left_of (Err k) = Err k

unfoldable pub text_left : Result (Bor (List ℕ)) ℕ → Result Text ℕ
text_left (Ok t) = Ok t.now
text_left (Err k) = Err k

unfoldable pub counts_left : Result (Counts × Bor (List ℕ)) ℕ → Reading (ℕ × ℕ)
counts_left (Ok x) = Ok (counts_of x.0, x.1.now)
counts_left (Err k) = Err k

-- whether there is a reading, or the number of the line without the form
unfoldable pub outcome : {A : Type 0} → Result A ℕ → Result (Unit {0}) ℕ
outcome (Ok x) = Ok tt
outcome (Err k) = Err k
