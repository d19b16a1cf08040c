-- The form of a certificate's text: which lines are those of a certificate, and what they claim.
-- The standard has no such thing: each line ends with a newline, and single blanks are between its
-- fields.
use Rattle.std.specs.Prelude.{ℕ, zero, suc, ◌+◌, ◌*◌, ◌-◌, ◌==◌, nat_le, Bool, true, false, not, ◌&&◌, ◌||◌, if◌then◌else◌, List, [], ◌∷◌, length, codes, Option, Some, None, option_map, Result, Ok, Err, fold}
use Rattle.std.specs.List.{list_all}
use Rattle.std.specs.Str.{bytes_eq, all_ascii_digits}
use Rattle.std.specs.Fmt.{decimal}
use Rattle.sh_tree.specs.standard.language.Bytes.{is_name}
use Rattle.sh_tree.specs.standard.program.Syntax.{Text}
use Rattle.sh_domain.specs.declared.limits.TheConstants.{MAX_CERTIFICATE}
use Rattle.sh_domain.specs.Facts.{Claim, Unreached, Claimed}
use Rattle.sh_domain.specs.Operands.{Names}
use Rattle.sh_domain.specs.Sheets.{Sheet, CommandClaims, FunctionClaims, first_line, precedes}

-- Splitting

unfoldable pub onto_first : ℕ → List Text → List Text
onto_first d [] = (d ∷ []) ∷ []
onto_first d (t ∷ ts) = (d ∷ t) ∷ ts

-- the pieces between the bytes c; the empty text is one piece
unfoldable pub pieces : ℕ → Text → List Text
pieces c [] = [] ∷ []
pieces c (d ∷ t) = if d == c then [] ∷ pieces c t else onto_first d (pieces c t)

-- what is before the first byte c, and what is after it
unfoldable pub onto_front : ℕ → Option (Text × Text) → Option (Text × Text)
onto_front d None = None
onto_front d (Some x) = Some (d ∷ x.0, x.1)

unfoldable pub cut_at : ℕ → Text → Option (Text × Text)
cut_at c [] = None
cut_at c (d ∷ t) = if d == c then Some ([], t) else onto_front d (cut_at c t)

-- Numbers: decimal digits without a leading zero, at most 65,535

abbrev pub value : Text → ℕ
value t = fold (λ n c. n * 10 + (c - 48)) 0 t

unfoldable pub leads_no_zero : Text → Bool
leads_no_zero [] = false
leads_no_zero (c ∷ []) = true
leads_no_zero (c ∷ d ∷ t) = not (c == 48)

abbrev pub is_number : Text → Bool
is_number t = leads_no_zero t && all_ascii_digits t && nat_le (value t) 65535

unfoldable pub number_in : Text → Option ℕ
number_in t = if is_number t then Some (value t) else None

-- Names in rising byte order

unfoldable pub is_rising : List Text → Bool
is_rising [] = true
is_rising (t ∷ []) = true
is_rising (t ∷ u ∷ ts) = precedes t u && is_rising (u ∷ ts)

-- `!` may be among variables
abbrev pub is_variable : Text → Bool
is_variable t = is_name t || bytes_eq (codes "!") t

abbrev pub are_rising : (Text → Bool) → List Text → Bool
are_rising is_one ts = list_all is_one ts && is_rising ts

-- names with commas between them, or nothing
unfoldable pub names_in : (Text → Bool) → Text → Option (List Text)
names_in is_one [] = Some []
names_in is_one (c ∷ t) = if are_rising is_one (pieces 44 (c ∷ t)) then Some (pieces 44 (c ∷ t)) else None

-- Facts and drops

unfoldable pub both : {A B C : Type 0} → (A → B → C) → Option A → Option B → Option C
both f (Some x) (Some y) = Some (f x y)
both f _ _ = None

unfoldable pub drops_of : List Text → Option Names
drops_of (vars ∷ functions ∷ []) = both (λ v f. record { vars = v; functions = f }) (names_in is_variable vars) (names_in is_name functions)
drops_of _ = None

abbrev pub drops_in : Text → Option Names
drops_in t = drops_of (pieces 58 t)

unfoldable pub known_of : List Text → Option Claim
known_of (args ∷ sets) = both (λ n d. Claimed d.vars d.functions n) (number_in args) (drops_of sets)
known_of [] = None

unfoldable pub claim_in : Text → Option Claim
claim_in t = if bytes_eq (codes "-") t then Some Unreached else known_of (pieces 58 t)

-- Lines

unfoldable pub claims_of : Option Claim → Option Claim → Option Claim → Option (Option Claim) → Option CommandClaims
claims_of (Some b) (Some z) (Some e) (Some h) = Some (record { before = b; zero = z; nonzero = e; head = h })
claims_of _ _ _ _ = None

unfoldable pub head_of : List Text → Option (Option Claim)
head_of [] = Some None
head_of (h ∷ []) = option_map Some (claim_in h)
head_of _ = None

-- the fields of the line of command k
unfoldable pub command_of : ℕ → List Text → Option CommandClaims
command_of k (c ∷ n ∷ b ∷ z ∷ e ∷ rest) =
    if bytes_eq (codes "c") c && bytes_eq (decimal k) n then claims_of (claim_in b) (claim_in z) (claim_in e) (head_of rest) else None
command_of k _ = None

unfoldable pub function_claims_of : Option Claim → Option Names → Option Claim → Option Claim → Option FunctionClaims
function_claims_of (Some b) (Some d) (Some z) (Some e) = Some (record { before = b; drops = d; zero = z; nonzero = e })
function_claims_of _ _ _ _ = None

-- the fields of the line of function k
unfoldable pub function_of : ℕ → List Text → Option FunctionClaims
function_of k (f ∷ n ∷ b ∷ d ∷ z ∷ e ∷ []) =
    if bytes_eq (codes "f") f && bytes_eq (decimal k) n then function_claims_of (claim_in b) (drops_in d) (claim_in z) (claim_in e) else None
function_of k _ = None

unfoldable pub counts_of : List Text → Option (ℕ × ℕ)
counts_of (c ∷ n ∷ f ∷ m ∷ []) = if bytes_eq (codes "commands") c && bytes_eq (codes "functions") f then both (λ x y. (x, y)) (number_in n) (number_in m) else None
counts_of _ = None

-- The text: what is left of it, and the number of the line that comes next

-- what is read of a text, and what is left; or the number of the first line that has not the form
abbrev pub Reading : Type 0 → Type 0
Reading A = Result (A × Text) ℕ

unfoldable pub formed : {A : Type 0} → ℕ → Text → Option A → Reading A
formed k rest None = Err k
formed k rest (Some x) = Ok (x, rest)

unfoldable pub whole_line : {A : Type 0} → (Text → Option A) → ℕ → Option (Text × Text) → Reading A
whole_line form k None = Err k
whole_line form k (Some x) = formed k x.1 (form x.0)

-- the line of the number k, and what is after its newline
abbrev pub read_line : {A : Type 0} → (Text → Option A) → ℕ → Text → Reading A
read_line form k t = whole_line form k (cut_at 10 t)

unfoldable pub behind : {A B : Type 0} → Result A ℕ → (A → Result B ℕ) → Result B ℕ
behind (Err k) f = Err k
behind (Ok x) f = f x

-- n lines, of the numbers from k on, for the numbers of commands or functions from i on
unfoldable pub read_lines : {A : Type 0} → (ℕ → Text → Option A) → ℕ → ℕ → ℕ → Text → Reading (List A)
read_lines form k i zero t = Ok ([], t)
read_lines form k i (suc n) t =
    behind (read_line (form i) k t) (λ x. behind (read_lines form (k + 1) (i + 1) n x.1) (λ y. Ok (x.0 ∷ y.0, y.1)))

abbrev pub is_first : Text → Option (Unit {0})
is_first t = if bytes_eq first_line t then Some tt else None

abbrev pub counts_in : Text → Option (ℕ × ℕ)
counts_in t = counts_of (pieces 32 t)

abbrev pub command_in : ℕ → Text → Option CommandClaims
command_in k t = command_of k (pieces 32 t)

abbrev pub function_in : ℕ → Text → Option FunctionClaims
function_in k t = function_of k (pieces 32 t)

-- nothing is left where line k would begin
unfoldable pub ended : {A : Type 0} → ℕ → A → Text → Result A ℕ
ended k x [] = Ok x
ended k x (c ∷ t) = Err k

-- what the text claims, or the number of the first line that has not the form; a missing line has
-- the number after the last
unfoldable pub read_sheet : Text → Result Sheet ℕ
read_sheet t =
    behind (read_line is_first 1 t) (λ a.
    behind (read_line counts_in 2 a.1) (λ b.
    behind (read_lines command_in 3 1 b.0.0 b.1) (λ c.
    behind (read_lines function_in (3 + b.0.0) 1 b.0.1 c.1) (λ d.
    ended (3 + b.0.0 + b.0.1) (record { commands = c.0; functions = d.0 }) d.1))))

-- a text of more bytes than a certificate's may have is read no further, and has no faulty line
unfoldable pub read_text : Text → Result Sheet ℕ
read_text t = if nat_le (length t) MAX_CERTIFICATE then read_sheet t else Err 0
