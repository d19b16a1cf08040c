-- The form of a compact certificate's text: which lines are those of one, and what they claim.
-- The standard has no such thing: each line ends with a newline, and single blanks are between its
-- fields.
use Rattle.std.specs.Prelude.{ℕ, zero, suc, ◌+◌, nat_le, Bool, false, ◌&&◌, if◌then◌else◌, List, [], ◌∷◌, length, codes, Option, Some, None, Result, Ok, Err}
use Rattle.std.specs.Str.{bytes_eq}
use Rattle.sh_tree.specs.standard.program.Syntax.{Text}
use Rattle.sh_domain.specs.declared.limits.TheConstants.{MAX_CERTIFICATE}
use Rattle.sh_domain.specs.Compacts.{CompactSheet, compact_line}
use Rattle.sh_domain.specs.Facts.{Claim}
use Rattle.sh_domain.specs.Forms.{Reading, pieces, cut_at, number_in, claim_in, both, read_line, read_lines, behind, ended, function_in, read_text}
use Rattle.sh_domain.specs.Sheets.{Sheet}

-- Lines

abbrev pub is_compact_line : Text → Option (Unit {0})
is_compact_line t = if bytes_eq compact_line t then Some tt else None

-- how many commands, functions and loops
pub record Counts : Type 0 where
  pub commands : ℕ
  pub functions : ℕ
  pub loops : ℕ

unfoldable pub three_counts : Option ℕ → Option ℕ → Option ℕ → Option Counts
three_counts (Some n) (Some m) (Some l) = Some (record { commands = n; functions = m; loops = l })
three_counts _ _ _ = None

unfoldable pub counts_of : List Text → Option Counts
counts_of (c ∷ n ∷ f ∷ m ∷ l ∷ k ∷ []) =
    if bytes_eq (codes "commands") c && bytes_eq (codes "functions") f && bytes_eq (codes "loops") l then three_counts (number_in n) (number_in m) (number_in k) else None
counts_of _ = None

abbrev pub compact_counts_in : Text → Option Counts
compact_counts_in t = counts_of (pieces 32 t)

unfoldable pub start_of : List Text → Option Claim
start_of (s ∷ c ∷ []) = if bytes_eq (codes "s") s then claim_in c else None
start_of _ = None

abbrev pub start_in : Text → Option Claim
start_in t = start_of (pieces 32 t)

-- a number that is not below the least
unfoldable pub at_least : ℕ → Option ℕ → Option ℕ
at_least least None = None
at_least least (Some n) = if nat_le least n then Some n else None

unfoldable pub turn_of : ℕ → List Text → Option (ℕ × Claim)
turn_of least (h ∷ n ∷ c ∷ []) = if bytes_eq (codes "h") h then both (λ k x. (k, x)) (at_least least (number_in n)) (claim_in c) else None
turn_of least _ = None

abbrev pub turn_in : ℕ → Text → Option (ℕ × Claim)
turn_in least t = turn_of least (pieces 32 t)

-- The text

-- n lines of turns, of the numbers from k on, whose commands have rising numbers from the least on
unfoldable pub read_turns : ℕ → ℕ → ℕ → Text → Reading (List (ℕ × Claim))
read_turns k least zero t = Ok ([], t)
read_turns k least (suc n) t =
    behind (read_line (turn_in least) k t) (λ x. behind (read_turns (k + 1) (x.0.0 + 1) n x.1) (λ y. Ok (x.0 ∷ y.0, y.1)))

-- what the text claims, or the number of the first line that has not the form; a missing line has
-- the number after the last
unfoldable pub read_compact_sheet : Text → Result CompactSheet ℕ
read_compact_sheet t =
    behind (read_line is_compact_line 1 t) (λ a.
    behind (read_line compact_counts_in 2 a.1) (λ b.
    behind (read_line start_in 3 b.1) (λ c.
    behind (read_turns 4 0 b.0.loops c.1) (λ d.
    behind (read_lines function_in (4 + b.0.loops) 1 b.0.functions d.1) (λ e.
    ended (4 + b.0.loops + b.0.functions) (record { commands = b.0.commands; start = c.0; heads = d.0; functions = e.0 }) e.1)))))

-- a text of more bytes than a certificate's may have is read no further, and has no faulty line
unfoldable pub read_compact_text : Text → Result CompactSheet ℕ
read_compact_text t = if nat_le (length t) MAX_CERTIFICATE then read_compact_sheet t else Err 0

-- Texts of either version

-- a certificate as it is given
pub data GivenSheet : Type 0 where
  Full : Sheet → GivenSheet
  Compact : CompactSheet → GivenSheet

unfoldable pub begins_compact : Option (Text × Text) → Bool
begins_compact None = false
begins_compact (Some x) = bytes_eq compact_line x.0

-- the first line gives the version
abbrev pub is_compact : Text → Bool
is_compact t = begins_compact (cut_at 10 t)

unfoldable pub given_as : {A : Type 0} → (A → GivenSheet) → Result A ℕ → Result GivenSheet ℕ
given_as f (Ok x) = Ok (f x)
given_as f (Err k) = Err k

abbrev pub read_given : Text → Result GivenSheet ℕ
read_given t = if is_compact t then given_as Compact (read_compact_text t) else given_as Full (read_text t)
