-- Clauses of private functions: the functions and the rows that a call table keeps.
-- POSIX.1-2024, XCU 2.9.1 (simple commands), 2.9.5 (function definitions).
use Rattle.std.specs.Prelude.{◌≡◌, ◌≤◌, ℕ, ◌==◌, if◌then◌else◌, List, [], ◌∷◌, ◌++◌, length, map, Option, Some, None}
use Rattle.std.specs.List.{All, position, position_from}
use Rattle.std.specs.List.Sorted.{IsNonDecreasingBy}
use Rattle.std.specs.Str.{bytes_eq}
use Rattle.std.specs.Global.{Vec}
use Rattle.sh_tree.specs.declared.limits.TheConstants.{MAX_COMMANDS}
use Rattle.sh_tree.specs.standard.Tree.{text_of}
use Rattle.sh_tree.specs.standard.program.Syntax.{Text}
use Rattle.sh_runs.specs.Calls.{Row, Functions, Table, with_name, static_at, called}
use Rattle.sh_runs.specs.Profile.{Static}
use Rattle.sh_table.specs.WordTexts.{text_in}
use Rattle.sh_table.specs.declared.table.Named.{Named}
use Rattle.sh_table.specs.declared.table.Row as declared

-- what is kept of a command
abbrev pub row_in : List ℕ → declared.Row → Row
row_in b r = (r.number, map (text_in b) r.texts.items)

-- the place of the first row with this number
abbrev pub place_with : ℕ → List declared.Row → Option ℕ
place_with n rs = position (λ r. r.number == n) rs

unfoldable pub found_texts : List ℕ → Option declared.Row → List Static
found_texts b None = []
found_texts b (Some r) = map (text_in b) r.texts.items

-- the functions that are kept
abbrev pub functions_in : List (Vec ℕ) → List (Vec ℕ) → Functions
functions_in names definitions = record { names = map (λ v. v.items) names; definitions = map (λ v. v.items) definitions }

-- what is kept of a script
abbrev pub table_in : Text → Functions → List declared.Row → Table
table_in b f rs = record { script = b; functions = f; rows = map (row_in b) rs }

-- the function, among those of these names, that a row's command calls
abbrev pub callee_in : Text → List Text → declared.Row → Option ℕ
callee_in b names r = called names (static_at (map (text_in b) r.texts.items) 0)

-- that beside the span of a name is the place of the function of that name
abbrev pub IsNamed : Text → List Text → Named → Type 0
IsNamed b names n = n.place ≡ position_from (λ other. bytes_eq other (text_of b n.name)) 0 names

-- That no more functions are kept than may be, and the rows by their numbers. For each row the
-- function is kept that its command calls. Spans of names have the places of their functions.
pub record IsKept (b : Text) (f : Functions) (rs : List declared.Row) (cs : List (Option ℕ)) (ns : List Named) : Type 0 where
  pub few : length f.names ≤ MAX_COMMANDS
  pub ordered : IsNonDecreasingBy (λ r. r.number) rs
  pub callees : cs ≡ map (callee_in b f.names) rs
  pub named : All (IsNamed b f.names) ns

-- the numbers for each name, with one more for a name, which may be a new one
unfoldable pub with_number : List Text → List (List ℕ) → Text → ℕ → List (List ℕ)
with_number [] ds t n = ds ++ (n ∷ []) ∷ []
with_number (u ∷ us) [] t n = []
with_number (u ∷ us) (d ∷ ds) t n = if bytes_eq u t then (d ++ n ∷ []) ∷ ds else d ∷ with_number us ds t n

unfoldable pub with_definition : Functions → Text → ℕ → Functions
with_definition f t n = record { names = with_name f.names t; definitions = with_number f.names f.definitions t n }
