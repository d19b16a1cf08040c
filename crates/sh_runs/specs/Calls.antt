-- The call table of a program: its functions with the commands that define them, and the static
-- texts of the words of each command.
-- POSIX.1-2024, XCU 2.2 (quoting), 2.9.1 (simple commands), 2.9.1.4 (command search and execution),
-- 2.9.5 (function definitions).
use Rattle.std.specs.Prelude.{◌≡◌, ◌<◌, ℕ, zero, suc, ◌==◌, Bool, false, if◌then◌else◌, List, [], ◌∷◌, ◌++◌, length, map, fold, Option, Some, None, Result, Ok, Err}
use Rattle.std.specs.List.{filter, filter_map, position_from}
use Rattle.std.specs.Str.{bytes_eq}
use Rattle.sh_tree.specs.declared.limits.TheConstants.{MAX_COMMANDS}
use Rattle.sh_tree.specs.declared.refusal.Refusal.{Refusal}
use Rattle.sh_tree.specs.declared.refusal.Refusal.TheVariants.{TooMany, Memory}
use Rattle.sh_tree.specs.declared.tree.Script.{Script}
use Rattle.sh_tree.specs.standard.program.Syntax.{Text}
use Rattle.sh_tree.specs.standard.program.Trees.{script_of}
use Rattle.sh_runs.specs.standard.Kinds.{kind_of, is_special}
use Rattle.sh_runs.specs.Profile.{Static}
use Rattle.sh_runs.specs.Sites.{Form, Defines, Site, statics, sites_of}
use Rattle.sh_runs.specs.standard.runs.Environment.{is_one_of}

-- a command's number, and the static texts of its words
abbrev pub Row : Type 0
Row = ℕ × List Static

-- the names of functions, each once, and for each the numbers of the commands that define it
pub record Functions : Type 0 where
  pub names : List Text
  pub definitions : List (List ℕ)

-- the bytes of the script, its functions, and its commands by their numbers
pub record Table : Type 0 where
  pub script : Text
  pub functions : Functions
  pub rows : List Row

-- Functions

-- the name that a command defines
unfoldable pub defined : Form → Option Text
defined (Defines t) = Some t
defined _ = None

unfoldable pub defines : Text → Form → Bool
defines t (Defines u) = bytes_eq t u
defines t _ = false

-- the names with one more at the end, unless it is there
unfoldable pub with_name : List Text → Text → List Text
with_name names t = if is_one_of names t then names else names ++ t ∷ []

-- the names that commands define, in the order of their first definitions
unfoldable pub names_of : List Site → List Text
names_of ss = fold with_name [] (filter_map (λ s. defined s.form) ss)

-- the commands that define a name
unfoldable pub definitions_of : List Site → Text → List ℕ
definitions_of ss t = map (λ s. s.number) (filter (λ s. defines t s.form) ss)

unfoldable pub functions_of : List Site → Functions
functions_of ss = record { names = names_of ss; definitions = map (definitions_of ss) (names_of ss) }

-- The table of a tree

unfoldable pub row_of : Site → Row
row_of s = (s.number, statics s.form)

unfoldable pub table_of : List ℕ → Script → Table
table_of b t = record { script = b; functions = functions_of (sites_of (script_of b t)); rows = map row_of (sites_of (script_of b t)) }

-- The table, or a refusal if there are more functions than a script may have commands; or memory
-- ran out.
abbrev pub Tables : List ℕ → Script → Result Table Refusal → Type 0
Tables b t (Ok x) = x ≡ table_of b t
Tables b t (Err TooMany) = MAX_COMMANDS < length (table_of b t).functions.names
Tables b t (Err Memory) = Unit {0}
Tables b t (Err _) = ⊥

-- What is looked up

-- the texts of the command with this number
unfoldable pub texts_with : ℕ → List Row → List Static
texts_with n [] = []
texts_with n (r ∷ rs) = if r.0 == n then r.1 else texts_with n rs

unfoldable pub static_at : List Static → ℕ → Static
static_at [] k = None
static_at (t ∷ ts) zero = t
static_at (t ∷ ts) (suc k) = static_at ts k

-- the static text of a word of a command, the name being word 0
unfoldable pub text_at : Table → ℕ → ℕ → Static
text_at x n k = static_at (texts_with n x.rows) k

-- The function that a name calls, by its place from 1: special built-in utilities are found before
-- functions (XCU 2.9.1.4).
unfoldable pub called : List Text → Static → Option ℕ
called names None = None
called names (Some t) = if is_special (kind_of t) then None else position_from (λ name. bytes_eq name t) 1 names

-- the function that a command calls
unfoldable pub callee_at : Table → ℕ → Option ℕ
callee_at x n = called x.functions.names (text_at x n 0)
