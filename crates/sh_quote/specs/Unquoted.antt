-- Clauses of private functions: the places that are reported of a piece of a command, if the text
-- of its name is this one.
-- POSIX.1-2024, XCU 2.6.5 (field splitting), 2.9.1.1 (declaration utilities).
use Rattle.std.specs.Prelude.{ℕ, Bool, true, false, not, ◌&&◌, if◌then◌else◌, List, [], ◌∷◌, ◌++◌, ◌≡◌, ◌<◌, length, flat_map, filter, is_some, Option, Some, None}
use Rattle.sh_tree.specs.declared.place.Place.{Place}
use Rattle.sh_tree.specs.declared.tree.Kind.{Kind}
use Rattle.sh_tree.specs.declared.tree.Part.{Part}
use Rattle.sh_tree.specs.declared.tree.Part.TheVariants as part
use Rattle.sh_tree.specs.declared.tree.Word.{Word}
use Rattle.sh_tree.specs.standard.Tree.{text_of}
use Rattle.sh_tree.specs.standard.language.Commands.{is_assignment}
use Rattle.sh_tree.specs.Lists.{parts_from}
use Rattle.sh_tree.specs.standard.program.Syntax as p
use Rattle.sh_tree.specs.standard.program.Trees as trees
use Rattle.sh_tree.specs.standard.program.Words.{assignment_in, words_in, operands_in}
use Rattle.sh_runs.specs.Calls.{Table, text_at}
use Rattle.sh_runs.specs.standard.Kinds.{kind_of, is_declaration}
use Rattle.sh_runs.specs.Profile.{Static}
use Rattle.sh_runs.specs.Surroundings.{Located}
use Rattle.sh_quote.specs.Places.{word_places}
use Rattle.sh_quote.specs.Steady.{for_words}
use Rattle.sh_quote.specs.Quotations as quotations

abbrev pub told : Option ℕ → List Place
told o = quotations.told o

abbrev pub part_told : List ℕ → Bool → Part → List Place
part_told b numbers x = quotations.part_told b numbers x

unfoldable pub word_told : List ℕ → Bool → Word → List Place
word_told b steady w = word_places steady (parts_from b w.parts)

-- an unquoted name and `=` at the front
unfoldable pub part_form : List ℕ → Part → Bool
part_form b (part.Plain s) = is_assignment (text_of b s)
part_form b _ = false

unfoldable pub begins_form : List ℕ → List Part → Bool
begins_form b [] = false
begins_form b (x ∷ ps) = part_form b x

unfoldable pub is_form : List ℕ → Word → Bool
is_form b w = is_some (assignment_in (parts_from b w.parts))

unfoldable pub operand_told : List ℕ → Bool → Bool → Word → List Place
operand_told b declares steady w = if declares && is_form b w then [] else word_told b steady w

unfoldable pub declares : Static → Bool
declares None = false
declares (Some t) = is_declaration (kind_of t)

unfoldable pub words_told : List ℕ → Static → Bool → List Word → List Place
words_told b name steady [] = []
words_told b name steady (w ∷ ws) = word_told b steady w ++ flat_map (operand_told b (declares name) steady) ws

-- the words of a program's command whose fields are split

unfoldable pub split_by : Static → List p.Word → List p.Word
split_by name [] = []
split_by name (w ∷ ws) = w ∷ (if declares name then filter (λ v. not (is_some (assignment_in v))) ws else ws)

unfoldable pub split_kind : Static → p.Kind → List p.Word
split_kind name (p.Simple es) = split_by name (words_in (operands_in es))
split_kind name (p.For variable ws body) = for_words ws
split_kind name _ = []

unfoldable pub kind_told : List ℕ → Static → Bool → Kind → List Place
kind_told b name steady k = flat_map (word_places steady) (split_kind name (trees.kind_of b k))

-- what a walk keeps: the table, whether numbers are never split, and the places so far
pub record Kept : Type 0 where
  pub table : Table
  pub steady : Bool
  pub places : List Place

unfoldable pub command_told : Table → Bool → p.Command → List Place
command_told x steady (p.command n at kind rs) = flat_map (word_places steady) (split_kind (text_at x n 0) kind)

-- all places are there; or memory ran out, and there are some
unfoldable pub Keeps : (is_short : Bool) → (there all : Kept) → Type 0
Keeps false there all = there ≡ all
Keeps true there all = 0 < length all.places

abbrev pub with_command : Kept → Located → Kept
with_command k l = record { table = k.table; steady = k.steady; places = k.places ++ command_told k.table k.steady l.command }
