-- The places of expansions that field splitting or pathname expansion could change.
-- POSIX.1-2024, XCU 2.6.5 (field splitting), 2.6.6 (pathname expansion), 2.9.1.1 (declaration
-- utilities).
use Rattle.std.specs.Prelude.{ℕ, Bool, true, false, not, ◌&&◌, ◌||◌, if◌then◌else◌, List, [], ◌∷◌, ◌++◌, flat_map, filter, is_some, unwrap_or, option_map}
use Rattle.sh_tree.specs.declared.place.Place.{Place}
use Rattle.sh_tree.specs.declared.place.Code.TheVariants.{Q1}
use Rattle.sh_tree.specs.standard.program.Syntax as p
use Rattle.sh_tree.specs.standard.program.Syntax.{Word}
use Rattle.sh_tree.specs.standard.program.Words.{static_of, assignment_in, words_in, operands_in}
use Rattle.sh_runs.specs.standard.Kinds.{kind_of, is_declaration}
use Rattle.sh_runs.specs.Surroundings.{outside, items_located}
use Rattle.sh_runs.specs.Quoting.{gives_number, is_quoted_alternative, word_begins_pattern}
use Rattle.sh_quote.specs.Steady.{for_words, steady}

unfoldable pub told_at : Bool → ℕ → List Place
told_at true at = []
told_at false at = record { at = at; code = Q1; subject = [] } ∷ []

-- an expansion outside quotes; `numbers` says whether numbers are never split there
unfoldable pub part_places : Bool → p.Part → List Place
part_places numbers (p.Expansion at parameter operator) = told_at ((numbers && gives_number parameter operator) || is_quoted_alternative operator) at
part_places numbers (p.Arithmetic at e) = told_at numbers at
part_places numbers (p.Substitution at list) = told_at false at
part_places numbers _ = []

unfoldable pub parts_places : Bool → Word → List Place
parts_places numbers p.no_parts = []
parts_places numbers (p.more_parts x w) = part_places numbers x ++ parts_places numbers w

-- in a word whose fields are split: numbers are not split if IFS is steady and the word is no
-- pattern
unfoldable pub word_places : Bool → Word → List Place
word_places steady w = parts_places (steady && not (word_begins_pattern w)) w

-- the words of a command whose fields are split: all but the operands of a declaration utility that
-- are assignments in form
unfoldable pub split_operands : List Word → List Word
split_operands [] = []
split_operands (w ∷ ws) =
    w ∷ (if unwrap_or (option_map (λ t. is_declaration (kind_of t)) (static_of w)) false then filter (λ v. not (is_some (assignment_in v))) ws else ws)

unfoldable pub split_words : p.Command → List Word
split_words (p.command n at (p.Simple es) rs) = split_operands (words_in (operands_in es))
split_words (p.command n at (p.For name ws body) rs) = for_words ws
split_words (p.command n at _ rs) = []

-- of a script
unfoldable pub unquoted : p.Items → List Place
unquoted t = flat_map (λ l. flat_map (word_places (steady t)) (split_words l.command)) (items_located outside t)
