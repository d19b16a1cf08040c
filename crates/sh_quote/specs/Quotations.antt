-- Clauses of private functions: what a part of a word is to field splitting.
-- POSIX.1-2024, XCU 2.2 (quoting), 2.6.5 (field splitting).
use Rattle.std.specs.Prelude.{ℕ, Bool, false, List, [], ◌∷◌, Option, Some, None}
use Rattle.std.specs.List.{list_all}
use Rattle.sh_tree.specs.declared.place.Place.{Place}
use Rattle.sh_tree.specs.declared.tree.ParameterOperator.{ParameterOperator}
use Rattle.sh_tree.specs.declared.tree.Part.{Part}
use Rattle.sh_tree.specs.declared.tree.Special.{Special}
use Rattle.sh_tree.specs.declared.tree.Subject.{Subject}
use Rattle.sh_tree.specs.declared.tree.Subject.TheVariants as subject
use Rattle.sh_tree.specs.standard.language.Parts.{is_quotation}
use Rattle.sh_tree.specs.standard.program.Trees as trees
use Rattle.sh_runs.specs.Quoting as quoting
use Rattle.sh_quote.specs.Places as places

unfoldable pub are_some_quotes : List Part → Bool
are_some_quotes [] = false
are_some_quotes (x ∷ xs) = list_all is_quotation (x ∷ xs)

unfoldable pub quoted_alternative : List ℕ → ParameterOperator → Bool
quoted_alternative b o = quoting.is_quoted_alternative (trees.operator_of b o)

abbrev pub is_numeric : Special → Bool
is_numeric = quoting.is_numeric

unfoldable pub subject_is_numeric : Subject → Bool
subject_is_numeric (subject.Special c s) = quoting.is_numeric c
subject_is_numeric _ = false

unfoldable pub number_given : List ℕ → Subject → ParameterOperator → Bool
number_given b s o = quoting.gives_number (trees.parameter_of b s) (trees.operator_of b o)

-- places, by the offset at which one is reported

abbrev pub told_at : Bool → ℕ → List Place
told_at whole at = places.told_at whole at

unfoldable pub told : Option ℕ → List Place
told None = []
told (Some at) = places.told_at false at

unfoldable pub part_told : List ℕ → Bool → Part → List Place
part_told b numbers x = places.part_places numbers (trees.part_of b x)
