-- What the code finds of operands is what the definitions of runs read off them.
-- POSIX.1-2024, XCU 2.6.5 (field splitting), 2.15 (break, continue, return, set, shift, unset).
use Rattle.std.specs.Prelude.{◌≡◌, ◌≤◌, ◌<◌, ℕ, ◌+◌, ◌*◌, false, List, [], ◌∷◌, ◌++◌, length, drop, map, fold, Some, None, option_map}
use Rattle.std.specs.List.{filter_map}
use Rattle.sh_tree.specs.standard.program.Syntax.{Text, Word}
use Rattle.sh_runs.specs.Counts.{count_of, least_fields}
use Rattle.sh_runs.specs.Profile.{Static}
use Rattle.sh_runs.specs.standard.runs.Answers.{Answer}
use Rattle.sh_runs.specs.standard.runs.Builtins.{unset_names}
use Rattle.sh_runs.specs.standard.runs.Environment.{Environment, Frame}
use Rattle.sh_runs.specs.standard.runs.Numbers.{number_in}
use Rattle.sh_runs.specs.standard.runs.Operands.{Removal, unset_operands, set_words}
use Rattle.sh_operands.specs.declared.counts.Total.{Total}
use Rattle.sh_operands.specs.Fields.{no_fields, counted_word}
use Rattle.sh_table.specs.Numerals.{most, capped}
use Rattle.sh_operands.specs.Texts.{no_letters, removal_in, takes_variables, takes_functions, unset_behind, positional_at}

-- the static texts of operands
abbrev pub listed : List Static → List Text
listed ts = filter_map (λ t. t) ts

-- what `unset` removes is what the letters of its options say, and its operands are those after
-- them
abbrev pub UnsetReads : Type 0
UnsetReads = (ts : List Static) → unset_operands (listed ts) ≡ (removal_in (unset_behind no_letters ts).0, listed (unset_behind no_letters ts).1)

-- No run removes what `unset` does not take: the variables stay as they are, and the functions.
pub record UnsetKeeps : Type 0 where
  pub variables : (e : Environment) (a : Answer) (x : Removal × List Text) → takes_variables x.0 ≡ false → (unset_names e a x).variables ≡ e.variables
  pub functions : (e : Environment) (a : Answer) (x : Removal × List Text) → takes_functions x.0 ≡ false → (unset_names e a x).functions ≡ e.functions

-- the positional words of `set` are the operands after so many, if all are static
abbrev pub SetReads : Type 0
SetReads = (ts : List Text) → set_words ts ≡ option_map (λ i. drop i ts) (positional_at false (map Some ts))

-- if static operands in front say how many, nothing after them says otherwise, static or not,
-- whatever fields it gives
abbrev pub SetStays : Type 0
SetStays = (ts : List Text) (us : List Static) (fields : List Text) (i : ℕ) → positional_at false (map Some ts) ≡ Some i
    → (positional_at false (map Some ts ++ us) ≡ Some i) × (set_words (ts ++ fields) ≡ Some (drop i ts ++ fields))

-- A number that is found is the one that the text writes, except for the greatest, which means
-- itself and all above. If none is found, the text writes none.
pub record NumbersRead : Type 0 where
  pub below : (t : Text) (n : ℕ) → n < most → option_map capped (number_in t) ≡ Some n → number_in t ≡ Some n
  pub above : (t : Text) (n : ℕ) → option_map capped (number_in t) ≡ Some most → number_in t ≡ Some n → most ≤ n
  pub none : (t : Text) → option_map capped (number_in t) ≡ None → number_in t ≡ None

-- the least number of fields of words, if these are the parameters
unfoldable pub least_of : Frame → List Word → ℕ
least_of f [] = 0
least_of f (w ∷ ws) = least_fields f (count_of w) + least_of f ws

-- the number of fields that is found of them
abbrev pub told_of : Frame → Total → ℕ
told_of f t = t.ones + t.parameters * length f

-- No more fields are found than the words give at least, and no fewer if both counts are below the
-- greatest.
pub record FieldsCount : Type 0 where
  pub within : (f : Frame) (ws : List Word) → told_of f (fold counted_word no_fields ws) ≤ least_of f ws
  pub exact : (f : Frame) (ws : List Word) → (fold counted_word no_fields ws).ones < most → (fold counted_word no_fields ws).parameters < most
      → told_of f (fold counted_word no_fields ws) ≡ least_of f ws
