-- The names of a script, each with a number from 0.
-- POSIX.1-2024, XCU 2.5.3 (shell variables): the names that every script has, those that are
-- declared, and those in the text.
use Rattle.std.specs.Prelude.{◌≡◌, ◌≤◌, ◌<◌, ℕ, Bool, true, false, not, ◌&&◌, List, [], ◌∷◌, ◌++◌, if◌then◌else◌, length, map, fold, codes, Option, Some, None, slice_get, Result, Ok, Err}
use Rattle.std.specs.List.{flat_map, list_any, position_from}
use Rattle.std.specs.List.Sorted.{IsPermutation, IsNonDecreasingBy}
use Rattle.std.specs.Str.{bytes_eq}
use Rattle.sh_tree.specs.declared.limits.TheConstants.{MAX_NAMES}
use Rattle.sh_tree.specs.declared.tree.Script.{Script}
use Rattle.sh_tree.specs.declared.tree.Command.{Command}
use Rattle.sh_tree.specs.declared.refusal.Refusal.{Refusal}
use Rattle.sh_tree.specs.declared.refusal.Refusal.TheVariants.{TooMany, Memory}
use Rattle.sh_tree.specs.standard.program.Syntax.{Text}
use Rattle.sh_tree.specs.Commands.{commands_of}
use Rattle.sh_runs.specs.standard.runs.Environment.{is_one_of}
use Rattle.sh_runs.specs.standard.runs.Worlds.{start_names}
use Rattle.sh_domain.specs.Facts.{Declared}
use Rattle.sh_domain.specs.Sights.{Sight, in_command}

-- numbered first, whether a script has them or not
abbrev pub first_names : List Text
first_names = start_names ++ codes "OPTARG" ∷ codes "!" ∷ []

-- the names with one more at the end, unless it is there
abbrev pub with_text : List Text → Text → List Text
with_text names t = if is_one_of names t then names else names ++ t ∷ []

-- no name is there twice
unfoldable pub are_distinct : List Text → Bool
are_distinct [] = true
are_distinct (t ∷ ts) = not (is_one_of ts t) && are_distinct ts

-- the names in the text, those of its commands, whatever the order in which these are taken, by
-- their offsets
pub record IsInTextOrder (b : List ℕ) (t : Script) (seen : List Sight) : Type 0 where
  pub commands : List Command
  pub all_commands : IsPermutation (commands_of t) commands
  pub all : IsPermutation (flat_map (in_command b) commands) seen
  pub ordered : IsNonDecreasingBy (λ x. x.at) seen

-- each name once, by first sight: the first names, the declared ones, those in the text
abbrev pub numbering : Declared → List Sight → List Text
numbering d seen = fold with_text [] (first_names ++ d.names ++ map (λ x. x.name) seen)

-- the number of a name
abbrev pub number_of : List Text → Text → Option ℕ
number_of names t = position_from (λ n. bytes_eq n t) 0 names

-- the names of a text, each once
pub record IsNumbering (b : List ℕ) (t : Script) (d : Declared) (names : List Text) : Type 0 where
  pub seen : List Sight
  pub in_order : IsInTextOrder b t seen
  pub each_once : names ≡ numbering d seen

-- there are more names than may be
pub record HasTooMany (b : List ℕ) (t : Script) (d : Declared) : Type 0 where
  pub names : List Text
  pub numbered : IsNumbering b t d names
  pub more : MAX_NAMES < length names

-- The names are numbered unless there are too many.
abbrev pub Numbers : List ℕ → Script → Declared → Result (List Text) Refusal → Type 0
Numbers b t d (Ok names) = IsNumbering b t d names × (length names ≤ MAX_NAMES)
Numbers b t d (Err TooMany) = HasTooMany b t d
Numbers b t d (Err Memory) = Unit {0}
Numbers b t d (Err _) = ⊥

-- why these, all of them, are not numbered
abbrev pub Refuses : List Text → Refusal → Type 0
Refuses names TooMany = MAX_NAMES < length names
Refuses names Memory = Unit {0}
Refuses names _ = ⊥

-- Numbers of names

-- the number is that of the name
unfoldable pub is_name_of : Option Text → Text → Bool
is_name_of None t = false
is_name_of (Some n) t = bytes_eq t n

-- the number is that of one of these
abbrev pub is_among : List Text → List Text → ℕ → Bool
is_among names ts k = list_any (λ t. is_name_of (slice_get names k) t) ts
