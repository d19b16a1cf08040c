-- What built-in utilities read off their operands.
-- POSIX.1-2024, XBD 12.2 (utility syntax guidelines), XCU 2.15 (export, readonly, set, shift,
-- return, break, continue, unset, exec), 3 (read, getopts).
use Rattle.std.specs.Prelude.{ℕ, ◌+◌, ◌==◌, nat_lt, Bool, true, false, not, ◌&&◌, ◌||◌, if◌then◌else◌, List, [], ◌∷◌, ◌++◌, length, take, drop, filter, codes, Option, Some, None, option_and_then}
use Rattle.std.specs.List.{list_all, filter_map}
use Rattle.std.specs.Str.{bytes_eq}
use Rattle.sh_tree.specs.standard.language.Bytes.{is_first, is_name, name_length}
use Rattle.sh_tree.specs.standard.language.Commands.{is_assignment}
use Rattle.sh_tree.specs.standard.program.Syntax as p
use Rattle.sh_tree.specs.standard.program.Syntax.{Text}
use Rattle.sh_tree.specs.standard.program.Words.{static_of}
use Rattle.sh_runs.specs.standard.runs.Numbers.{number_in}

-- an operand as a name, `=` and a value (XCU 2.15, export)
unfoldable pub definition_in : Text → Option (Text × Text)
definition_in t = if is_assignment t then Some (take (name_length t) t, drop (name_length t + 1) t) else None

-- what `export` and `readonly` set (XCU 2.15)
abbrev pub definitions_in : List Text → List (Text × Text)
definitions_in operands = filter_map definition_in operands

-- Options: a word that begins with `-` and is longer (XBD 12.2)

unfoldable pub is_dashed : Text → Bool
is_dashed (c ∷ d ∷ cs) = c == 45
is_dashed _ = false

-- `--` ends the options (XBD 12.2)
abbrev pub ends_options : Text → Bool
ends_options t = bytes_eq t (codes "--")

-- What `unset` removes (XCU 2.15): by `-v` variables, by `-f` functions, without options a variable
-- or else a function. By both together, or by options that the standard does not have, it removes
-- either, both or none.
pub data Removal : Type 0 where
  OfVariables : Removal
  OfFunctions : Removal
  OfEither : Removal
  OfAny : Removal

-- what options of these letters remove (XCU 2.15, unset)
unfoldable pub removal_of : Text → Removal
removal_of [] = OfEither
removal_of (c ∷ cs) =
    if list_all (λ d. d == 118) (c ∷ cs) then OfVariables else (if list_all (λ d. d == 102) (c ∷ cs) then OfFunctions else OfAny)

-- the options' letters so far, and the names (XCU 2.15, unset)
unfoldable pub unset_from : Text → List Text → Removal × List Text
unset_from letters [] = (removal_of letters, [])
unset_from letters (t ∷ ts) =
    if ends_options t then (removal_of letters, ts)
    else (if is_dashed t then unset_from (letters ++ drop 1 t) ts else (removal_of letters, t ∷ ts))

abbrev pub unset_operands : List Text → Removal × List Text
unset_operands ts = unset_from [] ts

-- an option of `set` begins with `-` or `+`, and is longer (XCU 2.15)
unfoldable pub is_set_option : Text → Bool
is_set_option (c ∷ d ∷ cs) = c == 45 || c == 43
is_set_option _ = false

-- one that ends in `o` takes the next word
unfoldable pub ends_in_o : Text → Bool
ends_in_o [] = false
ends_in_o (c ∷ []) = c == 111
ends_in_o (c ∷ d ∷ cs) = ends_in_o (d ∷ cs)

-- the positional words of `set`, if there are some or `--` precedes them (XCU 2.15)
unfoldable pub set_from : Bool → List Text → Option (List Text)
set_from takes [] = None
set_from true (t ∷ ts) = set_from false ts
set_from false (t ∷ ts) = if ends_options t then Some ts else (if is_set_option t then set_from (ends_in_o t) ts else Some (t ∷ ts))

abbrev pub set_words : List Text → Option (List Text)
set_words ts = set_from false ts

-- the number that the first operand of `shift`, `break` or `continue` writes; without one it is 1
-- (XCU 2.15)
unfoldable pub count_operand : List Text → Option ℕ
count_operand [] = Some 1
count_operand (t ∷ ts) = number_in t

-- the status that `return` names (XCU 2.15): its operand, if that is static and a number below 256
unfoldable pub status_operand : p.Words → Option ℕ
status_operand p.no_words = None
status_operand (p.more_words name p.no_words) = None
status_operand (p.more_words name (p.more_words w ws)) = status_in (option_and_then number_in (static_of w))
  where
    status_in : Option ℕ → Option ℕ
    status_in None = None
    status_in (Some n) = if nat_lt n 256 then Some n else None

-- `exec` has a command (XCU 2.15): its first operand has bytes, and is no option
unfoldable pub has_command : List Text → Bool
has_command [] = false
has_command (t ∷ ts) = not (length t == 0) && not (is_first (λ c. c == 45) t)

-- The options of `read` (XCU 3): `-r`, and `-d` with its argument, the rest of the word or the next
-- word. Another one is none of the standard's.
pub data ReadOption : Type 0 where
  Complete : ReadOption
  TakesNext : ReadOption
  Other : ReadOption

unfoldable pub read_option : Text → ReadOption
read_option [] = Complete
read_option (c ∷ cs) = if c == 114 then read_option cs else (if c == 100 then (if length cs == 0 then TakesNext else Complete) else Other)

-- the operands of `read`, unless an option is another one (XCU 3); whether an option takes the next
-- word
unfoldable pub read_from : Bool → List Text → Option (List Text)
read_from takes [] = Some []
read_from true (t ∷ ts) = read_from false ts
read_from false (t ∷ ts) = if ends_options t then Some ts else (if is_dashed t then behind_option (read_option (drop 1 t)) (λ takes. read_from takes ts) else Some (t ∷ ts))
  where
    behind_option : ReadOption → (Bool → Option (List Text)) → Option (List Text)
    behind_option Complete rest = rest false
    behind_option TakesNext rest = rest true
    behind_option Other rest = None

-- its names (XCU 3, read)
abbrev pub read_names : List Text → Option (List Text)
read_names ts = names_of (read_from false ts)
  where
    names_of : Option (List Text) → Option (List Text)
    names_of None = None
    names_of (Some operands) = Some (filter is_name operands)

-- the name of `getopts`: its second operand, after `--` if that is first (XCU 3)
unfoldable pub second_name : List Text → Option Text
second_name (t ∷ name ∷ ts) = if is_name name then Some name else None
second_name _ = None

unfoldable pub getopts_name : List Text → Option Text
getopts_name [] = None
getopts_name (t ∷ ts) = if ends_options t then second_name ts else second_name (t ∷ ts)
