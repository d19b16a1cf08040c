-- What the name of a command means.
-- POSIX.1-2024, XCU 2.4 (reserved words), 2.9.1.1 (declaration utilities), 2.9.1.4 (command search
-- and execution), 2.15 (special built-in utilities), 3 (utilities). A name that no table here has
-- is a utility that changes no variable and no function.
use Rattle.std.specs.Prelude.{ℕ, ◌==◌, Bool, true, false, length, List, [], ◌∷◌, ◌++◌, map, codes, if◌then◌else◌}
use Rattle.std.specs.List.{filter}
use Rattle.std.specs.Str.{bytes_eq}
use Rattle.sh_tree.specs.standard.Texts.{known_text}
use Rattle.sh_tree.specs.declared.known.KnownName.{KnownName}
use Rattle.sh_tree.specs.declared.known.KnownName.TheVariants as known
use Rattle.sh_tree.specs.standard.program.Syntax.{Text}
use Rattle.sh_runs.specs.declared.kind.Kind.{Kind}
use Rattle.sh_runs.specs.declared.kind.Kind.TheVariants as kind

-- names of commands, each with what it means
abbrev pub Table : Type 0
Table = List (Text × Kind)

-- what the first row with the name says
unfoldable pub look_up : Table → Text → Kind
look_up [] t = kind.Utility
look_up (x ∷ xs) t = if bytes_eq x.0 t then x.1 else look_up xs t

abbrev pub special : KnownName → Text × Kind
special n = (known_text n, kind.Special n)

-- the special built-in utilities (XCU 2.15)
abbrev pub special_names : Table
special_names =
    map special
    (known.Break ∷ known.Colon ∷ known.Continue ∷ known.Dot ∷ known.Eval ∷ known.Exec ∷ known.Exit ∷ known.Export ∷ known.Readonly ∷ known.Return ∷ known.Set
    ∷ known.Shift ∷ known.Times ∷ known.Trap ∷ known.Unset ∷ [])

-- other utilities that change what is set, run a command by its name, or have a known status
-- (XCU 3)
abbrev pub known_names : Table
known_names =
    (codes "cd", kind.Cd) ∷ (codes "command", kind.Command) ∷ (codes "false", kind.False) ∷ (codes "getopts", kind.Getopts) ∷ (codes "read", kind.Read)
    ∷ (codes "true", kind.True) ∷ []

abbrev pub refused : KnownName → Text × Kind
refused n = (known_text n, kind.Refused n)

-- Utilities that run what is in no reading of a script (XCU 3). Names whose results the standard
-- leaves open (XCU 2.9.1.4). Words that other shells reserve (XCU 2.4).
abbrev pub refused_names : Table
refused_names =
    map refused
    (known.Alias ∷ known.Unalias ∷ known.Fc ∷ known.Local ∷ known.Typeset ∷ known.Declare ∷ known.Source ∷ known.Let ∷ known.Builtin
    ∷ known.Nameref ∷ known.Integer ∷ known.Float ∷ known.Mapfile ∷ known.Readarray ∷ known.Shopt ∷ known.LeftBrackets ∷ known.RightBrackets ∷ known.Function
    ∷ known.Select ∷ known.Time ∷ known.Namespace ∷ [])

-- the names that are no mere utilities (XCU 2.9.1.4)
abbrev pub all_names : Table
all_names = special_names ++ known_names ++ refused_names

-- what the name means (XCU 2.9.1.4)
unfoldable pub kind_of : Text → Kind
kind_of t = look_up all_names t

-- the name that has a kind; of a utility, none
unfoldable pub name_of : Kind → Text
name_of (kind.Special n) = known_text n
name_of (kind.Refused n) = known_text n
name_of kind.Cd = codes "cd"
name_of kind.Command = codes "command"
name_of kind.False = codes "false"
name_of kind.Getopts = codes "getopts"
name_of kind.Read = codes "read"
name_of kind.True = codes "true"
name_of kind.Utility = []

abbrev pub rows_of : List Kind → Table
rows_of ks = map (λ k. (name_of k, k)) ks

-- the rows of names of so many bytes
unfoldable pub of_length : ℕ → Table
of_length n = filter (λ x. length x.0 == n) all_names

-- a declaration utility: its operands that are assignments in form are not split (XCU 2.9.1.1)
unfoldable pub is_declaration : Kind → Bool
is_declaration (kind.Special known.Export) = true
is_declaration (kind.Special known.Readonly) = true
is_declaration _ = false

-- a special built-in utility (XCU 2.15)
unfoldable pub is_special : Kind → Bool
is_special (kind.Special name) = true
is_special _ = false
