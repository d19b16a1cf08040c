-- What a shell keeps for the commands that it runs.
-- POSIX.1-2024, XCU 2.5 (parameters and variables), 2.6.5 (field splitting), 2.9.5 (functions),
-- 2.13 (shell execution environment).
use Rattle.std.specs.Prelude.{Bool, ◌&&◌, List, [], ◌∷◌, codes, Option, Some, if◌then◌else◌, unwrap_or}
use Rattle.std.specs.List.{list_any}
use Rattle.std.specs.Str.{bytes_eq}
use Rattle.sh_tree.specs.standard.program.Syntax.{Text, Command}

-- The shell execution environment (XCU 2.13): the variables that are set, each with its value, and
-- the functions that are defined, each with its body. `job`: `!` is set (XCU 2.5.2).
pub record Environment : Type 0 where
  pub variables : Text → Option Text
  pub functions : Text → Option Command
  pub job : Bool

-- the positional parameters (XCU 2.5.1)
abbrev pub Frame : Type 0
Frame = List Text

-- the text is one of these
abbrev pub is_one_of : List Text → Text → Bool
is_one_of names t = list_any (λ n. bytes_eq n t) names

-- the map with the value of one name changed
unfoldable pub put_text : {A : Type 0} → (Text → A) → Text → A → Text → A
put_text f name v t = if bytes_eq t name then v else f t

-- the environment after the variable got the value, or was unset (XCU 2.5.3)
abbrev pub with_variable : Environment → Text → Option Text → Environment
with_variable e name v = record e { variables = put_text e.variables name v }

-- the environment after the function was defined, or unset (XCU 2.9.5)
abbrev pub with_function : Environment → Text → Option Command → Environment
with_function e name body = record e { functions = put_text e.functions name body }

-- the environment in which these names have these values
unfoldable pub showing : Environment → List (Text × Text) → Environment
showing e [] = e
showing e (x ∷ xs) = showing (with_variable e x.0 (Some x.1)) xs

-- the second environment, in which these names have what they have in the first
unfoldable pub hiding : {A : Type 0} → Environment → List (Text × A) → Environment → Environment
hiding e [] d = d
hiding e (x ∷ xs) d = hiding e xs (with_variable d x.0 (e.variables x.0))

-- a copy of the environment, for a process that is started (XCU 2.13): shells differ in whether it
-- has `!`
abbrev pub copied : Bool → Environment → Environment
copied carries e = record e { job = e.job && carries }

-- space, tab and newline (XCU 2.6.5)
abbrev pub blanks : Text
blanks = 32 ∷ 9 ∷ 10 ∷ []

-- the separators of fields: the bytes of IFS, or space, tab and newline if it is not set
-- (XCU 2.6.5)
abbrev pub separators : Environment → Text
separators e = unwrap_or (e.variables (codes "IFS")) blanks
