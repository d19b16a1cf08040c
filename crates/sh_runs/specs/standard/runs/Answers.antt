-- What a step leaves open: the results of commands and of expansions, and the choices that the
-- standard leaves to a shell.
-- POSIX.1-2024, XCU 2.6 (word expansions), 2.7 (redirection), 2.8 (exit status and errors), 2.9
-- (shell commands), 2.13 (shell execution environment), 2.15 (special built-in utilities), 3
-- (utilities).
use Rattle.std.specs.Prelude.{ℕ, Bool, List, Option, ℤ}
use Rattle.sh_tree.specs.standard.program.Syntax.{Text}

-- what one expansion, or one operation of arithmetic, takes (XCU 2.6)
pub record Given : Type 0 where
  -- bytes: those of `$0` and `$-`, the output of a substitution, what a removal leaves, a user's
  -- home
  pub text : Text
  -- the process number in `$$` or `$!`
  pub number : ℕ
  -- the result of an operation
  pub integer : ℤ
  -- an assignment or an operation fails, which ends the process (XCU 2.8.1)
  pub fails : Bool
  -- `x += e` reads x before e, and not after it (XCU 2.6.4)
  pub reads_first : Bool
  -- `!` goes into the copy for a substitution (XCU 2.13)
  pub carries : Bool

-- a byte of a field, and whether it was quoted (XCU 2.6.6)
pub record Marked : Type 0 where
  pub byte : ℕ
  pub quoted : Bool

-- the names that each pattern matches (XCU 2.6.6)
abbrev pub Directory : Type 0
Directory = List Marked → List Text

-- what one step takes
pub record Answer : Type 0 where
  -- Results

  -- what expansions take, one after another (XCU 2.6)
  pub given : ℕ → Given
  pub directory : Directory
  -- the status of a command (XCU 2.8.2)
  pub status : ℕ
  -- the redirection fails (XCU 2.7, 2.8.1)
  pub redirection_fails : Bool
  -- one that fails at a function or a compound command ends the process (XCU 2.8.1)
  pub redirection_ends : Bool
  -- one that fails without a command name skips what is left of the command (XCU 2.9.1.3)
  pub redirection_leaves_out : Bool
  -- the assignment fails, which ends the process (XCU 2.8.1)
  pub assignment_fails : Bool
  -- an error in a special built-in utility ends the process (XCU 2.8.1), or the command of `exec`
  -- is run in its place (XCU 2.15)
  pub special_ends : Bool
  -- the pattern matches (XCU 2.9.4.3)
  pub matches : Bool
  -- the values that `read`, `getopts` and `cd` give to their names, if they give one (XCU 3)
  pub values : ℕ → Option Text
  -- by place, the operands that `unset` removes though it fails (XCU 2.15)
  pub removes : ℕ → Bool
  -- by place, the variables and the functions that `unset` removes by options that the standard
  -- does not have
  pub removes_variable : ℕ → Bool
  pub removes_function : ℕ → Bool
  -- `set` gives its parameters though it fails (XCU 2.15)
  pub sets_parameters : Bool
  -- how many parameters `shift` removes if its operand is no number (XCU 2.15)
  pub count : ℕ
  -- Choices

  -- the parts of a pipeline that share the environment of their shell (XCU 2.13)
  pub shares : ℕ → Bool
  -- the prefix assignments that do not outlive a function (XCU 2.9.1.2)
  pub restores : ℕ → Bool
  -- an assignment comes before the redirections that are left (XCU 2.9.1.1); before a function or
  -- another utility all assignments do
  pub assignment_first : Bool
  -- The redirection is expanded in a copy: without a command name (XCU 2.9.1.3), and of a function
  -- or a utility, of which the standard is silent.
  pub redirection_in_copy : Bool
  -- the value of the prefix assignment of a function or a utility is expanded in a copy
  -- (XCU 2.9.1.2 is silent)
  pub value_in_copy : Bool
  -- the redirections of a subshell are expanded in its process (XCU 2.9.4.1 is silent)
  pub redirections_in_process : Bool
  -- the value of a prefix assignment before a utility sees the assignments before it (XCU 2.9.1.2)
  pub sees : Bool
  -- `unset` takes a function if there is no variable (XCU 2.15)
  pub takes_function : Bool
  -- the next pattern of a clause, among those that are left (XCU 2.9.4.3)
  pub pattern : ℕ
  -- `!` goes into the copies for the processes that are started (XCU 2.13)
  pub carries : ℕ → Bool
