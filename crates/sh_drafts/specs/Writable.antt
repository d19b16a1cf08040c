-- Which numbers are those of names that a text of a certificate may have.
-- The standard has no such thing: the names of variables, `!` among them, and of functions (XBD
-- 3.216), by their numbers.
use Rattle.std.specs.Prelude.{◌≡◌, ◌<◌, ℕ, true, List, Some, slice_get}
use Rattle.sh_tree.specs.standard.language.Bytes.{is_name}
use Rattle.sh_tree.specs.standard.program.Syntax.{Text}
use Rattle.sh_domain.specs.Forms.{is_variable}
use Rattle.sh_domain.specs.declared.number_set.NumberSet.{NumberSet}
use Rattle.sh_domain.specs.NumberSets.{numbers_of}
use Rattle.sh_drafts.specs.Working.{Sets}

abbrev pub sets_in : NumberSet → NumberSet → Sets
sets_in vars functions = record { vars = numbers_of vars; functions = numbers_of functions }

-- each number that is one of these names is that of a name that may be there
pub record IsWritten (names : List Text) (s : Sets) : Type 0 where
  pub vars : (k : ℕ) (t : Text) → slice_get names k ≡ Some t → s.vars k ≡ true → is_variable t ≡ true
  pub functions : (k : ℕ) (t : Text) → slice_get names k ≡ Some t → s.functions k ≡ true → is_name t ≡ true

-- each number below this one that is of a name that may be there is one of these
pub record HasWritable (names : List Text) (n : ℕ) (s : Sets) : Type 0 where
  pub vars : (k : ℕ) (t : Text) → k < n → slice_get names k ≡ Some t → is_variable t ≡ true → s.vars k ≡ true
  pub functions : (k : ℕ) (t : Text) → k < n → slice_get names k ≡ Some t → is_name t ≡ true → s.functions k ≡ true
