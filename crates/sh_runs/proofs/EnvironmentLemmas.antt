-- What is set in an environment, and what stays of one where variables change.
use Rattle.std.proofs.Common.{◌≡◌, ℕ, ◌+◌, ◌==◌, not, ◌||◌, Bool, true, false, if◌then◌else◌, Option, Some, None, is_some, List, [], ◌∷◌, codes}
use Rattle.sh_tree.specs.standard.program.Syntax.{Text}
use Rattle.sh_runs.specs.standard.runs.Environment.{Environment, is_one_of, with_variable, with_function, showing, hiding}
use Rattle.sh_runs.specs.standard.runs.Answers.{Answer}
use Rattle.sh_runs.specs.standard.runs.Operands.{Removal, OfVariables, OfFunctions, OfEither, OfAny}
use Rattle.sh_runs.specs.standard.runs.Work.{Saved}
use Rattle.sh_runs.specs.standard.runs.Builtins.{is_removed, removed_either, removed_any, removed, removed_all, restored, given_to, read_into, gets_option, changes_directory}

-- these names are set
unfoldable pub AreSet : {A : Type 0} → List (Text × A) → Environment → Type 0
AreSet [] e = Unit {0}
AreSet (x ∷ xs) e = (is_some (e.variables x.0) ≡ true) × AreSet xs e

-- what holds of both holds of either
pub if_either : {A : Type 0} (R : A → Type 0) (b : Bool) (x y : A) → R x → R y → R (if b then x else y)
if_either R true x y h k = h
if_either R false x y h k = k

-- P stays if a variable gets a value or is removed
module _ (P : Environment → Type 0) (kept : (e : Environment) (name : Text) (v : Option Text) → P e → P (with_variable e name v)) where
  pub showing_kept : (e : Environment) (xs : List (Text × Text)) → P e → P (showing e xs)
  unfolding showing
  showing_kept e [] h = h
  showing_kept e (x ∷ xs) h = showing_kept (with_variable e x.0 (Some x.1)) xs (kept e x.0 (Some x.1) h)

  pub hiding_kept : {A : Type 0} (e : Environment) (xs : List (Text × A)) (d : Environment) → P d → P (hiding e xs d)
  unfolding hiding
  hiding_kept e [] d h = h
  hiding_kept e (x ∷ xs) d h = hiding_kept e xs (with_variable d x.0 (e.variables x.0)) (kept d x.0 (e.variables x.0) h)

  pub restored_kept : (restores : ℕ → Bool) (n : ℕ) (e : Environment) (xs : Saved) → P e → P (restored restores n e xs)
  unfolding restored
  restored_kept restores n e [] h = h
  restored_kept restores n e (x ∷ xs) h =
      restored_kept restores (n + 1) (if restores n then with_variable e x.0 x.1 else e) xs (if_either P (restores n) (with_variable e x.0 x.1) e (kept e x.0 x.1 h) h)

  given_kept : (may_stay : Bool) (e : Environment) (name : Text) (v : Option Text) → P e → P (given_to may_stay e name v)
  unfolding given_to
  given_kept may_stay e name (Some t) h = kept e name (Some t) h
  given_kept true e name None h = h
  given_kept false e name None h = kept e name (Some []) h

  pub read_kept : (prefixes : List Text) (a : Answer) (n : ℕ) (e : Environment) (names : List Text) → P e → P (read_into prefixes a n e names)
  unfolding read_into
  read_kept prefixes a n e [] h = h
  read_kept prefixes a n e (name ∷ names) h =
      read_kept prefixes a (n + 1) _ names (given_kept (not (a.status == 0) || is_one_of prefixes name) e name (a.values n) h)

  pub option_kept : (prefixes : List Text) (e : Environment) (a : Answer) (name : Option Text) → P e → P (gets_option prefixes e a name)
  unfolding gets_option
  option_kept prefixes e a None h = kept _ (codes "OPTARG") (a.values 2) (given_kept true e (codes "OPTIND") (a.values 1) h)
  option_kept prefixes e a (Some name) h = kept _ (codes "OPTARG") (a.values 2) (read_kept prefixes a 0 e (name ∷ codes "OPTIND" ∷ []) h)

  pub directory_kept : (e : Environment) (a : Answer) → P e → P (changes_directory e a)
  unfolding changes_directory
  directory_kept e a h = given_kept true _ (codes "OLDPWD") (a.values 1) (given_kept true e (codes "PWD") (a.values 0) h)

-- P stays if a variable or a function is removed
module _ (P : Environment → Type 0) (unset : (e : Environment) (name : Text) → P e → P (with_variable e name None)) (undefined : (e : Environment) (name : Text) → P e → P (with_function e name None)) where
  removed_kept : (removal : Removal) (a : Answer) (n : ℕ) (e : Environment) (name : Text) → P e → P (removed removal a n e name)
  unfolding removed removed_either removed_any
  removed_kept OfVariables a n e name h = if_either P (is_removed a n) _ e (unset e name h) h
  removed_kept OfFunctions a n e name h = if_either P (is_removed a n) _ e (undefined e name h) h
  removed_kept OfEither a n e name h =
      if_either P (is_removed a n) _ e
      (if_either P (is_some (e.variables name)) _ _ (unset e name h) (if_either P a.takes_function _ e (undefined e name h) h))
      h
  removed_kept OfAny a n e name h =
      let d : Environment = if a.removes_variable n then with_variable e name None else e in
      let there : P d = if_either P (a.removes_variable n) _ e (unset e name h) h in
      if_either P (a.removes_function n) (with_function d name None) d (undefined d name there) there

  pub all_removed_kept : (removal : Removal) (a : Answer) (n : ℕ) (e : Environment) (names : List Text) → P e → P (removed_all removal a n e names)
  unfolding removed_all
  all_removed_kept removal a n e [] h = h
  all_removed_kept removal a n e (name ∷ names) h = all_removed_kept removal a (n + 1) (removed removal a n e name) names (removed_kept removal a n e name h)
