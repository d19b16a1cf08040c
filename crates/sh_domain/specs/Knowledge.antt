-- What is known at a place, by sets of the numbers of names.
-- The standard has no such thing: the variables that are set and the functions that are defined
-- (XCU 2.5, 2.9.5), by their numbers.
use Rattle.std.specs.Prelude.{◌≡◌, ◌≤◌, ℕ, Bool, true, false, ◌&&◌, List, [], ◌∷◌, filter, length, Option, Some, None, slice_get}
use Rattle.std.specs.List.{list_all}
use Rattle.sh_tree.specs.declared.limits.TheConstants.{MAX_NAMES}
use Rattle.sh_tree.specs.declared.tree.Script.{Script}
use Rattle.sh_tree.specs.standard.program.Syntax.{Text}
use Rattle.sh_runs.specs.standard.runs.Environment.{is_one_of}
use Rattle.sh_domain.specs.declared.knowledge.Assured.{Assured}
use Rattle.sh_domain.specs.declared.knowledge.Knowledge.{Knowledge}
use Rattle.sh_domain.specs.declared.knowledge.Knowledge.TheVariants as kind
use Rattle.sh_domain.specs.declared.number_set.NumberSet.{NumberSet}
use Rattle.sh_domain.specs.Facts.{Facts, NotReached, Known, Declared, start_facts}
use Rattle.sh_domain.specs.Gains.{Gains, with_gains}
use Rattle.sh_domain.specs.Names.{IsNumbering, number_of}
use Rattle.sh_domain.specs.NumberSets.{numbers_of}
use Rattle.sh_domain.specs.Views.{Certificate, Define, Lose, step}

-- the test of a name's number, which fails if it has none
unfoldable pub at_number : (ℕ → Bool) → Option ℕ → Bool
at_number p None = false
at_number p (Some k) = p k

-- the name is in the set, by its number
abbrev pub contains : List Text → NumberSet → Text → Bool
contains names s t = at_number (numbers_of s) (number_of names t)

-- the facts that these names' numbers mean
abbrev pub assured_facts : List Text → Assured → Facts
assured_facts names s = Known (contains names s.vars) (contains names s.functions) s.args

unfoldable pub knowledge_facts : List Text → Knowledge → Facts
knowledge_facts names kind.NotReached = NotReached
knowledge_facts names (kind.Known s) = assured_facts names s

-- the facts, of these names alone
unfoldable pub among : List Text → Facts → Facts
among names NotReached = NotReached
among names (Known v f a) = Known (λ t. is_one_of names t && v t) (λ t. is_one_of names t && f t) a

-- Each name is found at its place, so none occurs twice; and there are no more than may be.
pub record AreNumbered (names : List Text) : Type 0 where
  pub own : (k : ℕ) (t : Text) → slice_get names k ≡ Some t → number_of names t ≡ Some k
  pub few : length names ≤ MAX_NAMES

-- The names of a script suffice. They are numbered, and those of the start are among them. Of what
-- is gained, those of these names are known. A step over facts of such names by such names stays
-- among them.
pub record NamesSuffice : Type 0 where
  pub numbered : (b : List ℕ) (t : Script) (d : Declared) (names : List Text) → IsNumbering b t d names → length names ≤ MAX_NAMES → AreNumbered names
  pub start : (b : List ℕ) (t : Script) (d : Declared) (names : List Text) → IsNumbering b t d names → among names (start_facts d) ≡ start_facts d
  pub known : (names : List Text) (k : Knowledge) → among names (knowledge_facts names k) ≡ knowledge_facts names k
  pub told : (names : List Text) (k : Knowledge) (g : Gains)
      → among names (with_gains g (knowledge_facts names k)) ≡ with_gains (record { names = filter (is_one_of names) g.names; args = g.args }) (knowledge_facts names k)
  pub gained : (names : List Text) (k : Knowledge) (g : Gains) → list_all (is_one_of names) g.names ≡ true
      → among names (with_gains g (knowledge_facts names k)) ≡ with_gains g (knowledge_facts names k)
  pub defined : (names : List Text) (k : Knowledge) (c : Certificate) (function : Text) → is_one_of names function ≡ true
      → among names (step c (Define function) (knowledge_facts names k)) ≡ step c (Define function) (knowledge_facts names k)

-- A name that is lost with others may be lost before them.
pub record LostOneByOne : Type 0 where
  pub variable : (c : Certificate) (name : Text) (vars functions : List Text) (f : Facts)
      → step c (Lose (record { vars = name ∷ vars; functions = functions })) f
      ≡ step c (Lose (record { vars = vars; functions = functions })) (step c (Lose (record { vars = name ∷ []; functions = [] })) f)
  pub function : (c : Certificate) (name : Text) (vars functions : List Text) (f : Facts)
      → step c (Lose (record { vars = vars; functions = name ∷ functions })) f
      ≡ step c (Lose (record { vars = vars; functions = functions })) (step c (Lose (record { vars = []; functions = name ∷ [] })) f)
