-- What a rule lets a fact claim: what is seen at other places, and steps over it.
-- POSIX.1-2024, XCU 2.5 (parameters and variables), 2.9.5 (functions), 2.15 (set, shift, unset).
use Rattle.std.specs.Prelude.{ℕ, ◌+◌, ◌-◌, ◌*◌, min, Bool, true, false, not, ◌&&◌, ◌||◌, if◌then◌else◌, List, [], ◌∷◌, ◌++◌, map, codes, filter}
use Rattle.std.specs.Str.{bytes_eq}
use Rattle.sh_tree.specs.standard.program.Syntax.{Text}
use Rattle.sh_runs.specs.standard.runs.Environment.{is_one_of}
use Rattle.sh_domain.specs.Facts.{Facts, NotReached, Known, Claim, facts, claims, Variable}
use Rattle.sh_domain.specs.Gains.{Gains, named, with_gains, job}
use Rattle.sh_domain.specs.Operands.{Names, no_names, Total}

-- The places of which a certificate claims something: before a command and after it, by its status;
-- each turn of a loop; where a function is entered, and where it returns, by its status.
pub data Slot : Type 0 where
  Before : (number : ℕ) → Slot
  AfterZero : (number : ℕ) → Slot
  AfterNonzero : (number : ℕ) → Slot
  Head : (number : ℕ) → Slot
  Entry : (function : Text) → Slot
  ReturnsZero : (function : Text) → Slot
  ReturnsNonzero : (function : Text) → Slot

-- what a certificate claims: a fact for each place, and for each function the names that a call of
-- it may drop
pub record Certificate : Type 0 where
  pub claim : Slot → Claim
  pub drops : Text → Names

-- A step over facts.
pub data Step : Type 0 where
  -- these are set
  Gain : Gains → Step
  -- the function is defined
  Define : (function : Text) → Step
  -- these may be gone
  Lose : Names → Step
  -- the positional parameters are these words
  Count : Total → Step
  -- so many of them are gone
  Shift : (count : ℕ) → Step
  -- the function was called, with prefix assignments of these names, and returned there
  Call : (function : Text) (return : Slot) (prefixes : List Text) → Step

-- Where something is seen: at the start, or at another place.
pub data Source : Type 0 where
  Start : Source
  At : (slot : Slot) → Source

pub record View : Type 0 where
  pub source : Source
  pub steps : List Step

-- What is known is what all of these views claim; if there is none, anything may be claimed.
abbrev pub Seen : Type 0
Seen = List View

abbrev pub anything : Seen
anything = []

-- what is seen at one place
abbrev pub at : Slot → Seen
at s = record { source = At s; steps = [] } ∷ []

abbrev pub at_start : Seen
at_start = record { source = Start; steps = [] } ∷ []

abbrev pub extended : Step → View → View
extended x v = record v { steps = v.steps ++ x ∷ [] }

-- what is known after one more step
abbrev pub stepped : Step → Seen → Seen
stepped x s = map (extended x) s

abbrev pub gaining : Gains → Seen → Seen
gaining g s = stepped (Gain g) s

abbrev pub gaining_names : List Text → Seen → Seen
gaining_names names s = gaining (named names) s

-- a process that is started may have no `!`
abbrev pub without_job : Seen → Seen
without_job s = stepped (Lose (record { vars = job ∷ []; functions = [] })) s

-- what is known after a status of zero, and after another one
pub data After : Type 0 where
  Both : Seen → After
  Each : (zero nonzero : Seen) → After

unfoldable pub if_zero : After → Seen
if_zero (Both s) = s
if_zero (Each z n) = z

unfoldable pub if_nonzero : After → Seen
if_nonzero (Both s) = s
if_nonzero (Each z n) = n

-- whatever the status was
unfoldable pub in_any_case : After → Seen
in_any_case (Both s) = s
in_any_case (Each z n) = z ++ n

unfoldable pub swapped : Bool → After → After
swapped false o = o
swapped true o = Each (if_nonzero o) (if_zero o)

-- after a command
abbrev pub after_command : ℕ → After
after_command n = Each (at (AfterZero n)) (at (AfterNonzero n))

-- What the steps do to facts

-- if no run comes to a place, none comes to what follows
unfoldable pub where_known : ((Text → Bool) → (Text → Bool) → ℕ → Facts) → Facts → Facts
where_known step NotReached = NotReached
where_known step (Known v f a) = step v f a

abbrev pub kept : List Text → (Text → Bool) → Text → Bool
kept names v x = v x && not (is_one_of names x)

abbrev pub most_fields : ℕ
most_fields = 65535

-- as many as the words give at least, counted up to 65,535
abbrev pub counted_by : Total → ℕ → ℕ
counted_by n a = min most_fields (n.ones + n.parameters * a)

-- if no function is surely defined, a built-in utility may run, and `getopts` may unset OPTARG
unfoldable pub passes : Text → Text → Bool
passes function x = not (bytes_eq function (codes "getopts") && bytes_eq x (codes "OPTARG"))

-- The function returns with these facts: what was known and is not dropped, and what is known where
-- it returns. But the name of a prefix assignment is known only if it was before. The positional
-- parameters are those of the caller.
unfoldable pub returned : Names → List Text → Facts → (Text → Bool) → (Text → Bool) → ℕ → Facts
returned d prefixes NotReached v f a = NotReached
returned d prefixes (Known w g b) v f a =
    Known (λ x. (kept d.vars v x || w x) && (v x || not (is_one_of prefixes x))) (λ x. kept d.functions f x || g x) a

-- if it may be undefined: what was known and is not dropped
abbrev pub left : Names → Text → (Text → Bool) → (Text → Bool) → ℕ → Facts
left d function v f a = Known (λ x. kept d.vars v x && passes function x) (λ x. kept d.functions f x) a

-- a call: if the function is surely defined it returns, and otherwise what was known and is not
-- dropped is known
unfoldable pub called : Names → Facts → Text → List Text → Facts → Facts
called d r function prefixes g = where_known (λ v f a. if f function then returned d prefixes r v f a else left d function v f a) g

-- what is known after a step
unfoldable pub step : Certificate → Step → Facts → Facts
step c (Gain g) f = with_gains g f
step c (Define name) f = where_known (λ v g a. Known v (λ x. bytes_eq name x || g x) a) f
step c (Lose names) f = where_known (λ v g a. Known (kept names.vars v) (kept names.functions g) a) f
step c (Count n) f = where_known (λ v g a. Known v g (counted_by n a)) f
step c (Shift n) f = where_known (λ v g a. Known v g (a - n)) f
step c (Call function return prefixes) f = called (c.drops function) (facts (c.claim return)) function prefixes f

unfoldable pub steps : Certificate → List Step → Facts → Facts
steps c [] f = f
steps c (x ∷ xs) f = steps c xs (step c x f)

unfoldable pub source_facts : Facts → Certificate → Source → Facts
source_facts start c Start = start
source_facts start c (At s) = facts (c.claim s)

-- what a view claims
abbrev pub view_facts : Facts → Certificate → View → Facts
view_facts start c v = steps c v.steps (source_facts start c v.source)

-- Drops

-- What a command may drop.
pub data Loss : Type 0 where
  -- these
  OfNames : Names → Loss
  -- what the function drops
  OfFunction : (function : Text) → Loss
  -- those variables that are not seen there
  OfUnseen : (vars : List Text) → View → Loss

unfoldable pub where_reached : Facts → Names → Names
where_reached NotReached names = no_names
where_reached (Known v f a) names = names

-- the names that a command drops, if it is reached
unfoldable pub lost : Facts → Certificate → ℕ → Loss → Names
lost start c n (OfNames names) = where_reached (facts (c.claim (Before n))) names
lost start c n (OfFunction function) = where_reached (facts (c.claim (Before n))) (c.drops function)
lost start c n (OfUnseen vars v) = record { vars = filter (λ x. not (claims (view_facts start c v) (Variable x))) vars; functions = [] }
