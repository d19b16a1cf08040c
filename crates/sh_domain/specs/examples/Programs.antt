-- How the examples write known scripts, their certificates and what is reported of them.
-- The standard has no such thing: `Unmet` are the places of a certificate that breaks no rule,
-- `Breaks` is the first rule that one breaks.
use Rattle.std.specs.Prelude.{ℕ, ◌-◌, ◌==◌, Bool, false, if◌then◌else◌, List, [], ◌∷◌, ◌++◌, map, Option, Some, None, unwrap_or, slice_get}
use Rattle.std.specs.Str.{bytes_eq}
use Rattle.sh_tree.specs.declared.place.Place.{Place}
use Rattle.sh_tree.specs.declared.place.Code.{Code}
use Rattle.sh_tree.specs.examples.Program.{only, plain}
use Rattle.sh_tree.specs.standard.program.Syntax.{Text, Parameter, Variable, Part, Double, Expansion, Value, Items, Command, command, Kind, no_redirects, Elements, operand}
use Rattle.sh_domain.specs.declared.rule.FlowRule.{FlowRule}
use Rattle.sh_domain.specs.Demands.{demands}
use Rattle.sh_domain.specs.Facts.{Claim, Unreached, Claimed, Declared, start_facts}
use Rattle.sh_domain.specs.Faults.{Fault, faults, least}
use Rattle.sh_domain.specs.Operands.{Names, no_names}
use Rattle.sh_domain.specs.Views.{Slot, Before, AfterZero, AfterNonzero, Head, Entry, ReturnsZero, ReturnsNonzero, Certificate}

-- Programs

-- `"$x"`, and another parameter in quotes
abbrev pub quoted : ℕ → Text → Part
quoted at name = Double (only (Expansion at (Variable name) Value))

abbrev pub quoted_parameter : ℕ → Parameter → Part
quoted_parameter at parameter = Double (only (Expansion at parameter Value))

-- a word of plain bytes, before other elements
abbrev pub text : Text → Elements → Elements
text t es = operand (plain t) es

abbrev pub compound : ℕ → ℕ → Kind → Command
compound n at kind = command n at kind no_redirects

-- Certificates

-- the names in a text, with one blank between two
unfoldable pub names_from : Text → Text → List Text
names_from t [] = t ∷ []
names_from t (c ∷ cs) = if c == 32 then t ∷ names_from [] cs else names_from (t ++ c ∷ []) cs

unfoldable pub names_in : Text → List Text
names_in [] = []
names_in (c ∷ cs) = names_from [] (c ∷ cs)

abbrev pub known : Text → Text → ℕ → Claim
known vars functions args = Claimed (names_in vars) (names_in functions) args

abbrev pub dropping : Text → Text → Names
dropping vars functions = record { vars = names_in vars; functions = names_in functions }

-- what is claimed of a command: before it, after zero, after another status
pub record Row : Type 0 where
  pub before : Claim
  pub zero : Claim
  pub nonzero : Claim

abbrev pub row : Claim → Claim → Claim → Row
row b z n = record { before = b; zero = z; nonzero = n }

-- of a function: where it is entered, what it drops, where it returns
pub record Function : Type 0 where
  pub name : Text
  pub entry : Claim
  pub drops : Names
  pub zero : Claim
  pub nonzero : Claim

abbrev pub function : Text → Claim → Names → Claim → Claim → Function
function name e drops z n = record { name = name; entry = e; drops = drops; zero = z; nonzero = n }

-- the commands by their numbers from 1, the heads of loops, the functions
pub record Sheet : Type 0 where
  pub commands : List Row
  pub heads : List (ℕ × Claim)
  pub functions : List Function

abbrev pub row_of : Sheet → ℕ → Row
row_of s n = unwrap_or (slice_get s.commands (n - 1)) (row Unreached Unreached Unreached)

unfoldable pub head_in : List (ℕ × Claim) → ℕ → Claim
head_in [] n = Unreached
head_in (x ∷ xs) n = if x.0 == n then x.1 else head_in xs n

unfoldable pub function_in : List Function → Text → Function
function_in [] name = function name Unreached no_names Unreached Unreached
function_in (f ∷ fs) name = if bytes_eq f.name name then f else function_in fs name

unfoldable pub claim_in : Sheet → Slot → Claim
claim_in s (Before n) = (row_of s n).before
claim_in s (AfterZero n) = (row_of s n).zero
claim_in s (AfterNonzero n) = (row_of s n).nonzero
claim_in s (Head n) = head_in s.heads n
claim_in s (Entry f) = (function_in s.functions f).entry
claim_in s (ReturnsZero f) = (function_in s.functions f).zero
claim_in s (ReturnsNonzero f) = (function_in s.functions f).nonzero

abbrev pub certificate : Sheet → Certificate
certificate s = record { claim = claim_in s; drops = λ f. (function_in s.functions f).drops }

-- one fact of a certificate changed
pub data Change : Type 0 where
  Claiming : Slot → Claim → Change
  Dropping : Text → Names → Change

unfoldable pub is_slot : Slot → Slot → Bool
is_slot (Before n) (Before m) = n == m
is_slot (AfterZero n) (AfterZero m) = n == m
is_slot (AfterNonzero n) (AfterNonzero m) = n == m
is_slot (Head n) (Head m) = n == m
is_slot (Entry f) (Entry g) = bytes_eq f g
is_slot (ReturnsZero f) (ReturnsZero g) = bytes_eq f g
is_slot (ReturnsNonzero f) (ReturnsNonzero g) = bytes_eq f g
is_slot _ _ = false

unfoldable pub changed : Certificate → Change → Certificate
changed c (Claiming slot k) = record c { claim = λ s. if is_slot slot s then k else c.claim s }
changed c (Dropping f names) = record c { drops = λ g. if bytes_eq f g then names else c.drops g }

-- Answers

abbrev pub declared : Text → ℕ → Declared
declared names args = record { names = names_in names; args = args }

abbrev pub place : ℕ → Code → Text → Place
place at code subject = record { at = at; code = code; subject = subject }

pub data Answer : Type 0 where
  Breaks : (number : ℕ) (rule : FlowRule) → Answer
  Unmet : List Place → Answer

unfoldable pub told_of : Option Fault → List Place → Answer
told_of None places = Unmet places
told_of (Some f) places = Breaks f.number f.rule

-- what a check of the certificate reports
unfoldable pub answer : Declared → Items → Certificate → Answer
answer d t c = told_of (least (faults (start_facts d) c t)) (demands (start_facts d) c t)

-- of a certificate, and of it with each change by itself
unfoldable pub answers : Declared → Items → Sheet → List Change → List Answer
answers d t s changes = answer d t (certificate s) ∷ map (λ x. answer d t (changed (certificate s) x)) changes
