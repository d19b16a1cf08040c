-- The functions that the flow rules of a script let be known, or count as lost, have names, as a
-- certificate's text may have them.
-- POSIX.1-2024, XBD 3.216 (name), XCU 2.9.5 (function definition command), 2.15 (unset).
use Rattle.std.specs.Prelude.{◌≡◌, ℕ, Bool, true, List}
use Rattle.std.specs.List.{list_all}
use Rattle.sh_tree.specs.declared.tree.Script.{Script}
use Rattle.sh_tree.specs.standard.language.Bytes.{is_name}
use Rattle.sh_tree.specs.standard.program.Syntax.{Text}
use Rattle.sh_tree.specs.standard.program.Trees.{script_of}
use Rattle.sh_runs.specs.standard.runs.Environment.{is_one_of}
use Rattle.sh_domain.specs.Facts.{Facts, NotReached, Known, Declared, facts}
use Rattle.sh_domain.specs.Inclusions.{Each}
use Rattle.sh_domain.specs.Operands.{Names}
use Rattle.sh_domain.specs.Rules.{Constraint, Within, Counted, script_bounds}
use Rattle.sh_domain.specs.Views.{Certificate, Slot, Step, Define, Loss, OfNames, view_facts, lost}
use Rattle.sh_domain.specs.Admitted.{IsAdmitted}

-- The rules

-- what the step defines has a name
unfoldable pub step_names : Step → Bool
step_names (Define function) = is_name function
step_names _ = true

-- the functions that are listed have names
unfoldable pub loss_names : Loss → Bool
loss_names (OfNames names) = list_all is_name names.functions
loss_names _ = true

unfoldable pub bound_names : Constraint → Bool
bound_names (Within slot n rule v) = list_all step_names v.steps
bound_names (Counted function n loss) = loss_names loss

abbrev pub RulesDefineNames : Type 0
RulesDefineNames = (b : List ℕ) (d : Declared) (t : Script) (names : List Text) → IsAdmitted b d t names → list_all bound_names (script_bounds (script_of b t)) ≡ true

-- What they let be known and count as lost

-- the functions that are known to be defined have names
unfoldable pub KnowsNames : Facts → Type 0
KnowsNames NotReached = Unit {0}
KnowsNames (Known v f a) = (x : Text) → f x ≡ true → is_name x ≡ true

abbrev pub LosesNames : Names → Type 0
LosesNames names = (x : Text) → is_one_of names.functions x ≡ true → is_name x ≡ true

-- each function that the certificate claims to be defined, or to be dropped, has a name
pub record ClaimsNames (c : Certificate) : Type 0 where
  pub known : (slot : Slot) → KnowsNames (facts (c.claim slot))
  pub lost : (function : Text) → LosesNames (c.drops function)

unfoldable pub BoundsNames : Facts → Certificate → Constraint → Type 0
BoundsNames start c (Within slot n rule v) = KnowsNames (view_facts start c v)
BoundsNames start c (Counted function n loss) = LosesNames (lost start c n loss)

-- Let a start know only names, and a certificate claim only names. Then no rule lets any other
-- function be known, and none counts another as lost.
abbrev pub RulesKnowNames : Type 0
RulesKnowNames =
    (b : List ℕ) (d : Declared) (t : Script) (names : List Text) (start : Facts) (c : Certificate)
    → IsAdmitted b d t names → KnowsNames start → ClaimsNames c → Each (BoundsNames start c) (script_bounds (script_of b t))
