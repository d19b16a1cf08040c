-- More than is seen requires no less of a certificate below. Each certificate below this one that
-- breaks none of its flow rules allows what is required at a command. So what is known before a
-- command may be what a greater certificate gave.
-- The standard has no such rules: what is claimed of a place has to be known there in every run.
use Rattle.std.specs.Prelude.{◌≡◌, ◌≤◌, true, List, [], ◌∷◌, flat_map, fold, length, ℕ}
use Rattle.sh_tree.specs.declared.limits.TheConstants.{MAX_COMMANDS}
use Rattle.sh_tree.specs.declared.tree.Script.{Script}
use Rattle.sh_tree.specs.standard.program.Syntax.{Text}
use Rattle.sh_tree.specs.standard.program.Trees.{script_of}
use Rattle.sh_runs.specs.Calls.{table_of}
use Rattle.sh_runs.specs.Numbering.{is_numbered}
use Rattle.sh_domain.specs.Entries.{Entered, script_entered}
use Rattle.sh_domain.specs.Facts.{Facts, facts}
use Rattle.sh_domain.specs.Faults.{Fault, broken}
use Rattle.sh_domain.specs.Inclusions.{Each}
use Rattle.sh_domain.specs.Knowledge.{AreNumbered, among}
use Rattle.sh_domain.specs.Operands.{Names}
use Rattle.sh_domain.specs.Order.{IsWithin, AreAmong, IsBelow}
use Rattle.sh_domain.specs.Rules.{bounds}
use Rattle.sh_domain.specs.Views.{Certificate, Slot, After, Both, if_zero, if_nonzero, at_start}
use Rattle.sh_rules.specs.Settings.{Setting, certificate}
use Rattle.sh_rules.specs.Asking.{Asking}
use Rattle.sh_rules.specs.Asked.{ByConstraints, has_numbered_prefixes}
use Rattle.sh_rules.specs.Behind.{Behind, both}
use Rattle.sh_rules.specs.CommandBounds.{command_told}
use Rattle.sh_rules.specs.Meaning.{sees, met_at}
use Rattle.sh_rules.specs.Visits.{command_by}
use Rattle.sh_rules.specs.Walked.{Met}

-- What is required: of a place that it claims no more than these facts, or of a function that it
-- drops these names.
pub data Ask : Type 0 where
  OfPlace : Slot → Fault → Facts → Ask
  OfFunction : Text → Fault → Names → Ask

unfoldable pub ask : {K : Type 0} → Asking K → Setting → K → Ask → K
ask a x kept (OfPlace slot f k) = a.bound x slot f k kept
ask a x kept (OfFunction function f names) = a.drop x function f names kept

-- What is kept last is what was kept first, with all that was required since; and of each
-- requirement this holds.
pub record Asks {K : Type 0} (a : Asking K) (x : Setting) (Q : Ask → Type 0) (first last : K) : Type 0 where
  pub asks : List Ask
  pub each : Each Q asks
  pub reached : last ≡ fold (ask a x) first asks

-- anything may be required
abbrev pub Anything : Ask → Type 0
Anything q = Unit {0}

-- the certificate claims no more there, of these names, or has the function drop these
unfoldable pub Allows : List Text → Certificate → Ask → Type 0
Allows names c (OfPlace slot f k) = IsWithin (among names (facts (c.claim slot))) k
Allows names c (OfFunction function f lost) = AreAmong lost (c.drops function)

-- what the certificate sees after a list, by its status, is known there
pub record SeesWithin (names : List Text) (start : Facts) (c : Certificate) (o : After) (b : Behind) : Type 0 where
  pub zero : IsWithin (sees names start c (if_zero o)) b.zero
  pub nonzero : IsWithin (sees names start c (if_nonzero o)) b.nonzero

-- the certificate breaks no rule at these commands
abbrev pub KeepsThere : Facts → Certificate → List Text → List Entered → Type 0
KeepsThere start c functions es = flat_map (broken start c) (flat_map (bounds functions) es) ≡ []

-- What is required at a command follows its constraints: whatever is known there, nothing else is
-- required. Let a certificate below that of the setting see no more than is known there, and break
-- none of its rules. It allows all that is required. It sees no more at the start of a script.
pub record StaysAbove (K : Type 0) (a : Asking K) : Type 0 where
  pub start : (names : List Text) (f : Facts) (c : Certificate) → SeesWithin names f c (Both at_start) (both (among names f))
  pub asks : (x : Setting) (start : Facts) (i : ByConstraints K a x start) (functions : List Text) → AreNumbered x.names
      → (e : Entered) (k : Facts) (kept : K) → has_numbered_prefixes x.names e ≡ true → Asks a x Anything kept (command_told a x functions kept (met_at e k))
  pub allows : (x : Setting) (start : Facts) (i : ByConstraints K a x start) (functions : List Text) (c : Certificate) → AreNumbered x.names → IsBelow c (certificate x)
      → (e : Entered) (k : Facts) (kept : K) → has_numbered_prefixes x.names e ≡ true → IsWithin (sees x.names start c e.seen) k → KeepsThere start c functions (e ∷ [])
      → Asks a x (Allows x.names c) kept (command_told a x functions kept (met_at e k))

-- at this command, whatever is known there, what is done is what the flow rules ask
abbrev pub DoesAsked : {K : Type 0} → Asking K → Setting → List Text → (K → Met → K) → Entered → Type 0
DoesAsked {K} a x functions w e = (k : Facts) (kept : K) → w kept (met_at e k) ≡ command_told a x functions kept (met_at e k)

-- By the call table of a script, a visit does what the flow rules require at each of its commands,
-- whatever is known there.
abbrev pub VisitsDoAsked : (K : Type 0) → Asking K → Type 0
VisitsDoAsked K a =
    (x : Setting) (b : List ℕ) (t : Script) → x.rows ≡ (table_of b t).rows
    → is_numbered (script_of b t) ≡ true → length (table_of b t).rows ≤ MAX_COMMANDS
    → Each (DoesAsked a x x.functions (command_by a x)) (script_entered (script_of b t))
