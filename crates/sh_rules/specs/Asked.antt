-- What the flow rules require of views they require of what is known there, of the names that are
-- numbered.
-- The standard has no such rules: what is claimed of a place has to be known there in every run.
use Rattle.std.specs.Prelude.{◌≡◌, ◌≤◌, ℕ, nat_le, length, Bool, true, false, List, [], ◌∷◌, ◌++◌, flat_map, fold, Option, None}
use Rattle.std.specs.List.{list_all}
use Rattle.sh_tree.specs.declared.tree.Script.{Script}
use Rattle.sh_tree.specs.standard.program.Syntax as p
use Rattle.sh_tree.specs.standard.program.Syntax.{Text}
use Rattle.sh_tree.specs.standard.program.Trees.{script_of}
use Rattle.sh_runs.specs.Calls.{table_of}
use Rattle.sh_runs.specs.Surroundings.{outside, items_located}
use Rattle.sh_runs.specs.standard.runs.Environment.{is_one_of}
use Rattle.sh_domain.specs.declared.rule.FlowRule.{FlowRule}
use Rattle.sh_domain.specs.declared.rule.FlowRule.TheVariants.{F13}
use Rattle.sh_domain.specs.Entries.{Around, Entered, script_entered}
use Rattle.sh_domain.specs.Facts.{Facts, Declared}
use Rattle.sh_domain.specs.Faults.{Fault, lesser, least, faults, broken}
use Rattle.sh_domain.specs.Knowledge.{AreNumbered, among}
use Rattle.sh_domain.specs.Names.{IsNumbering}
use Rattle.sh_domain.specs.Rules.{Constraint, Counted, bound, kind_bounds, redirects_bounds, bounds, functions_of, script_bounds}
use Rattle.sh_domain.specs.Table.{is_redirected, manner}
use Rattle.sh_domain.specs.Views.{Slot, Seen, Loss, lost}
use Rattle.sh_rules.specs.Settings.{Setting, certificate}
use Rattle.sh_rules.specs.Asking.{Asking}
use Rattle.sh_rules.specs.Walked.{script_walked}
use Rattle.sh_rules.specs.Meaning.{knows, met_of}
use Rattle.sh_rules.specs.Bounds.{fault, compound_told, redirects_told}
use Rattle.sh_rules.specs.SimpleBounds.{simple_told}
use Rattle.sh_rules.specs.CommandBounds.{command_told, prefixes_in}
use Rattle.sh_rules.specs.LeastFault.{least_told}

unfoldable pub is_compound : p.Kind → Bool
is_compound (p.Simple es) = false
is_compound _ = true

-- What is done follows the constraints: what a list of them requires, one after the other. Those
-- over views of a place require what is known of the numbered names where all of these are seen.
-- Those of a function require that it drops what is lost there.
pub record ByConstraints (K : Type 0) (a : Asking K) (x : Setting) (start : Facts) : Type 0 where
  pub all : K → List Constraint → K
  pub none : (kept : K) → all kept [] ≡ kept
  pub joined : (kept : K) (ks ls : List Constraint) → all kept (ks ++ ls) ≡ all (all kept ks) ls
  pub bounded : (slot : Slot) (n : ℕ) (rule : FlowRule) (s : Seen) (kept : K) → all kept (bound slot n rule s) ≡ a.bound x slot (fault n rule) (knows x start s) kept
  pub counted : (function : Text) (n : ℕ) (l : Loss) (kept : K) → all kept (Counted function n l ∷ []) ≡ a.drop x function (fault n F13) (lost start (certificate x) n l) kept

-- the names of its prefix assignments are numbered
unfoldable pub has_numbered_prefixes : List Text → Entered → Bool
has_numbered_prefixes names e = list_all (is_one_of names) (prefixes_in e.command)

-- these are the functions that the script defines
abbrev pub AreDefined : List Text → p.Items → Type 0
AreDefined functions t = (name : Text) → is_one_of functions name ≡ is_one_of (functions_of (script_entered t)) name

-- A compound command and its redirections, a simple command, and a whole command as it is entered:
-- what is done is done for their constraints, if the names of their prefix assignments are
-- numbered. For those of a script a walk does it at each command.
pub record AskedOfFacts (K : Type 0) (a : Asking K) : Type 0 where
  pub compound : (x : Setting) (start : Facts) (i : ByConstraints K a x start) (functions : List Text) (y : Around) (n : ℕ) (s : Seen) (k : p.Kind) (kept : K)
      → AreNumbered x.names → is_compound k ≡ true → i.all kept (kind_bounds functions y n s k) ≡ compound_told a x n (knows x start s) k kept
  pub redirects : (x : Setting) (start : Facts) (i : ByConstraints K a x start) (n : ℕ) (rs : p.Redirects) (kept : K)
      → AreNumbered x.names → i.all kept (redirects_bounds n rs) ≡ redirects_told a x n (is_redirected rs) kept
  pub simple : (x : Setting) (start : Facts) (i : ByConstraints K a x start) (functions : List Text) (y : Around) (n : ℕ) (s : Seen) (es : p.Elements) (kept : K)
      → AreNumbered x.names → i.all kept (kind_bounds functions y n s (p.Simple es)) ≡ simple_told a x n y es (manner functions es) kept
  pub command : (x : Setting) (start : Facts) (i : ByConstraints K a x start) (functions : List Text) (e : Entered) (kept : K)
      → AreNumbered x.names → has_numbered_prefixes x.names e ≡ true → i.all kept (bounds functions e) ≡ command_told a x functions kept (met_of x start e)
  pub script : (x : Setting) (start : Facts) (i : ByConstraints K a x start) (t : p.Items) (kept : K)
      → AreNumbered x.names → AreDefined x.functions t → list_all (has_numbered_prefixes x.names) (script_entered t) ≡ true
      → script_walked x (command_told a x x.functions) (among x.names start) kept t ≡ i.all kept (script_bounds t)

-- the least fault so far, with those of these constraints
abbrev pub with_all : Setting → Facts → Option Fault → List Constraint → Option Fault
with_all x start least ks = fold lesser least (flat_map (broken start (certificate x)) ks)

-- The least fault follows the constraints.
abbrev pub LeastOfConstraints : Type 0
LeastOfConstraints =
    (x : Setting) (start : Facts) → AreNumbered x.names
    → (i : ByConstraints (Option Fault) least_told x start) × ((least : Option Fault) (ks : List Constraint) → i.all least ks ≡ with_all x start least ks)

-- So let the names of a script's prefix assignments be numbered. A walk that reports of each
-- command then reports the least fault of the certificate.
abbrev pub LeastOfScripts : Type 0
LeastOfScripts =
    (x : Setting) (start : Facts) (t : p.Items) → AreNumbered x.names → AreDefined x.functions t → list_all (has_numbered_prefixes x.names) (script_entered t) ≡ true
    → script_walked x (command_told least_told x x.functions) (among x.names start) None t ≡ least (faults start (certificate x) t)

-- The names of prefix assignments are numbered with those of the script.
abbrev pub PrefixesAreNumbered : Type 0
PrefixesAreNumbered =
    (b : List ℕ) (t : Script) (d : Declared) (names : List Text) → IsNumbering b t d names
    → list_all (has_numbered_prefixes names) (script_entered (script_of b t)) ≡ true

-- The functions that the call table of a script has are those that it defines.
abbrev pub TableDefines : Type 0
TableDefines = (b : List ℕ) (t : Script) → AreDefined (table_of b t).functions.names (script_of b t)

-- A command is in no more loops than there are commands.
abbrev pub LoopsAreFew : Type 0
LoopsAreFew =
    (t : p.Items) (most : ℕ) → length (items_located outside t) ≤ most → list_all (λ (e : Entered). nat_le (length e.around.loops) most) (script_entered t) ≡ true
