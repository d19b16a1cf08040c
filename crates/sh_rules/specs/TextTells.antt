-- What is kept so far, with what a simple command requires and drops, by the static texts of its
-- words.
-- POSIX.1-2024, XCU 2.9.1 (simple commands), 2.9.5 (function definitions), 2.15 (break, continue,
-- return, unset), 3 (getopts).
use Rattle.std.specs.Prelude.{◌≡◌, ◌≤◌, ℕ, length, Bool, true, false, not, ◌&&◌, List, [], ◌∷◌, filter, map, codes, Some, None, option_map}
use Rattle.std.specs.Str.{bytes_eq}
use Rattle.sh_tree.specs.declared.known.KnownName.TheVariants as known
use Rattle.sh_tree.specs.standard.program.Syntax as p
use Rattle.sh_tree.specs.standard.program.Syntax.{Text}
use Rattle.sh_tree.specs.standard.program.Words.{static_of}
use Rattle.sh_runs.specs.standard.Kinds.{kind_of}
use Rattle.sh_runs.specs.Profile.{Static}
use Rattle.sh_runs.specs.declared.kind.Kind.{Kind}
use Rattle.sh_runs.specs.declared.kind.Kind.TheVariants as kind
use Rattle.sh_runs.specs.standard.runs.Environment.{is_one_of}
use Rattle.sh_domain.specs.declared.rule.FlowRule.TheVariants.{F4, F5}
use Rattle.sh_domain.specs.Entries.{Around}
use Rattle.sh_domain.specs.Facts.{Facts}
use Rattle.sh_domain.specs.Rules.{jump_loop}
use Rattle.sh_domain.specs.Table.{operands, prefixes, manner, is_special}
use Rattle.sh_table.specs.Numerals.{most, capped}
use Rattle.sh_rules.specs.Asking.{Asking}
use Rattle.sh_rules.specs.Settings.{Setting, certificate}
use Rattle.sh_rules.specs.Bounds.{fault, leaves_told}
use Rattle.sh_rules.specs.CommandBounds.{option_argument, unknown, drops_told, loses_told, builtin_drops_told, simple_drops_told}
use Rattle.sh_rules.specs.SimpleBounds.{behind, breaks_told, continues_told, returns_told, call_told, simple_told}
use Rattle.sh_rules.specs.TextBounds.{behind_name, settled, utility_by, nameless_by}
use Rattle.sh_rules.specs.Texts.{unset_by, first_by, status_by}

-- Whether a function is called: one of these has the name, and no special built-in utility
unfoldable pub calls_by : List Text → List Static → Bool
calls_by functions [] = false
calls_by functions (None ∷ ts) = false
calls_by functions (Some t ∷ ts) = is_one_of functions t && not (is_special (kind_of t))

-- Whether a utility of this kind leaves what is known after its words, and does not jump
unfoldable pub is_neutral : Kind → Bool
is_neutral kind.Cd = true
is_neutral kind.Command = true
is_neutral (kind.Refused name) = true
is_neutral kind.Utility = true
is_neutral _ = false

-- Jumps, over at most 4,294,967,295 loops

module _ {K : Type 0} (a : Asking K) (x : Setting) (n : ℕ) (k : Facts) (y : Around) where
  unfoldable pub jumps_by : Kind → List Static → K → K
  jumps_by (kind.Special known.Break) ts kept = breaks_told a x n k (jump_loop (option_map capped (first_by ts)) y.loops) kept
  jumps_by (kind.Special known.Continue) ts kept = continues_told a x n k (jump_loop (option_map capped (first_by ts)) y.loops) kept
  jumps_by (kind.Special known.Return) ts kept = returns_told a x n k (status_by ts) y.function kept
  jumps_by _ ts kept = kept

-- without a name
abbrev pub nameless_told : {K : Type 0} → Asking K → Setting → ℕ → p.Elements → K → K
nameless_told a x n es kept = leaves_told a x (fault n F5) (nameless_by x (behind x n es) es) kept

module _ {K : Type 0} (a : Asking K) (x : Setting) (n : ℕ) (y : Around) (es : p.Elements) where
  -- a utility of this kind
  unfoldable pub told_by : Kind → List Static → K → K
  told_by kind ts kept =
      jumps_by a x n (settled x (behind x n es) es) y kind ts (leaves_told a x (fault n F4) (utility_by x (behind x n es) ts es kind) kept)

  -- what has this name, as a call of a function or as a utility
  unfoldable pub named_by : Bool → Text → List Static → K → K
  named_by true t ts kept = call_told a x n es t (behind_name es) kept
  named_by false t ts kept = told_by (kind_of t) ts kept

  -- whether a function is called, and the static texts of the words, the command name first
  unfoldable pub simple_by : Bool → List Static → K → K
  simple_by calls [] kept = nameless_told a x n es kept
  simple_by calls (None ∷ ts) kept = told_by kind.Utility ts kept
  simple_by calls (Some t ∷ ts) kept = named_by calls t ts kept

-- Drops of this function

module _ {K : Type 0} (a : Asking K) (x : Setting) (n : ℕ) (function : Text) where
  -- a utility of this kind; of functions those that the script defines
  unfoldable pub utility_drops_by : Kind → List Static → K → K
  utility_drops_by (kind.Special known.Unset) ts kept =
      loses_told a x n function (record { vars = (unset_by ts).vars; functions = filter (is_one_of x.functions) (unset_by ts).functions }) kept
  utility_drops_by kind.Getopts ts kept = loses_told a x n function option_argument kept
  utility_drops_by _ ts kept = kept

module _ {K : Type 0} (a : Asking K) (x : Setting) (n : ℕ) (function : Text) (es : p.Elements) where
  -- a call
  unfoldable pub call_drops_by : Text → K → K
  call_drops_by t kept =
      drops_told a x n function (unknown (behind x n es) (prefixes es))
      (builtin_drops_told a x n function (bytes_eq t (codes "getopts")) (loses_told a x n function ((certificate x).drops t) kept))

  unfoldable pub named_drops_by : Bool → Text → List Static → K → K
  named_drops_by true t ts kept = call_drops_by t kept
  named_drops_by false t ts kept = utility_drops_by a x n function (kind_of t) ts kept

  unfoldable pub drops_by : Bool → List Static → K → K
  drops_by calls [] kept = kept
  drops_by calls (None ∷ ts) kept = kept
  drops_by calls (Some t ∷ ts) kept = named_drops_by calls t ts kept

-- What is reported by the texts of a command's words is what is reported by the words, in at most
-- 4,294,967,295 loops.
pub record TextsTell (K : Type 0) (a : Asking K) : Type 0 where
  pub simple : (x : Setting) (n : ℕ) (functions : List Text) (y : Around) (es : p.Elements) (kept : K) → length y.loops ≤ most
      → simple_by a x n y es (calls_by functions (map static_of (operands es))) (map static_of (operands es)) kept ≡ simple_told a x n y es (manner functions es) kept
  pub drops : (x : Setting) (n : ℕ) (function : Text) (es : p.Elements) (kept : K)
      → drops_by a x n function es (calls_by x.functions (map static_of (operands es))) (map static_of (operands es)) kept
      ≡ simple_drops_told a x n function x.functions es (manner x.functions es) kept
