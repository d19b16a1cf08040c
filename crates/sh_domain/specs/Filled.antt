-- The certificate that a compact one is filled to.
-- The standard has no such thing: between the start, the turns of loops and the functions, whose
-- claims are stated, a command claims as much as the rules allow.
use Rattle.std.specs.Prelude.{◌≡◌, ℕ, Bool, true, false, not, List, [], filter, flat_map}
use Rattle.sh_tree.specs.declared.tree.Script.{Script}
use Rattle.sh_tree.specs.standard.program.Syntax.{Text, Items}
use Rattle.sh_tree.specs.standard.program.Trees.{script_of}
use Rattle.sh_domain.specs.Admitted.{Fits, KeepsRules, claims_in, functions_in}
use Rattle.sh_domain.specs.Compacts.{CompactSheet, compact_of_sheet, stated_by}
use Rattle.sh_domain.specs.Facts.{Facts, Claim, Declared, facts, start_facts}
use Rattle.sh_domain.specs.Faults.{broken}
use Rattle.sh_domain.specs.Order.{IsBelow}
use Rattle.sh_domain.specs.Rules.{Constraint, Within, Counted, script_bounds}
use Rattle.sh_domain.specs.Sheets.{Sheet}
use Rattle.sh_domain.specs.Spelling.{IsSheet}
use Rattle.sh_domain.specs.Views.{Certificate, Slot, Before, AfterZero, AfterNonzero, Head, Entry, ReturnsZero, ReturnsNonzero}

-- what is claimed at each turn of a loop, and round a function, is stated; what is claimed round
-- commands is filled in
unfoldable pub is_stated : Slot → Bool
is_stated (Before n) = false
is_stated (AfterZero n) = false
is_stated (AfterNonzero n) = false
is_stated (Head n) = true
is_stated (Entry f) = true
is_stated (ReturnsZero f) = true
is_stated (ReturnsNonzero f) = true

-- the constraint bounds what is filled in
unfoldable pub bounds_filled : Constraint → Bool
bounds_filled (Within slot n rule v) = not (is_stated slot)
bounds_filled (Counted function n loss) = false

-- a certificate with the stated claims and drops, whose filled parts keep the rules
pub record KeepsStated (start : Facts) (t : Items) (stated c : Certificate) : Type 0 where
  pub claims : (slot : Slot) → is_stated slot ≡ true → c.claim slot ≡ stated.claim slot
  pub drops : (function : Text) → c.drops function ≡ stated.drops function
  pub rules : flat_map (broken start c) (filter bounds_filled (script_bounds t)) ≡ []

-- It is filled if it claims at each place what any other such one does. Its names are as its text
-- has them.
pub record IsFilled (b : List ℕ) (t : Script) (names : List Text) (start : Facts) (stated : Certificate) (c : Sheet) : Type 0 where
  pub fit : Fits b t names c
  pub keeps : KeepsStated start (script_of b t) stated (claims_in b t c)
  pub above : (other : Sheet) → Fits b t names other → KeepsStated start (script_of b t) stated (claims_in b t other) → IsBelow (claims_in b t other) (claims_in b t c)
  pub spelled : IsSheet c

-- What a compact certificate states is filled to this.
abbrev pub FillsTo : List ℕ → Script → List Text → CompactSheet → Sheet → Type 0
FillsTo b t names k c = IsFilled b t names (facts k.start) (stated_by (functions_in b t) k) c

-- If a certificate keeps the rules, what its compact form with the start is filled to keeps them
-- too, and claims no less. Two that are filled from the same claim the same.
pub record FilledKeeps : Type 0 where
  pub rules : (b : List ℕ) (d : Declared) (t : Script) (names : List Text) (start : Claim) (c f : Sheet)
      → facts start ≡ start_facts d → Fits b t names c → KeepsRules b d t c → FillsTo b t names (compact_of_sheet start c) f → KeepsRules b d t f
  pub above : (b : List ℕ) (d : Declared) (t : Script) (names : List Text) (start : Claim) (c f : Sheet)
      → facts start ≡ start_facts d → Fits b t names c → KeepsRules b d t c → FillsTo b t names (compact_of_sheet start c) f → IsBelow (claims_in b t c) (claims_in b t f)
  pub same : (b : List ℕ) (t : Script) (names : List Text) (start : Facts) (stated : Certificate) (f g : Sheet)
      → IsFilled b t names start stated f → IsFilled b t names start stated g → (slot : Slot) → facts ((claims_in b t f).claim slot) ≡ facts ((claims_in b t g).claim slot)
