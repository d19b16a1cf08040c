-- What a walk over a script for its counts does. It adds equations, and each certificate that keeps
-- the flow rules solves them. It leaves views of what is known after what it went over.
-- POSIX.1-2024, XCU 2.5.1 (positional parameters), 2.9 (shell commands).
use Rattle.std.specs.Prelude.{◌≡◌, ℕ, ◌-◌, ◌≤◌, get_or, nat_le, max, map, option_map, ◌⊎◌, true, false, if◌then◌else◌, List, Option, None, Some, [], ◌∷◌, ◌++◌, flat_map}
use Rattle.sh_tree.specs.declared.tree.ClauseEnd.{ClauseEnd}
use Rattle.sh_tree.specs.declared.tree.ClauseEnd.TheVariants as clause
use Rattle.sh_tree.specs.standard.program.Syntax as p
use Rattle.sh_tree.specs.standard.program.Syntax.{Text}
use Rattle.sh_tree.specs.standard.program.Words.{assignments_in, operands_in, redirects_in, static_of}
use Rattle.sh_runs.specs.Calls.{texts_with}
use Rattle.sh_runs.specs.standard.runs.Environment.{is_one_of}
use Rattle.sh_domain.specs.declared.rule.FlowRule.{FlowRule}
use Rattle.sh_domain.specs.declared.rule.FlowRule.TheVariants.{F6, F8, F9}
use Rattle.sh_domain.specs.Entries as entries
use Rattle.sh_domain.specs.Entries.{Entered, kind_entered, script_entered}
use Rattle.sh_domain.specs.Facts.{Facts, NotReached, Known, facts}
use Rattle.sh_domain.specs.Faults.{broken}
use Rattle.sh_domain.specs.Gains.{Gains, words_gains}
use Rattle.sh_domain.specs.Inclusions.{Each}
use Rattle.sh_domain.specs.Names.{number_of}
use Rattle.sh_domain.specs.Rules.{Constraint, bound, branches_bounds, clauses_bounds, functions_of, kind_bounds, leaves, matches_always, otherwise_bounds, redirects_bounds, script_bounds, simple_bounds}
use Rattle.sh_domain.specs.Table.{Manner, behind_words, is_redirected, manner, operands, redirections_gains, values_gains}
use Rattle.sh_domain.specs.Views as views
use Rattle.sh_domain.specs.Views.{AfterZero, Before, Certificate, Head, Seen, Slot}
use Rattle.sh_counts.specs.declared.equations.Change.{Change}
use Rattle.sh_counts.specs.declared.equations.Change.TheVariants.{Raise}
use Rattle.sh_counts.specs.declared.equations.Count.{Count}
use Rattle.sh_counts.specs.declared.equations.Equations.{Equations}
use Rattle.sh_counts.specs.Equations.{worth}
use Rattle.sh_tally.specs.declared.bounds.Tally.{Tally}
use Rattle.sh_tally.specs.declared.places.End.{End}
use Rattle.sh_tally.specs.declared.places.Part.TheVariants as part
use Rattle.sh_tally.specs.declared.views.After.{After}
use Rattle.sh_tally.specs.declared.views.Views.{Views}
use Rattle.sh_tally.specs.Tallies.{AreBounds, Tallies, claimed}
use Rattle.sh_tally.specs.Views.{Raised, See, SeeAfter, command_index, function_index, index_of}

-- a run comes there, and so many parameters are sure
unfoldable pub HasCount : ℕ → Facts → Type 0
HasCount n NotReached = ⊥
HasCount n (Known v f a) = n ≡ a

-- the function may be undefined, if this is known
unfoldable pub MayLack : Text → Facts → Type 0
MayLack f NotReached = Unit {0}
MayLack f (Known v g a) = g f ≡ false

-- commands next to each other in a script, as they are entered
pub record IsPart (t : p.Items) (es : List Entered) : Type 0 where
  pub front : List Entered
  pub back : List Entered
  pub whole : script_entered t ≡ front ++ (es ++ back)

-- the outermost of these loops, if there are no more than so many
unfoldable pub outermost : ℕ → List ℕ → Option ℕ
outermost n [] = None
outermost n (l ∷ []) = Some l
outermost n (l ∷ m ∷ ls) = if nat_le n 1 then None else outermost (n - 1) (m ∷ ls)

-- what falls from a clause into the next one
unfoldable pub falling : ClauseEnd → views.After → views.After
falling clause.Break o = views.Both []
falling clause.FallThrough o = o

module _ (s : Tally) where
  abbrev pub names : List Text
  names = s.table.now.functions.names

  -- the table has the static texts of the words of a simple command
  pub record AreTexts (n : ℕ) (es : p.Elements) : Type 0 where
    pub script : s.table.now.script ≡ s.script.now
    pub texts : texts_with n s.table.now.rows ≡ map static_of (operands es)

  unfoldable pub HasTexts : p.Command → Type 0
  HasTexts (p.command n offset (p.Simple es) rs) = AreTexts n es
  HasTexts _ = Unit {0}

  -- this function is said to be unsure before the command n
  pub record IsUnsure (n : ℕ) (f : Text) : Type 0 where
    pub index : ℕ
    pub place : number_of names f ≡ Some index
    pub told : get_or s.unsure.now n None ≡ Some index

  -- The numbers are the counts of a certificate that keeps all rules of the script. By it a run
  -- comes to each place at which a count is claimed
  pub record Keeps (t : p.Items) (u : ℕ → ℕ) : Type 0 where
    -- the table is that of the script
    pub functions : (f : Text) → is_one_of (functions_of (script_entered t)) f ≡ is_one_of names f
    pub texts : Each (λ (e : Entered). HasTexts e.command) (script_entered t)
    -- they are counts, and no greater than those that are claimed
    pub few : (i : ℕ) → u i ≤ 65535
    pub below : (i a : ℕ) → claimed s.places i ≡ Some a → u i ≤ a
    pub known : Facts
    pub claims : Certificate
    pub rules : flat_map (broken known claims) (script_bounds t) ≡ []
    pub counts : (slot : Slot) (i a : ℕ) → index_of names slot ≡ Some i → claimed s.places i ≡ Some a → HasCount (u i) (facts (claims.claim slot))
    -- a function that is unsure before a command may be undefined there
    pub unsure : (n : ℕ) (f : Text) → IsUnsure n f → MayLack f (facts (claims.claim (Before n)))

  abbrev pub Sight : Seen → Views → Type 0
  Sight q known = See names q known

  abbrev pub SightAfter : views.After → After → Type 0
  SightAfter o known = SeeAfter names o known

  -- what is added if these commands are entered where this is known
  abbrev pub Adds : (views.After → List Entered) → After → Equations → Equations → Type 0
  Adds entered known old new =
      (t : p.Items) (u : ℕ → ℕ) (o : views.After) → Keeps t u → SightAfter o known → IsPart t (entered o) → Tallies s.places u old new

  abbrev pub AddsFrom : (Seen → List Entered) → Views → Equations → Equations → Type 0
  AddsFrom entered known old new =
      (t : p.Items) (u : ℕ → ℕ) (q : Seen) → Keeps t u → Sight q known → IsPart t (entered q) → Tallies s.places u old new

  -- what is left after them
  abbrev pub Leaves : (views.After → views.After) → After → After → Type 0
  Leaves behind known left = (o : views.After) → SightAfter o known → SightAfter (behind o) left

  abbrev pub LeavesFrom : (Seen → views.After) → Views → After → Type 0
  LeavesFrom behind known left = (q : Seen) → Sight q known → SightAfter (behind q) left

  -- the certificate keeps these rules
  abbrev pub AreKept : (t : p.Items) (u : ℕ → ℕ) → Keeps t u → List Constraint → Type 0
  AreKept t u k ks = Each (λ c. broken k.known k.claims c ≡ []) ks

  -- what is added for what a command leaves by its status
  abbrev pub AddsLeaves : ℕ → After → Equations → Equations → Type 0
  AddsLeaves n known old new =
      (t : p.Items) (u : ℕ → ℕ) (k : Keeps t u) (rule : FlowRule) (o : views.After) → SightAfter o known → AreKept t u k (leaves n rule o) → Tallies s.places u old new

  -- what is added for a command of a kind, if this is known after its redirections
  abbrev pub AddsKind : entries.Around → ℕ → p.Kind → Views → Equations → Equations → Type 0
  AddsKind y n kind known old new =
      (t : p.Items) (u : ℕ → ℕ) (q : Seen) (k : Keeps t u) → Sight q known → IsPart t (kind_entered y n q kind)
      → AreKept t u k (kind_bounds (functions_of (script_entered t)) y n q kind) → Tallies s.places u old new

  -- what is added for a branch of the command n
  abbrev pub AddsBranch : entries.Around → ℕ → p.Items → p.Items → Views → Equations → Equations → Type 0
  AddsBranch y n condition body known old new =
      (t : p.Items) (u : ℕ → ℕ) (q : Seen) (k : Keeps t u) → Sight q known
      → IsPart t (entries.items_entered F6 y (views.Both q) condition) → IsPart t (entries.items_entered F6 y (views.Both (views.if_zero (entries.items_after (views.Both q) condition))) body)
      → AreKept t u k (leaves n F6 (entries.items_after (views.Both (views.if_zero (entries.items_after (views.Both q) condition))) body)) → Tallies s.places u old new

  -- what is added for a command of a kind
  abbrev pub AddsCommand : entries.Around → ℕ → p.Kind → Views → Equations → Equations → Type 0
  AddsCommand y n kind inside old new =
      (offset : ℕ) (rs : p.Redirects) → Sight (views.at (Before n)) inside → HasTexts (p.command n offset kind rs) → AddsKind y n kind inside old new

  -- Words

  -- what is added for the commands in a piece of a word, and what is known after it
  pub record Passes (entered : Seen → List Entered) (gains : Gains) (known left : Views) (old new : Equations) : Type 0 where
    pub adds : AddsFrom entered known old new
    pub gained : Raised gains.args known left

  -- elements of a simple command, and equations for those before them
  pub record ElementsAt (t : p.Items) (u : ℕ → ℕ) (entered : Seen → List Entered) (left : Views) (old new : Equations) : Type 0 where
    pub seen : Seen
    pub sight : Sight seen left
    pub part : IsPart t (entered seen)
    pub tallies : Tallies s.places u old new

  -- The words of elements: these before others, and what is known after them
  pub record PassesWords (es rest : p.Elements) (known left : Views) (old new : Equations) : Type 0 where
    pub adds : (t : p.Items) (u : ℕ → ℕ) (q last : Seen) → Keeps t u → Sight q known → IsPart t (entries.elements_entered q last es)
        → ElementsAt t u (λ r. entries.elements_entered r last rest) left old new
    pub gained : (end : Views) → Raised (words_gains (operands_in rest)).args left end → Raised (words_gains (operands_in es)).args known end

  -- what values and redirections gain
  abbrev pub settled_gains : p.Elements → ℕ
  settled_gains es = max (values_gains (assignments_in es)).args (redirections_gains es).args

  -- The values and redirections of elements, which are expanded after the words
  pub record PassesValues (es rest : p.Elements) (known left : Views) (old new : Equations) : Type 0 where
    pub adds : (t : p.Items) (u : ℕ → ℕ) (q last : Seen) → Keeps t u → Sight last known → IsPart t (entries.elements_entered q last es)
        → ((r : Seen) × IsPart t (entries.elements_entered r last rest)) × Tallies s.places u old new
    pub gained : (end : Views) → Raised (settled_gains rest) left end → Raised (settled_gains es) known end
    pub kept : Raised 0 known left

  -- Simple commands

  -- what is known after the words of a simple command, and after its values and redirections
  pub record IsBehind (n : ℕ) (es : p.Elements) (left : Views) : Type 0 where
    pub words : Sight (behind_words es (views.at (Before n))) left
    pub settled : (g : Gains) → g.args ≤ settled_gains es → Sight (views.gaining g (behind_words es (views.at (Before n)))) left

  -- what is added for a simple command that goes on in a manner
  abbrev pub AddsManner : entries.Around → ℕ → p.Elements → Views → Manner → Equations → Equations → Type 0
  AddsManner y n es left m old new =
      (t : p.Items) (u : ℕ → ℕ) (k : Keeps t u) → IsBehind n es left → AreKept t u k (simple_bounds y n es m) → Tallies s.places u old new

  -- what is added for a simple command after its words
  abbrev pub AddsSimple : entries.Around → ℕ → p.Elements → Views → Equations → Equations → Type 0
  AddsSimple y n es left old new =
      AreTexts n es → (t : p.Items) (u : ℕ → ℕ) (k : Keeps t u) → IsBehind n es left
      → AreKept t u k (simple_bounds y n es (manner (functions_of (script_entered t)) es)) → Tallies s.places u old new

  -- what is added for a simple command if a redirection of it fails
  abbrev pub AddsFailed : ℕ → p.Elements → Views → Equations → Equations → Type 0
  AddsFailed n es known old new =
      (u : ℕ → ℕ) → (is_redirected (redirects_in es) ≡ true → (place : Count) → place.index ≡ command_index part.Nonzero n → AreBounds s.places u place (Raise 0) known)
      → Tallies s.places u old new

  -- what is added for the count at an end of this function
  abbrev pub AddsFunction : End → Text → Views → Change → Equations → Equations → Type 0
  AddsFunction end name known change old new =
      (u : ℕ → ℕ) → ((place : Count) → option_map (function_index end) (number_of names name) ≡ Some place.index → AreBounds s.places u place change known)
      → Tallies s.places u old new

  -- a run comes to this end of the function
  pub record IsReached (end : End) (name : Text) : Type 0 where
    pub index : ℕ
    pub place : option_map (function_index end) (number_of names name) ≡ Some index
    pub count : ℕ
    pub counts : claimed s.places index ≡ Some count

  -- what is added for the count after a call of this function by the command n, if it may return, or
  -- may be undefined, so that a utility runs
  abbrev pub AddsReturn : ℕ → Count → End → Text → Views → Equations → Equations → Type 0
  AddsReturn n place end name known old new =
      (u : ℕ → ℕ) → (IsReached end name ⊎ IsUnsure n name → AreBounds s.places u place (Raise 0) known) → Tallies s.places u old new

  -- what is added for the branches of the command n
  abbrev pub AddsBranches : entries.Around → ℕ → p.Branches → Views → Equations → Equations → Type 0
  AddsBranches y n bs known old new =
      (t : p.Items) (u : ℕ → ℕ) (q : Seen) (k : Keeps t u) → Sight q known → IsPart t (entries.branches_entered y q bs) → AreKept t u k (branches_bounds n q bs)
      → Tallies s.places u old new

  abbrev pub AddsOtherwise : entries.Around → ℕ → p.Otherwise → Views → Equations → Equations → Type 0
  AddsOtherwise y n o known old new =
      (t : p.Items) (u : ℕ → ℕ) (q : Seen) (k : Keeps t u) → Sight q known → IsPart t (entries.otherwise_entered y q o) → AreKept t u k (otherwise_bounds n q o)
      → Tallies s.places u old new

  -- no certificate that keeps the rules has a greater count at a place
  abbrev pub AreOver : p.Items → List ℕ → Type 0
  AreOver t counts = (u : ℕ → ℕ) → Keeps t u → (i a : ℕ) → claimed s.places i ≡ Some a → u i ≤ worth counts i

  -- what is added for a clause of the command n
  abbrev pub AddsClause : entries.Around → ℕ → p.Items → ClauseEnd → Views → Equations → Equations → Type 0
  AddsClause y n body end known old new =
      (t : p.Items) (u : ℕ → ℕ) (q : Seen) (k : Keeps t u) → Sight q known → IsPart t (entries.items_entered F9 y (views.Both q) body)
      → (end ≡ clause.Break → AreKept t u k (leaves n F9 (entries.items_after (views.Both q) body))) → Tallies s.places u old new

  -- what is added for the clauses of the command n, whatever falls into them
  abbrev pub AddsClauses : entries.Around → ℕ → p.Clauses → Views → Equations → Equations → Type 0
  AddsClauses y n cs known old new =
      (t : p.Items) (u : ℕ → ℕ) (q fallen : Seen) (k : Keeps t u) → Sight q known → IsPart t (entries.clauses_entered y q fallen cs) → AreKept t u k (clauses_bounds n q fallen cs)
      → Tallies s.places u old new

  -- what is added for the `case` n if no clause matches
  abbrev pub AddsUnmatched : ℕ → p.Clauses → Views → Equations → Equations → Type 0
  AddsUnmatched n cs known old new =
      (t : p.Items) (u : ℕ → ℕ) (q : Seen) (k : Keeps t u) → Sight q known → AreKept t u k (if matches_always cs then [] else bound (AfterZero n) n F9 q) → Tallies s.places u old new

  -- what is added for the turns of the `for` n, whatever its name is
  abbrev pub AddsTurns : entries.Around → ℕ → p.Items → Views → Equations → Equations → Type 0
  AddsTurns y n body known old new =
      (t : p.Items) (u : ℕ → ℕ) (q : Seen) (name : Text) (k : Keeps t u) → Sight q known
      → IsPart t (entries.items_entered F8 (entries.in_loop n y) (views.Both (views.gaining_names (name ∷ []) (views.at (Head n)))) body)
      → AreKept t u k (bound (Head n) n F8 q ++ bound (Head n) n F8 (views.in_any_case (entries.items_after (views.Both (views.gaining_names (name ∷ []) (views.at (Head n)))) body)) ++ leaves n F8 (views.Both (views.at (Head n))))
      → Tallies s.places u old new

  -- what is added for a redirection of the command n that fails
  abbrev pub AddsRedirects : ℕ → p.Redirects → Equations → Equations → Type 0
  AddsRedirects n rs old new = (t : p.Items) (u : ℕ → ℕ) (k : Keeps t u) → AreKept t u k (redirects_bounds n rs) → Tallies s.places u old new
