-- What a walk over commands for their counts adds, by what they are.
use Rattle.std.proofs.Common.{◌≡◌, ℕ, Bool, false, ◌||◌, if◌then◌else◌, List, [], ◌∷◌, ◌++◌, codes, Option, Some, option_map, refl, sym, ap, ap₂, ◌∙◌, subst}
use Rattle.std.specs.List.{list_any}
use Rattle.sh_tree.specs.declared.tree.Branch.{Branch, out-Branch}
use Rattle.sh_tree.specs.declared.tree.Clause.{Clause, out-Clause}
use Rattle.sh_tree.specs.declared.tree.ClauseEnd.{ClauseEnd}
use Rattle.sh_tree.specs.declared.tree.ClauseEnd.TheVariants as clause
use Rattle.sh_tree.specs.declared.tree.Command.{Command, out-Command}
use Rattle.sh_tree.specs.declared.tree.Kind.{Kind}
use Rattle.sh_tree.specs.declared.tree.Script.{Script}
use Rattle.sh_tree.specs.declared.tree.Word.{Word}
use Rattle.sh_tree.specs.Lists.{branches_from, clauses_from, parts_from, words_from}
use Rattle.sh_tree.specs.standard.program.Syntax as p
use Rattle.sh_tree.specs.standard.program.Syntax.{Text}
use Rattle.sh_tree.specs.standard.program.Trees as trees
use Rattle.sh_tree.specs.standard.program.Words.{is_plainly, words_in}
use Rattle.sh_tree.proofs.ProgramRules as rules
use Rattle.sh_domain.specs.declared.rule.FlowRule.{FlowRule}
use Rattle.sh_domain.specs.declared.rule.FlowRule.TheVariants.{F6, F9, F13}
use Rattle.sh_domain.specs.Entries as e
use Rattle.sh_domain.specs.Entries.{Around, Entered, behind_redirects, script_entered}
use Rattle.sh_domain.specs.Gains.{word_gains}
use Rattle.sh_domain.specs.Inclusions.{Each}
use Rattle.sh_domain.specs.Names.{number_of}
use Rattle.sh_domain.specs.Rules as r
use Rattle.sh_domain.specs.Rules.{Constraint, bound, bounds, functions_of, leaves, losses}
use Rattle.sh_domain.specs.Views as views
use Rattle.sh_domain.specs.Views.{Before, Seen}
use Rattle.sh_domain.proofs.EachLemmas.{each_parts}
use Rattle.sh_rules.specs.Tells.{has_star, is_star}
use Rattle.sh_rules.proofs.TellLemmas.{star_of_parts}
use Rattle.sh_counts.specs.declared.equations.Change.TheVariants.{Raise}
use Rattle.sh_counts.specs.declared.equations.Count.{Count}
use Rattle.sh_counts.specs.declared.equations.Equations.{Equations}
use Rattle.sh_tally.specs.declared.bounds.Tally.{Tally}
use Rattle.sh_tally.specs.declared.places.End.TheVariants as end
use Rattle.sh_tally.specs.declared.places.Part.TheVariants as part
use Rattle.sh_tally.specs.declared.views.After.{After}
use Rattle.sh_tally.specs.declared.views.Views.{Views}
use Rattle.sh_tally.specs.Tallies.{AreBounds, Tallies}
use Rattle.sh_tally.specs.Views.{function_index, command_index, index_of}
use Rattle.sh_tally.specs.Walks.{AddsBranch, AddsBranches, AddsClause, AddsClauses, AddsCommand, AddsFrom, AddsFunction, AddsKind, AddsLeaves, AddsOtherwise, AddsUnmatched, AreKept, HasTexts, IsPart, Keeps, Passes, Sight, SightAfter, falling, names}
use Rattle.sh_tally.proofs.ViewLemmas.{raised_see, see_defined, see_left, see_right}
use Rattle.sh_tally.proofs.WalkLemmas.{Unbroken, first_part, last_part, part_kept, place_bounds}

-- `case`

falls_same : (end : ClauseEnd) (o : views.After) → views.in_any_case (falling end o) ≡ e.falls end o
unfolding falling views.in_any_case e.falls
falls_same clause.Break o = refl
falls_same clause.FallThrough o = refl

patterns_same : (b : Text) (ws : List Word) → list_any (is_plainly (codes "*")) (words_in (words_from b ws)) ≡ list_any (λ w. is_star b w.parts) ws
unfolding words_in words_from
patterns_same b [] = refl
patterns_same b (w ∷ ws) = ap₂ (λ x y. x || y) (star_of_parts b w.parts) (patterns_same b ws)

always_same : (b : Text) (cs : List Clause) → r.matches_always (clauses_from b cs) ≡ list_any (has_star b) cs
unfolding r.matches_always clauses_from
always_same b [] = refl
always_same b (c ∷ cs) = ap₂ (λ x y. x || y) (patterns_same b (out-Clause c).patterns) (always_same b cs)

-- A command

each_first : {A : Type 0} (P : A → Type 0) (x : A) (xs : List A) → Each P (x ∷ xs) → P x
unfolding Each
each_first P x xs all = all.0

-- what is added for patterns, of which these are left
pub record PatternsLeft (s : Tally) (known : Views) (all : List Word) (old : Equations) (rest : List Word) (now : Equations) : Type 0 where
  pub adds : (t : p.Items) (u : ℕ → ℕ) (q : Seen) → Keeps s t u → Sight s q known → IsPart t (e.patterns_entered q (words_from s.script.now all))
      → IsPart t (e.patterns_entered q (words_from s.script.now rest)) × Tallies s.places u old now

module _ (s : Tally) (known : Views) (all : List Word) where
  pub patterns_begun : (old : Equations) → PatternsLeft s known all old all old
  patterns_begun old = record { adds = λ t u q k sight part. (part, λ tallied. tallied) }

  pub patterns_next : (left : Views) (old mid new : Equations) (w : Word) (ws : List Word) → PatternsLeft s known all old (w ∷ ws) mid
      → Passes s (λ q. e.word_entered q (parts_from s.script.now w.parts)) (word_gains (parts_from s.script.now w.parts)) known left mid new → PatternsLeft s known all old ws new
  unfolding e.items_entered words_from
  patterns_next left old mid new w ws before passes = record {
    adds = λ t u q k sight part.
        let b : Text = s.script.now in
        let both = before.adds t u q k sight part in
        let first : List Entered = e.word_entered q (parts_from b w.parts) in
        let rest : List Entered = e.patterns_entered q (words_from b ws) in
        (last_part t first rest both.0, λ tallied. passes.adds t u q k sight (first_part t first rest both.0) (both.1 tallied));
  }

  pub patterns_added : (old new : Equations) → PatternsLeft s known all old [] new → AddsFrom s (λ q. e.patterns_entered q (words_from s.script.now all)) known old new
  patterns_added old new before t u q k sight part = (before.adds t u q k sight part).1

module _ (s : Tally) (y : Around) where
  -- what the rules require of a command by its kind, and of its redirections
  pub both_kept : (t : p.Items) (u : ℕ → ℕ) (k : Keeps s t u) (by : FlowRule) (q : Seen) (n offset : ℕ) (kind : p.Kind) (rs : p.Redirects) → IsPart t (e.command_entered by y q (p.command n offset kind rs))
      → AreKept s t u k (r.kind_bounds (functions_of (script_entered t)) y n (behind_redirects n rs) kind) × AreKept s t u k (r.redirects_bounds n rs)
  unfolding bounds e.items_entered
  both_kept t u k by q n offset kind rs part =
      let fs = functions_of (script_entered t) in
      let one : Entered = record { command = p.command n offset kind rs; rule = by; around = y; seen = q } in
      let before : List Constraint = bound (Before n) n by q in
      let its : List Constraint = r.kind_bounds fs y n (behind_redirects n rs) kind in
      let redirected : List Constraint = r.redirects_bounds n rs in
      let counted : List Constraint = r.counted y.drops n (losses fs one) in
      let own = first_part t (one ∷ []) (e.redirects_entered (views.at (Before n)) rs ++ e.kind_entered y n (behind_redirects n rs) kind) part in
      let all : Each (Unbroken k.known k.claims) (bounds fs one) = each_first _ one [] (part_kept k.known k.claims t (one ∷ []) k.rules own) in
      let last = each_parts (Unbroken k.known k.claims) (before ++ its ++ redirected) counted all in
      let third = each_parts (Unbroken k.known k.claims) (before ++ its) redirected last.0 in
      ((each_parts (Unbroken k.known k.claims) before its third.0).1, third.1)

  pub kind_texts : (t : p.Items) (u : ℕ → ℕ) (k : Keeps s t u) (by : FlowRule) (q : Seen) (n offset : ℕ) (kind : p.Kind) (rs : p.Redirects) → IsPart t (e.command_entered by y q (p.command n offset kind rs))
      → HasTexts s (p.command n offset kind rs)
  unfolding e.items_entered
  kind_texts t u k by q n offset kind rs part =
      let one : Entered = record { command = p.command n offset kind rs; rule = by; around = y; seen = q } in
      let rest : List Entered = e.redirects_entered (views.at (Before n)) rs ++ e.kind_entered y n (behind_redirects n rs) kind in
      let all : Each (λ (x : Entered). HasTexts s x.command) (part.front ++ ((one ∷ rest) ++ part.back)) = subst (Each (λ (x : Entered). HasTexts s x.command)) part.whole k.texts in
      each_first (λ (x : Entered). HasTexts s x.command) one (rest ++ part.back) (each_parts (λ (x : Entered). HasTexts s x.command) part.front ((one ∷ rest) ++ part.back) all).1

  pub kind_part : (t : p.Items) (by : FlowRule) (q : Seen) (n offset : ℕ) (kind : p.Kind) (rs : p.Redirects) → IsPart t (e.command_entered by y q (p.command n offset kind rs)) → IsPart t (e.kind_entered y n (behind_redirects n rs) kind)
  unfolding e.items_entered
  kind_part t by q n offset kind rs part =
      let one : Entered = record { command = p.command n offset kind rs; rule = by; around = y; seen = q } in
      let inside : IsPart t (e.redirects_entered (views.at (Before n)) rs ++ e.kind_entered y n (behind_redirects n rs) kind) = last_part t (one ∷ []) _ part in
      last_part t (e.redirects_entered (views.at (Before n)) rs) (e.kind_entered y n (behind_redirects n rs) kind) inside

  pub redirects_part : (t : p.Items) (by : FlowRule) (q : Seen) (n offset : ℕ) (kind : p.Kind) (rs : p.Redirects) → IsPart t (e.command_entered by y q (p.command n offset kind rs)) → IsPart t (e.redirects_entered (views.at (Before n)) rs)
  unfolding e.items_entered
  redirects_part t by q n offset kind rs part =
      let one : Entered = record { command = p.command n offset kind rs; rule = by; around = y; seen = q } in
      let inside : IsPart t (e.redirects_entered (views.at (Before n)) rs ++ e.kind_entered y n (behind_redirects n rs) kind) = last_part t (one ∷ []) _ part in
      first_part t (e.redirects_entered (views.at (Before n)) rs) (e.kind_entered y n (behind_redirects n rs) kind) inside

  -- what a command is
  pub kind_as : (n : ℕ) (x v : Kind) (z : p.Kind) (inside : Views) (old new : Equations) → x ≡ v → trees.kind_of s.script.now v ≡ z → AddsCommand s y n z inside old new → AddsCommand s y n (trees.kind_of s.script.now x) inside old new
  kind_as n x v z inside old new is same h = subst (λ k. AddsCommand s y n k inside old new) (sym (ap (trees.kind_of s.script.now) is ∙ same)) h

  pub compound_added : (n : ℕ) (z : p.Kind) (inside : Views) (old new : Equations) → AddsKind s y n z inside old new → AddsCommand s y n z inside old new
  compound_added n z inside old new h offset rs own texts = h

  -- A function

  return_index : (f : Text) (place : Count) → option_map (function_index end.Zero) (number_of (names s) f) ≡ Some place.index → index_of (names s) (views.ReturnsZero f) ≡ Some place.index
  unfolding index_of
  return_index f place is = is

  fail_index : (f : Text) (place : Count) → option_map (function_index end.Nonzero) (number_of (names s) f) ≡ Some place.index → index_of (names s) (views.ReturnsNonzero f) ≡ Some place.index
  unfolding index_of
  fail_index f place is = is

  zero_index : (n : ℕ) (place : Count) → place.index ≡ command_index part.Zero n → index_of (names s) (views.AfterZero n) ≡ Some place.index
  unfolding index_of
  zero_index n place is = ap Some (sym is)

  body_kept : (d : _) (c : _) (f : Text) (m offset : ℕ) (kind : p.Kind) (rs : p.Redirects) → Each (Unbroken d c) (r.body_bounds f (p.command m offset kind rs))
      → Each (Unbroken d c) (bound (views.ReturnsZero f) m F13 (views.at (views.AfterZero m))) × Each (Unbroken d c) (bound (views.ReturnsNonzero f) m F13 (views.at (views.AfterNonzero m)))
  unfolding r.body_bounds
  body_kept d c f m offset kind rs kept = each_parts (Unbroken d c) (bound (views.ReturnsZero f) m F13 (views.at (views.AfterZero m))) (bound (views.ReturnsNonzero f) m F13 (views.at (views.AfterNonzero m))) kept

  pub define_added : (z : Around) (n : ℕ) (f : Text) (m : Command) (inside known : Views) (after : After) (place : Count) (old one two three new : Equations) → z ≡ e.in_function f → Sight s (views.at (views.Entry f)) known
      → ((by : FlowRule) → AddsFrom s (λ q. e.command_entered by z q (trees.command_of s.script.now m)) known old one)
      → SightAfter s (views.after_command (out-Command m).number) after → AddsFunction s end.Zero f after.zero (Raise 0) one two → AddsFunction s end.Nonzero f after.nonzero (Raise 0) two three
      → place.index ≡ command_index part.Zero n → ((u : ℕ → ℕ) → AreBounds s.places u place (Raise 0) inside → Tallies s.places u three new)
      → AddsCommand s y n (p.Define f (trees.command_of s.script.now m)) inside old new
  unfolding e.items_entered r.kind_bounds views.if_zero views.if_nonzero
  define_added z n f m inside known after place old one two three new outside own adds behind zero nonzero at asks offset rs here texts t u q k sight part kept tallied =
      let b : Text = s.script.now in
      let number : ℕ = (out-Command m).number in
      let first : List Constraint = bound (views.AfterZero n) n F13 (views.stepped (views.Define f) (views.at (Before n))) in
      let both = each_parts (Unbroken k.known k.claims) first (r.body_bounds f (trees.command_of b m)) kept in
      let body = body_kept k.known k.claims f number _ _ _ (subst (λ c. Each (Unbroken k.known k.claims) (r.body_bounds f c)) (rules.command_of-out b m) both.1) in
      asks u (place_bounds s t u k (views.AfterZero n) place n F13 (views.stepped (views.Define f) (views.at (Before n))) inside (zero_index n place at) both.0 (see_defined (names s) (views.at (Before n)) f inside here))
      (nonzero u (λ to is. place_bounds s t u k (views.ReturnsNonzero f) to number F13 (views.at (views.AfterNonzero number)) after.nonzero (fail_index f to is) body.1 behind.nonzero)
      (zero u (λ to is. place_bounds s t u k (views.ReturnsZero f) to number F13 (views.at (views.AfterZero number)) after.zero (return_index f to is) body.0 behind.zero)
      (adds F13 t u (views.at (views.Entry f)) k own (subst (λ a. IsPart t (e.command_entered F13 a (views.at (views.Entry f)) (trees.command_of b m))) (sym outside) part) tallied)))

  -- `if`

  module _ (n : ℕ) where
    pub record BranchesAt (t : p.Items) (u : ℕ → ℕ) (k : Keeps s t u) (old : Equations) (rest : List Branch) (now : Equations) (left : Views) : Type 0 where
      pub seen : Seen
      pub sight : Sight s seen left
      pub part : IsPart t (e.branches_entered y seen (branches_from s.script.now rest))
      pub kept : AreKept s t u k (r.branches_bounds n seen (branches_from s.script.now rest))
      pub tallies : Tallies s.places u old now

    pub record OtherwiseAt (all : Seen) (rest : List Branch) (left : Views) : Type 0 where
      pub seen : Seen
      pub sight : Sight s seen left
      pub same : e.otherwise_seen seen (branches_from s.script.now rest) ≡ all

    pub record BranchesLeft (known : Views) (all : List Branch) (old : Equations) (rest : List Branch) (now : Equations) (left : Views) : Type 0 where
      pub adds : (t : p.Items) (u : ℕ → ℕ) (q : Seen) (k : Keeps s t u) → Sight s q known → IsPart t (e.branches_entered y q (branches_from s.script.now all))
          → AreKept s t u k (r.branches_bounds n q (branches_from s.script.now all)) → BranchesAt t u k old rest now left
      pub leaves : (q : Seen) → Sight s q known → OtherwiseAt (e.otherwise_seen q (branches_from s.script.now all)) rest left

    pub branches_begun : (known : Views) (all : List Branch) (old : Equations) → BranchesLeft known all old all old known
    branches_begun known all old = record {
      adds = λ t u q k sight part kept. record { seen = q; sight = sight; part = part; kept = kept; tallies = λ x. x };
      leaves = λ q sight. record { seen = q; sight = sight; same = refl };
    }

    pub branches_next : (known now left : Views) (all : List Branch) (old mid new : Equations) (x : Branch) (xs : List Branch) → BranchesLeft known all old (x ∷ xs) mid now
        → AddsBranch s y n (trees.script_of s.script.now (out-Branch x).condition) (trees.script_of s.script.now (out-Branch x).body) now mid new
        → ((q : Seen) → Sight s q now → Sight s (views.if_nonzero (e.items_after (views.Both q) (trees.script_of s.script.now (out-Branch x).condition))) left)
        → BranchesLeft known all old xs new left
    unfolding e.items_entered e.otherwise_seen r.branches_bounds branches_from
    branches_next known now left all old mid new x xs before adds leaves = record {
      adds = λ t u q k sight part kept.
          let at = before.adds t u q k sight part kept in
          let condition : p.Items = trees.script_of s.script.now (out-Branch x).condition in
          let body : p.Items = trees.script_of s.script.now (out-Branch x).body in
          let tested : views.After = e.items_after (views.Both at.seen) condition in
          let first : List Entered = e.items_entered F6 y (views.Both at.seen) condition in
          let second : List Entered = e.items_entered F6 y (views.Both (views.if_zero tested)) body in
          let rest : List Entered = e.branches_entered y (views.if_nonzero tested) (branches_from s.script.now xs) in
          let both = each_parts (Unbroken k.known k.claims) (r.leaves n F6 (e.items_after (views.Both (views.if_zero tested)) body)) (r.branches_bounds n (views.if_nonzero tested) (branches_from s.script.now xs)) at.kept in
          let front : IsPart t (first ++ second) = first_part t (first ++ second) rest at.part in
          record {
            seen = views.if_nonzero tested;
            sight = leaves at.seen at.sight;
            part = last_part t (first ++ second) rest at.part;
            kept = both.1;
            tallies = λ tallied. adds t u at.seen k at.sight (first_part t first second front) (last_part t first second front) both.0 (at.tallies tallied);
          };
      leaves = λ q sight.
          let at = before.leaves q sight in
          record { seen = views.if_nonzero (e.items_after (views.Both at.seen) (trees.script_of s.script.now (out-Branch x).condition)); sight = leaves at.seen at.sight; same = at.same };
    }

    pub branches_added : (known left : Views) (all : List Branch) (old new : Equations) → BranchesLeft known all old [] new left → AddsBranches s y n (branches_from s.script.now all) known old new
    branches_added known left all old new before t u q k sight part kept = (before.adds t u q k sight part kept).tallies

    pub branches_seen : (known left : Views) (all : List Branch) (old new : Equations) → BranchesLeft known all old [] new left → (q : Seen) → Sight s q known → Sight s (e.otherwise_seen q (branches_from s.script.now all)) left
    unfolding e.otherwise_seen branches_from
    branches_seen known left all old new before q sight = let at = before.leaves q sight in subst (λ z. Sight s z left) at.same at.sight

    pub else_added : (list : p.Items) (known : Views) (after : After) (old mid new : Equations) → ((by : FlowRule) → AddsFrom s (λ q. e.items_entered by y (views.Both q) list) known old mid)
        → ((q : Seen) → Sight s q known → SightAfter s (e.items_after (views.Both q) list) after) → AddsLeaves s n after mid new → AddsOtherwise s y n (p.else_of list) known old new
    unfolding e.items_entered r.otherwise_bounds
    else_added list known after old mid new adds leaves more t u q k sight part kept tallied = more t u k F6 _ (leaves q sight) kept (adds F6 t u q k sight part tallied)

    pub no_else_added : (known : Views) (place : Count) (old new : Equations) → place.index ≡ command_index part.Zero n → ((u : ℕ → ℕ) → AreBounds s.places u place (Raise 0) known → Tallies s.places u old new)
        → AddsOtherwise s y n p.no_else known old new
    unfolding r.otherwise_bounds
    no_else_added known place old new at asks t u q k sight part kept = asks u (place_bounds s t u k (views.AfterZero n) place n F6 q known (zero_index n place at) kept sight)

    pub otherwise_as : (x v : Option Script) (z : p.Otherwise) (f : Option Script → p.Otherwise) (known : Views) (old new : Equations) → x ≡ v → f v ≡ z → AddsOtherwise s y n z known old new → AddsOtherwise s y n (f x) known old new
    otherwise_as x v z f known old new is same h = subst (λ o. AddsOtherwise s y n o known old new) (sym (ap f is ∙ same)) h

    pub conditional_kind : (bs : p.Branches) (o : p.Otherwise) (inside left : Views) (old mid new : Equations) → AddsBranches s y n bs inside old mid → ((q : Seen) → Sight s q inside → Sight s (e.otherwise_seen q bs) left)
        → AddsOtherwise s y n o left mid new → AddsKind s y n (p.Conditional bs o) inside old new
    unfolding e.items_entered r.kind_bounds
    conditional_kind bs o inside left old mid new adds seen more t u q k sight part kept tallied =
        let both = each_parts (Unbroken k.known k.claims) (r.branches_bounds n q bs) (r.otherwise_bounds n (e.otherwise_seen q bs) o) kept in
        more t u (e.otherwise_seen q bs) k (seen q sight) (last_part t (e.branches_entered y q bs) (e.otherwise_entered y (e.otherwise_seen q bs) o) part) both.1
        (adds t u q k sight (first_part t (e.branches_entered y q bs) (e.otherwise_entered y (e.otherwise_seen q bs) o) part) both.0 tallied)

    -- `case`

    pub record ClausesAt (t : p.Items) (u : ℕ → ℕ) (k : Keeps s t u) (q : Seen) (old : Equations) (rest : List Clause) (now : Equations) (left : After) : Type 0 where
      pub into : views.After
      pub sight : SightAfter s into left
      pub part : IsPart t (e.clauses_entered y q (views.in_any_case into) (clauses_from s.script.now rest))
      pub kept : AreKept s t u k (r.clauses_bounds n q (views.in_any_case into) (clauses_from s.script.now rest))
      -- what the last clause leaves that would go on with a next one
      pub out : views.After
      pub last : SightAfter s out left
      pub ended : clauses_from s.script.now rest ≡ p.no_clauses → AreKept s t u k (r.leaves n F9 out)
      pub tallies : Tallies s.places u old now

    pub record ClausesLeft (known : Views) (all : List Clause) (old : Equations) (rest : List Clause) (now : Equations) (left : After) : Type 0 where
      pub adds : (t : p.Items) (u : ℕ → ℕ) (q fallen : Seen) (k : Keeps s t u) → Sight s q known → IsPart t (e.clauses_entered y q fallen (clauses_from s.script.now all))
          → AreKept s t u k (r.clauses_bounds n q fallen (clauses_from s.script.now all)) → ClausesAt t u k q old rest now left

    none_left : (d : _) (c : _) → Each (Unbroken d c) (r.leaves n F9 (views.Both []))
    unfolding Each views.if_zero views.if_nonzero
    none_left d c = tt

    pub clauses_begun : (known : Views) (all : List Clause) (old : Equations) (left : After) → ((q : Seen) → SightAfter s (views.Both q) left) → ClausesLeft known all old all old left
    unfolding views.in_any_case
    clauses_begun known all old left none = record {
      adds = λ t u q fallen k sight part kept. record {
        into = views.Both fallen;
        sight = none fallen;
        part = part;
        kept = kept;
        out = views.Both [];
        last = none [];
        ended = λ is. none_left k.known k.claims;
        tallies = λ x. x;
      };
    }

    break_kept : (d : _) (c : _) (end : ClauseEnd) (rest : p.Clauses) (ks : List Constraint) → Each (Unbroken d c) (if r.is_last end rest then ks else []) → end ≡ clause.Break → Each (Unbroken d c) ks
    unfolding r.is_last
    break_kept d c end rest ks kept is = subst (λ m. Each (Unbroken d c) (if r.is_last m rest then ks else [])) is kept

    last_kept : (d : _) (c : _) (end : ClauseEnd) (rest : p.Clauses) (o : views.After) → Each (Unbroken d c) (if r.is_last end rest then r.leaves n F9 o else []) → rest ≡ p.no_clauses → Each (Unbroken d c) (r.leaves n F9 (falling end o))
    unfolding r.is_last falling
    last_kept d c clause.Break rest o kept is = none_left d c
    last_kept d c clause.FallThrough rest o kept is = subst (λ z. Each (Unbroken d c) (if r.is_last clause.FallThrough z then r.leaves n F9 o else [])) is kept

    pub clauses_next : (known fallen both : Views) (all : List Clause) (old before_patterns mid new : Equations) (x : Clause) (xs : List Clause) (left after : After) → ClausesLeft known all old (x ∷ xs) before_patterns left
        → AddsFrom s (λ q. e.patterns_entered q (words_from s.script.now (out-Clause x).patterns)) known before_patterns mid
        → ((o : views.After) → SightAfter s o left → Sight s (views.in_any_case o) fallen) → ((q : Seen) → Sight s q known → Sight s q fallen → Sight s q both)
        → AddsClause s y n (trees.script_of s.script.now (out-Clause x).body) (out-Clause x).end both mid new
        → ((q : Seen) → Sight s q both → SightAfter s (falling (out-Clause x).end (e.items_after (views.Both q) (trees.script_of s.script.now (out-Clause x).body))) after)
        → ClausesLeft known all old xs new after
    unfolding e.items_entered r.clauses_bounds clauses_from
    clauses_next known fallen both all old before_patterns mid new x xs left after before adds_patterns any join adds leaves = record {
      adds = λ t u q from k sight part kept.
          let at = before.adds t u q from k sight part kept in
          let body : p.Items = trees.script_of s.script.now (out-Clause x).body in
          let end : ClauseEnd = (out-Clause x).end in
          let into : Seen = views.in_any_case at.into in
          let seen : Seen = q ++ into in
          let here : Sight s seen both = join seen (see_left (names s) q into known sight) (see_right (names s) q into fallen (any at.into at.sight)) in
          let behind : views.After = e.items_after (views.Both seen) body in
          let patterns : List Entered = e.patterns_entered q (words_from s.script.now (out-Clause x).patterns) in
          let first : List Entered = e.items_entered F9 y (views.Both seen) body in
          let rest : List Entered = e.clauses_entered y q (e.falls end behind) (clauses_from s.script.now xs) in
          let ends : List Constraint = if r.is_last end (clauses_from s.script.now xs) then r.leaves n F9 behind else [] in
          let parts = each_parts (Unbroken k.known k.claims) ends (r.clauses_bounds n q (e.falls end behind) (clauses_from s.script.now xs)) at.kept in
          let front : IsPart t (patterns ++ first) = first_part t (patterns ++ first) rest at.part in
          let own : IsPart t first = last_part t patterns first front in
          record {
            into = falling end behind;
            sight = leaves seen here;
            part = subst (λ z. IsPart t (e.clauses_entered y q z (clauses_from s.script.now xs))) (sym (falls_same end behind)) (last_part t (patterns ++ first) rest at.part);
            kept = subst (λ z. AreKept s t u k (r.clauses_bounds n q z (clauses_from s.script.now xs))) (sym (falls_same end behind)) parts.1;
            out = falling end behind;
            last = leaves seen here;
            ended = last_kept k.known k.claims end (clauses_from s.script.now xs) behind parts.0;
            tallies = λ tallied. adds t u seen k here own (break_kept k.known k.claims end (clauses_from s.script.now xs) (r.leaves n F9 behind) parts.0) (adds_patterns t u q k sight (first_part t patterns first front) (at.tallies tallied));
          };
    }

    pub clauses_added : (known : Views) (all : List Clause) (old mid new : Equations) (left : After) → ClausesLeft known all old [] mid left → AddsLeaves s n left mid new → AddsClauses s y n (clauses_from s.script.now all) known old new
    unfolding clauses_from
    clauses_added known all old mid new left before more t u q fallen k sight part kept tallied =
        let at = before.adds t u q fallen k sight part kept in
        more t u k F9 at.out at.last (at.ended refl) (at.tallies tallied)

    pub ended_clause : (body : p.Items) (end : ClauseEnd) (known : Views) (after : After) (old mid new : Equations) → end ≡ clause.Break → ((by : FlowRule) → AddsFrom s (λ q. e.items_entered by y (views.Both q) body) known old mid)
        → ((q : Seen) → Sight s q known → SightAfter s (e.items_after (views.Both q) body) after) → AddsLeaves s n after mid new → AddsClause s y n body end known old new
    ended_clause body end known after old mid new is adds leaves more t u q k sight part kept tallied = more t u k F9 _ (leaves q sight) (kept is) (adds F9 t u q k sight part tallied)

    pub fallen_clause : (body : p.Items) (end : ClauseEnd) (known : Views) (old mid : Equations) → ((by : FlowRule) → AddsFrom s (λ q. e.items_entered by y (views.Both q) body) known old mid) → AddsClause s y n body end known old mid
    fallen_clause body end known old mid adds t u q k sight part kept tallied = adds F9 t u q k sight part tallied

    -- what a clause hands on
    pub nothing_falls : (end : ClauseEnd) (o : views.After) (left : After) → end ≡ clause.Break → SightAfter s (views.Both []) left → SightAfter s (falling end o) left
    unfolding falling
    nothing_falls end o left is none = subst (λ m. SightAfter s (falling m o) left) (sym is) none

    pub all_falls : (end : ClauseEnd) (o : views.After) (left : After) → end ≡ clause.FallThrough → SightAfter s o left → SightAfter s (falling end o) left
    unfolding falling
    all_falls end o left is sight = subst (λ m. SightAfter s (falling m o) left) (sym is) sight

    pub unmatched_added : (cs : List Clause) (always : Bool) (known : Views) (place : Count) (old new : Equations) → always ≡ list_any (has_star s.script.now) cs → always ≡ false → place.index ≡ command_index part.Zero n
        → ((u : ℕ → ℕ) → AreBounds s.places u place (Raise 0) known → Tallies s.places u old new) → AddsUnmatched s n (clauses_from s.script.now cs) known old new
    unmatched_added cs always known place old new is none at asks t u q k sight kept =
        let all : AreKept s t u k (bound (views.AfterZero n) n F9 q) =
        subst (λ m. AreKept s t u k (if m then [] else bound (views.AfterZero n) n F9 q)) (always_same s.script.now cs ∙ sym is ∙ none) kept in
        asks u (place_bounds s t u k (views.AfterZero n) place n F9 q known (zero_index n place at) all sight)

    pub case_kind : (w : p.Word) (cs : p.Clauses) (inside behind : Views) (old mid next new : Equations) → Passes s (λ q. e.word_entered q w) (word_gains w) inside behind old mid → AddsClauses s y n cs behind mid next
        → AddsUnmatched s n cs behind next new → AddsKind s y n (p.Case w cs) inside old new
    unfolding e.items_entered r.kind_bounds
    case_kind w cs inside behind old mid next new word adds more t u q k sight part kept tallied =
        let first : List Entered = e.word_entered q w in
        let rest : List Entered = e.clauses_entered y (views.gaining (word_gains w) q) [] cs in
        let left : List Constraint = r.clauses_bounds n (views.gaining (word_gains w) q) [] cs in
        let own = each_parts (Unbroken k.known k.claims) left (if r.matches_always cs then [] else bound (views.AfterZero n) n F9 (views.gaining (word_gains w) q)) kept in
        let seen : Sight s (views.gaining (word_gains w) q) behind = raised_see (names s) q (word_gains w) inside behind word.gained sight in
        more t u (views.gaining (word_gains w) q) k seen own.1
        (adds t u (views.gaining (word_gains w) q) [] k seen (last_part t first rest part) own.0
        (word.adds t u q k sight (first_part t first rest part) tallied))
