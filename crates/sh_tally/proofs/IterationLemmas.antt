-- What a walk over lists of words and over `for` adds for their counts.
use Rattle.std.proofs.Common.{◌≡◌, ℕ, List, [], ◌∷◌, ◌++◌, Some, sym, ap, refl, subst}
use Rattle.sh_tree.specs.declared.tree.Word.{Word}
use Rattle.sh_tree.specs.Lists.{parts_from, words_from}
use Rattle.sh_tree.specs.standard.program.Syntax as p
use Rattle.sh_tree.specs.standard.program.Syntax.{Text}
use Rattle.sh_domain.specs.declared.rule.FlowRule.{FlowRule}
use Rattle.sh_domain.specs.declared.rule.FlowRule.TheVariants.{F8}
use Rattle.sh_domain.specs.Entries as e
use Rattle.sh_domain.specs.Entries.{Around, Entered}
use Rattle.sh_domain.specs.Gains.{Gains, and_gains, word_gains, words_gains}
use Rattle.sh_domain.specs.Rules as r
use Rattle.sh_domain.specs.Rules.{Constraint, bound, leaves}
use Rattle.sh_domain.specs.Views as views
use Rattle.sh_domain.specs.Views.{Head, Seen, gaining, gaining_names}
use Rattle.sh_domain.proofs.EachLemmas.{each_parts}
use Rattle.sh_counts.specs.declared.equations.Change.TheVariants.{Raise}
use Rattle.sh_counts.specs.declared.equations.Count.{Count}
use Rattle.sh_counts.specs.declared.equations.Equations.{Equations}
use Rattle.sh_tally.specs.declared.bounds.Tally.{Tally}
use Rattle.sh_tally.specs.declared.places.Part.TheVariants as part
use Rattle.sh_tally.specs.declared.views.After.{After}
use Rattle.sh_tally.specs.declared.views.Views.{Views}
use Rattle.sh_tally.specs.Tallies.{AreBounds, Tallies}
use Rattle.sh_tally.specs.Views.{Raised, command_index, index_of}
use Rattle.sh_tally.specs.Walks.{AddsFrom, AddsKind, AddsLeaves, AddsTurns, ElementsAt, IsPart, Keeps, Passes, Sight, SightAfter, names}
use Rattle.sh_tally.proofs.ViewLemmas.{raised_none, raised_see, raised_then, see_named}
use Rattle.sh_tally.proofs.WalkLemmas.{Unbroken, first_part, last_part, place_bounds}

-- Lists of pieces

module _ (s : Tally) where
  -- these pieces before others, by what all of them and the others enter and gain
  pub record ListPassed (all rest : Seen → List Entered) (gains more : Gains) (known left : Views) (old new : Equations) : Type 0 where
    pub adds : (t : p.Items) (u : ℕ → ℕ) (q : Seen) → Keeps s t u → Sight s q known → IsPart t (all q) → ElementsAt s t u rest left old new
    pub gained : (end : Views) → Raised more.args left end → Raised gains.args known end

  pub list_begun : (all : Seen → List Entered) (gains : Gains) (known : Views) (old : Equations) → ListPassed all all gains gains known known old old
  list_begun all gains known old = record { adds = λ t u q k sight part. record { seen = q; sight = sight; part = part; tallies = λ x. x }; gained = λ end h. h }

  pub list_next : (all one rest : Seen → List Entered) (gains g more : Gains) (known now left : Views) (old mid new : Equations)
      → ListPassed all (λ q. one q ++ rest (gaining g q)) gains (and_gains g more) known now old mid → Passes s one g now left mid new → ListPassed all rest gains more known left old new
  list_next all one rest gains g more known now left old mid new before passed = record {
    adds = λ t u q k sight part.
        let at = before.adds t u q k sight part in
        record {
          seen = gaining g at.seen;
          sight = raised_see (names s) at.seen g now left passed.gained at.sight;
          part = last_part t (one at.seen) (rest (gaining g at.seen)) at.part;
          tallies = λ tallied. passed.adds t u at.seen k at.sight (first_part t (one at.seen) (rest (gaining g at.seen)) at.part) (at.tallies tallied);
        };
    gained = λ end h. before.gained end (raised_then g.args more.args now left end passed.gained h);
  }

  pub list_passed : (all rest : Seen → List Entered) (gains more : Gains) (known left : Views) (old new : Equations) → more.args ≡ 0 → ListPassed all rest gains more known left old new → Passes s all gains known left old new
  list_passed all rest gains more known left old new none before = record {
    adds = λ t u q k sight part. (before.adds t u q k sight part).tallies;
    gained = before.gained left (subst (λ m. Raised m left left) (sym none) (raised_none left));
  }

  -- Words

  abbrev pub ListedPassed : p.Words → p.Words → Views → Views → Equations → Equations → Type 0
  ListedPassed all rest known left old new = ListPassed (λ q. e.words_entered q all) (λ q. e.words_entered q rest) (words_gains all) (words_gains rest) known left old new

  pub listed_begun : (ws : p.Words) (known : Views) (old : Equations) → ListedPassed ws ws known known old old
  listed_begun ws known old = list_begun (λ q. e.words_entered q ws) (words_gains ws) known old

  pub listed_next : (b : Text) (all : p.Words) (x : Word) (xs : List Word) (known now left : Views) (old mid new : Equations) → ListedPassed all (words_from b (x ∷ xs)) known now old mid
      → Passes s (λ q. e.word_entered q (parts_from b x.parts)) (word_gains (parts_from b x.parts)) now left mid new → ListedPassed all (words_from b xs) known left old new
  unfolding e.items_entered words_from words_gains
  listed_next b all x xs known now left old mid new before one =
      list_next (λ q. e.words_entered q all) (λ q. e.word_entered q (parts_from b x.parts)) (λ q. e.words_entered q (words_from b xs)) (words_gains all) (word_gains (parts_from b x.parts)) (words_gains (words_from b xs)) known now left old mid new before one

  pub listed_passed : (b : Text) (all : p.Words) (known left : Views) (old new : Equations) → ListedPassed all (words_from b []) known left old new → Passes s (λ q. e.words_entered q all) (words_gains all) known left old new
  unfolding words_from words_gains
  listed_passed b all known left old new before = list_passed (λ q. e.words_entered q all) (λ q. e.words_entered q (words_from b [])) (words_gains all) (words_gains (words_from b [])) known left old new refl before

-- `for`

module _ (s : Tally) (y z : Around) (n : ℕ) (known : Views) (body : p.Items) where
  pub turns_added : (head again : Views) (after end : After) (turn : Count) (old one two three new : Equations) → z ≡ e.in_loop n y → turn.index ≡ command_index part.Head n → Sight s (views.at (Head n)) head
      → ((by : FlowRule) → AddsFrom s (λ q. e.items_entered by z (views.Both q) body) head old one) → ((q : Seen) → Sight s q head → SightAfter s (e.items_after (views.Both q) body) after)
      → ((u : ℕ → ℕ) → AreBounds s.places u turn (Raise 0) known → Tallies s.places u one two)
      → ((o : views.After) → SightAfter s o after → Sight s (views.in_any_case o) again)
      → ((u : ℕ → ℕ) → AreBounds s.places u turn (Raise 0) again → Tallies s.places u two three)
      → SightAfter s (views.Both (views.at (Head n))) end → AddsLeaves s n end three new → AddsTurns s y n body known old new
  unfolding index_of
  turns_added head again after end turn old one two three new inner at own adds leaves_after enters any turned both last t u q name k sight part kept tallied =
      let h : Seen = gaining_names (name ∷ []) (views.at (Head n)) in
      let sight_named : Sight s h head = see_named (names s) (views.at (Head n)) head (name ∷ []) own in
      let o : views.After = e.items_after (views.Both h) body in
      let entry : List Constraint = bound (Head n) n F8 q in
      let turning : List Constraint = bound (Head n) n F8 (views.in_any_case o) in
      let ending : List Constraint = leaves n F8 (views.Both (views.at (Head n))) in
      let outer = each_parts (Unbroken k.known k.claims) (entry ++ turning) ending kept in
      let heads = each_parts (Unbroken k.known k.claims) entry turning outer.0 in
      last t u k F8 (views.Both (views.at (Head n))) both outer.1
      (turned u (place_bounds s t u k (Head n) turn n F8 (views.in_any_case o) again (ap Some (sym at)) heads.1 (any o (leaves_after h sight_named)))
      (enters u (place_bounds s t u k (Head n) turn n F8 q known (ap Some (sym at)) heads.0 sight)
      (adds F8 t u h k sight_named (subst (λ a. IsPart t (e.items_entered F8 a (views.Both h) body)) (sym inner) part) tallied)))

module _ (s : Tally) (y : Around) (n : ℕ) (name : Text) (body : p.Items) (inside : Views) where
  pub listed_kind : (ws : p.Words) (behind : Views) (old mid new : Equations) → Passes s (λ q. e.words_entered q ws) (words_gains ws) inside behind old mid → AddsTurns s y n body behind mid new
      → AddsKind s y n (p.For name (p.listed ws) body) inside old new
  unfolding e.items_entered e.behind_list r.kind_bounds
  listed_kind ws behind old mid new passed adds t u q k sight part kept tallied =
      let first : List Entered = e.words_entered q ws in
      let rest : List Entered = e.items_entered F8 (e.in_loop n y) (views.Both (gaining_names (name ∷ []) (views.at (Head n)))) body in
      adds t u (gaining (words_gains ws) q) name k (raised_see (names s) q (words_gains ws) inside behind passed.gained sight) (last_part t first rest part) kept
      (passed.adds t u q k sight (first_part t first rest part) tallied)

  pub every_kind : (old new : Equations) → AddsTurns s y n body inside old new → AddsKind s y n (p.For name p.every_parameter body) inside old new
  unfolding e.items_entered e.behind_list r.kind_bounds
  every_kind old new adds t u q k sight part kept tallied = adds t u q name k sight part kept tallied
