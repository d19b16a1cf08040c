-- What a walk over a script for its counts adds.
use Rattle.std.proofs.Math.Seq.{drop-cons}
use Rattle.std.proofs.Common.{◌≡◌, ℕ, suc, ◌+◌, ◌<◌, ◌≤◌, drop, get_or, length, Bool, true, false, List, [], ◌∷◌, ◌++◌, append_assoc, flat_map, Option, Some, None, IfSome, refl, sym, ap, ◌∙◌, subst, arith}
use Rattle.sh_tree.specs.declared.tree.AndOr.{AndOr, out-AndOr}
use Rattle.sh_tree.specs.declared.tree.Command.{Command, out-Command}
use Rattle.sh_tree.specs.declared.tree.Item.{Item, out-Item}
use Rattle.sh_tree.specs.declared.tree.Link.{Link}
use Rattle.sh_tree.specs.declared.tree.Link.TheVariants as link
use Rattle.sh_tree.specs.declared.tree.LoopKind.{LoopKind}
use Rattle.sh_tree.specs.declared.tree.Pipe.{Pipe, out-Pipe}
use Rattle.sh_tree.specs.Lists.{commands_from, items_from, links_from}
use Rattle.sh_tree.specs.standard.program.Syntax as p
use Rattle.sh_tree.specs.standard.program.Trees as trees
use Rattle.sh_tree.proofs.ProgramRules as rules
use Rattle.sh_tree.specs.standard.program.Syntax.{Text}
use Rattle.sh_domain.specs.declared.rule.FlowRule.{FlowRule}
use Rattle.sh_domain.specs.declared.rule.FlowRule.TheVariants.{F2, F3, F7, F10, F11, F12}
use Rattle.sh_domain.specs.Entries as e
use Rattle.sh_domain.specs.Entries.{Around, Entered, behind_redirects, script_entered}
use Rattle.sh_domain.specs.Facts.{Facts, NotReached, Known, facts}
use Rattle.sh_domain.specs.Faults.{broken}
use Rattle.sh_domain.specs.Gains.{job, named}
use Rattle.sh_domain.specs.Inclusions.{Each}
use Rattle.sh_domain.specs.Order.{IsWithin, seen_facts}
use Rattle.sh_domain.specs.Rules as r
use Rattle.sh_domain.specs.Rules.{Constraint, bound, bounds, functions_of, losses, script_bounds}
use Rattle.sh_domain.specs.Views as views
use Rattle.sh_domain.specs.Views.{At, Before, Certificate, Seen, Slot, View, view_facts}
use Rattle.sh_domain.proofs.EachLemmas.{each_inside, each_none, each_parts}
use Rattle.sh_domain.proofs.MonotoneLemmas.{told_none}
use Rattle.sh_domain.proofs.OrderLemmas.{meet_greatest, within_nowhere, within_test}
use Rattle.sh_counts.specs.declared.equations.Change.TheVariants.{Raise}
use Rattle.sh_counts.specs.declared.equations.Count.{Count}
use Rattle.sh_counts.specs.declared.equations.Equations.{Equations}
use Rattle.sh_counts.specs.Equations.{made}
use Rattle.sh_tally.specs.declared.bounds.Tally.{Tally}
use Rattle.sh_tally.specs.declared.views.After.{After}
use Rattle.sh_tally.specs.declared.views.View as handle
use Rattle.sh_tally.specs.declared.views.Views.{Views}
use Rattle.sh_tally.specs.Counts.{HasAtMost, all_made}
use Rattle.sh_tally.specs.Tallies.{AreBounds, Bounds, Tallies}
use Rattle.sh_tally.specs.declared.places.Part.TheVariants as part
use Rattle.sh_tally.specs.Views.{See, Sees, command_index, index_of}
use Rattle.sh_tally.specs.Walks.{Adds, AddsFrom, AddsKind, AddsLeaves, HasCount, IsPart, Keeps, Leaves, Sight, SightAfter, names}
use Rattle.sh_tally.proofs.CountLemmas.{views_bound_counts, within_at_most}
use Rattle.sh_tally.proofs.ViewLemmas.{see_left, see_named, see_right, see_started}

-- Counts

pub count_at_most : (n : ℕ) (f : Facts) → HasCount n f → HasAtMost n f
unfolding HasCount HasAtMost
count_at_most n NotReached h = h
count_at_most n (Known v f a) h = omega (arith, h)

pub count_below : (n m : ℕ) (f : Facts) → HasCount n f → HasAtMost m f → n ≤ m
unfolding HasCount HasAtMost
count_below n m NotReached h k = absurd h
count_below n m (Known v f a) h k = omega (arith, h, k)

-- Commands next to each other

pub first_part : (t : p.Items) (es fs : List Entered) → IsPart t (es ++ fs) → IsPart t es
first_part t es fs q = record { front = q.front; back = fs ++ q.back; whole = q.whole ∙ ap (λ gs. q.front ++ gs) (append_assoc es fs q.back) }

pub last_part : (t : p.Items) (es fs : List Entered) → IsPart t (es ++ fs) → IsPart t fs
last_part t es fs q = record {
  front = q.front ++ es;
  back = q.back;
  whole = q.whole ∙ ap (λ gs. q.front ++ gs) (append_assoc es fs q.back) ∙ sym (append_assoc q.front es (fs ++ q.back));
}

-- What a certificate keeps at commands next to each other

module _ (d : Facts) (c : Certificate) where
  abbrev pub Unbroken : Constraint → Type 0
  Unbroken k = broken d c k ≡ []

  pub part_kept : (t : p.Items) (es : List Entered) → flat_map (broken d c) (script_bounds t) ≡ [] → IsPart t es → Each (λ e. Each Unbroken (bounds (functions_of (script_entered t)) e)) es
  unfolding script_bounds
  part_kept t es none part =
      let fs = functions_of (script_entered t) in
      let all : Each (λ e. Each Unbroken (bounds fs e)) (part.front ++ (es ++ part.back)) =
      subst (Each (λ e. Each Unbroken (bounds fs e))) part.whole (each_inside Unbroken (bounds fs) (script_entered t) (each_none (broken d c) (script_bounds t) none)) in
      (each_parts _ es part.back (each_parts _ part.front (es ++ part.back) all).1).0

  pub entered_within : (slot : Slot) (n : ℕ) (rule : FlowRule) (q : Seen) → Each Unbroken (bound slot n rule q) → IsWithin (facts (c.claim slot)) (seen_facts d c q)
  unfolding seen_facts broken Each
  entered_within slot n rule [] all = within_nowhere _
  entered_within slot n rule (v ∷ q) all =
      meet_greatest _ _ _ ((within_test (c.claim slot) (view_facts d c v)).0 (told_none _ n rule all.0)) (entered_within slot n rule q all.1)

-- Bounds

module _ (s : Tally) (t : p.Items) (u : ℕ → ℕ) (k : Keeps s t u) where
  -- what is known at a place bounds its count
  view_bound : (slot : Slot) (place : Count) (q : Seen) (h : handle.View) → index_of (names s) slot ≡ Some place.index → IsWithin (facts (k.claims.claim slot)) (seen_facts k.known k.claims q)
      → Sees (names s) q h → Bounds s.places u place (Raise 0) h
  unfolding made
  view_bound slot place q h at within sees a b low there =
      let v : View = sees.view in
      let from : Slot = sees.shows.slot in
      let count = count_at_most (u h.source.index) (facts (k.claims.claim from)) (k.counts from h.source.index b sees.shows.place there) in
      let seen : HasAtMost (all_made v.steps (u h.source.index)) (seen_facts k.known k.claims (sees.front ++ (record { source = At from; steps = v.steps } ∷ sees.back))) =
      views_bound_counts k.known k.claims from v.steps sees.front sees.back (u h.source.index) count (sees.shows.passes k.claims) in
      let same : sees.front ++ (record { source = At from; steps = v.steps } ∷ sees.back) ≡ q =
      ap (λ z. sees.front ++ (record { source = z; steps = v.steps } ∷ sees.back)) (sym sees.shows.source) ∙ sym sees.one in
      let here = within_at_most _ _ _ within (subst (λ z. HasAtMost (all_made v.steps (u h.source.index)) (seen_facts k.known k.claims z)) same seen) in
      let below = count_below (u place.index) _ _ (k.counts slot place.index a at low) here in
      let few = sees.shows.made (u h.source.index) in
      omega (arith, below, few)

  each_bound : (slot : Slot) (place : Count) (q : Seen) (o : Option handle.View) → index_of (names s) slot ≡ Some place.index → IsWithin (facts (k.claims.claim slot)) (seen_facts k.known k.claims q)
      → IfSome o (Sees (names s) q) → IfSome o (Bounds s.places u place (Raise 0))
  each_bound slot place q None at within sees = tt
  each_bound slot place q (Some h) at within sees = view_bound slot place q h at within sees

  pub place_bounds : (slot : Slot) (place : Count) (n : ℕ) (rule : FlowRule) (q : Seen) (known : Views) → index_of (names s) slot ≡ Some place.index → Each (Unbroken k.known k.claims) (bound slot n rule q)
      → Sight s q known → AreBounds s.places u place (Raise 0) known
  place_bounds slot place n rule q known at all sees =
      let within = entered_within k.known k.claims slot n rule q all in
      record { first = each_bound slot place q known.first at within sees.first; second = each_bound slot place q known.second at within sees.second }

-- Along a list

module _ (s : Tally) (y : Around) where
  abbrev script : Text
  script = s.script.now

  abbrev none_more : (u : ℕ → ℕ) (old : Equations) → Tallies s.places u old old
  none_more u old t = t

  -- what is left of the parts of a pipeline
  pub record PartsLeft (known : Views) (all : List Command) (old : Equations) (rest : List Command) (now : Equations) : Type 0 where
    pub adds : (t : p.Items) (u : ℕ → ℕ) (by : FlowRule) (q : Seen) → Keeps s t u → Sight s q known → IsPart t (e.commands_entered by y q (commands_from script all))
        → IsPart t (e.commands_entered by y q (commands_from script rest)) × Tallies s.places u old now

  pub parts_begun : (known : Views) (all : List Command) (old : Equations) → PartsLeft known all old all old
  parts_begun known all old = record { adds = λ t u by q k sight part. (part, none_more u old) }

  pub parts_next : (known : Views) (all : List Command) (old mid new : Equations) (c : Command) (cs : List Command) → PartsLeft known all old (c ∷ cs) mid
      → ((by : FlowRule) → AddsFrom s (λ q. e.command_entered by y q (trees.command_of script c)) known mid new) → PartsLeft known all old cs new
  unfolding e.items_entered commands_from
  parts_next known all old mid new c cs left adds = record {
    adds = λ t u by q k sight part.
        let both = left.adds t u by q k sight part in (
          last_part t (e.command_entered by y q (trees.command_of script c)) _ both.0,
          λ tallied. adds by t u q k sight (first_part t (e.command_entered by y q (trees.command_of script c)) _ both.0) (both.1 tallied),
        );
  }

  -- what is left of the pipelines after `&&` and `||`
  pub record Linked (t : p.Items) (u : ℕ → ℕ) (old : Equations) (rest : List (Link × Pipe)) (now : Equations) (after : After) : Type 0 where
    pub seen : views.After
    pub sight : SightAfter s seen after
    pub part : IsPart t (e.links_entered y seen (links_from script rest))
    pub tallies : Tallies s.places u old now

  pub record LinkedTo (o : views.After) (after : After) (rest : List (Link × Pipe)) : Type 0 where
    pub seen : views.After
    pub sight : SightAfter s seen after
    pub same : e.links_after seen (links_from script rest) ≡ o

  pub record LinksLeft (before : After) (all : List (Link × Pipe)) (old : Equations) (rest : List (Link × Pipe)) (now : Equations) (after : After) : Type 0 where
    pub adds : (t : p.Items) (u : ℕ → ℕ) (o : views.After) → Keeps s t u → SightAfter s o before → IsPart t (e.links_entered y o (links_from script all)) → Linked t u old rest now after
    pub leaves : (o : views.After) → SightAfter s o before → LinkedTo (e.links_after o (links_from script all)) after rest

  pub links_begun : (before : After) (all : List (Link × Pipe)) (old : Equations) → LinksLeft before all old all old before
  links_begun before all old = record {
    adds = λ t u o k sight part. record { seen = o; sight = sight; part = part; tallies = none_more u old };
    leaves = λ o sight. record { seen = o; sight = sight; same = refl };
  }

  pub links_next : (before : After) (all : List (Link × Pipe)) (old mid new : Equations) (l : Link × Pipe) (ls : List (Link × Pipe)) (now after : After) → LinksLeft before all old (l ∷ ls) mid now
      → ((by : FlowRule) → Adds s (λ o. e.pipeline_entered by y (e.link_seen l.0 o) (trees.pipeline_of script l.1)) now mid new)
      → Leaves s (λ o. e.linked l.0 o (e.pipeline_after (e.link_seen l.0 o) (trees.pipeline_of script l.1))) now after → LinksLeft before all old ls new after
  unfolding e.items_entered e.links_after links_from
  links_next before all old mid new l ls now after left adds leaves = record {
    adds = λ t u o k sight part.
        let one = left.adds t u o k sight part in
        record {
          seen = e.linked l.0 one.seen (e.pipeline_after (e.link_seen l.0 one.seen) (trees.pipeline_of script l.1));
          sight = leaves one.seen one.sight;
          part = last_part t (e.pipeline_entered F3 y (e.link_seen l.0 one.seen) (trees.pipeline_of script l.1)) _ one.part;
          tallies = λ tallied. adds F3 t u one.seen k one.sight (first_part t (e.pipeline_entered F3 y (e.link_seen l.0 one.seen) (trees.pipeline_of script l.1)) _ one.part) (one.tallies tallied);
        };
    leaves = λ o sight.
        let one = left.leaves o sight in
        record {
          seen = e.linked l.0 one.seen (e.pipeline_after (e.link_seen l.0 one.seen) (trees.pipeline_of script l.1));
          sight = leaves one.seen one.sight;
          same = one.same;
        };
  }

  pub links_added : (before : After) (all : List (Link × Pipe)) (old new : Equations) (after : After) → LinksLeft before all old [] new after
      → Adds s (λ o. e.links_entered y o (links_from script all)) before old new
  links_added before all old new after left t u o k sight part = (left.adds t u o k sight part).tallies

  pub links_left : (before : After) (all : List (Link × Pipe)) (old new : Equations) (after : After) → LinksLeft before all old [] new after
      → Leaves s (λ o. e.links_after o (links_from script all)) before after
  unfolding e.links_after links_from
  links_left before all old new after left o sight = let one = left.leaves o sight in subst (λ z. SightAfter s z after) one.same one.sight

  -- what is left of the items
  pub record Listed (t : p.Items) (u : ℕ → ℕ) (old : Equations) (rest : List Item) (now : Equations) (after : After) : Type 0 where
    pub by : FlowRule
    pub seen : views.After
    pub sight : SightAfter s seen after
    pub part : IsPart t (e.items_entered by y seen (items_from script rest))
    pub tallies : Tallies s.places u old now

  pub record ListedTo (o : views.After) (after : After) (rest : List Item) : Type 0 where
    pub seen : views.After
    pub sight : SightAfter s seen after
    pub same : e.items_after seen (items_from script rest) ≡ o

  pub record ItemsLeft (known : Views) (all : List Item) (old : Equations) (rest : List Item) (now : Equations) (after : After) : Type 0 where
    pub adds : (t : p.Items) (u : ℕ → ℕ) (by : FlowRule) (q : Seen) → Keeps s t u → Sight s q known → IsPart t (e.items_entered by y (views.Both q) (items_from script all)) → Listed t u old rest now after
    pub leaves : (q : Seen) → Sight s q known → ListedTo (e.items_after (views.Both q) (items_from script all)) after rest

  pub items_begun : (known : Views) (all : List Item) (old : Equations) (after : After) → ((q : Seen) → Sight s q known → SightAfter s (views.Both q) after) → ItemsLeft known all old all old after
  items_begun known all old after both = record {
    adds = λ t u by q k sight part. record { by = by; seen = views.Both q; sight = both q sight; part = part; tallies = none_more u old };
    leaves = λ q sight. record { seen = views.Both q; sight = both q sight; same = refl };
  }

  pub items_next : (known : Views) (all : List Item) (old mid new : Equations) (i : Item) (is : List Item) (now after : After) → ItemsLeft known all old (i ∷ is) mid now
      → ((by : FlowRule) → Adds s (λ o. e.list_entered (e.item_rule (out-Item i).background by) (e.item_around (out-Item i).background y) (e.item_seen (out-Item i).background (views.in_any_case o)) (trees.and_or_of script (out-Item i).list)) now mid new)
      → Leaves s (λ o. e.item_after (views.in_any_case o) (out-Item i).background (trees.and_or_of script (out-Item i).list)) now after → ItemsLeft known all old is new after
  unfolding e.items_entered e.items_after items_from
  items_next known all old mid new i is now after left adds leaves = record {
    adds = λ t u by q k sight part.
        let one = left.adds t u by q k sight part in
        let first : List Entered = e.list_entered (e.item_rule (out-Item i).background one.by) (e.item_around (out-Item i).background y) (e.item_seen (out-Item i).background (views.in_any_case one.seen)) (trees.and_or_of script (out-Item i).list) in
        record {
          by = F2;
          seen = e.item_after (views.in_any_case one.seen) (out-Item i).background (trees.and_or_of script (out-Item i).list);
          sight = leaves one.seen one.sight;
          part = last_part t first _ one.part;
          tallies = λ tallied. adds one.by t u one.seen k one.sight (first_part t first _ one.part) (one.tallies tallied);
        };
    leaves = λ q sight.
        let one = left.leaves q sight in
        record {
          seen = e.item_after (views.in_any_case one.seen) (out-Item i).background (trees.and_or_of script (out-Item i).list);
          sight = leaves one.seen one.sight;
          same = one.same;
        };
  }

  pub items_added : (known : Views) (all : List Item) (old new : Equations) (after : After) → ItemsLeft known all old [] new after
      → (by : FlowRule) → AddsFrom s (λ q. e.items_entered by y (views.Both q) (items_from script all)) known old new
  items_added known all old new after left by t u q k sight part = (left.adds t u by q k sight part).tallies

  pub items_left : (known : Views) (all : List Item) (old new : Equations) (after : After) → ItemsLeft known all old [] new after
      → (q : Seen) → Sight s q known → SightAfter s (e.items_after (views.Both q) (items_from script all)) after
  unfolding e.items_after items_from
  items_left known all old new after left q sight = let one = left.leaves q sight in subst (λ z. SightAfter s z after) one.same one.sight

  -- an and-or list
  pub list_added : (l : AndOr) (known : Views) (mid : After) (old one new : Equations) (by : FlowRule) → AddsFrom s (λ q. e.pipeline_entered by y q (trees.pipeline_of script (out-AndOr l).first)) known old one
      → ((q : Seen) → Sight s q known → SightAfter s (e.pipeline_after q (trees.pipeline_of script (out-AndOr l).first)) mid)
      → Adds s (λ o. e.links_entered y o (links_from script (out-AndOr l).rest)) mid one new → AddsFrom s (λ q. e.list_entered by y q (trees.and_or_of script l)) known old new
  unfolding e.items_entered
  list_added l known mid old one new by adds left more t u q k sight part =
      let first : List Entered = e.pipeline_entered by y q (trees.pipeline_of script (out-AndOr l).first) in
      let links : List Entered = e.links_entered y (e.pipeline_after q (trees.pipeline_of script (out-AndOr l).first)) (links_from script (out-AndOr l).rest) in
      let whole : IsPart t (first ++ links) = subst (λ z. IsPart t (e.list_entered by y q z)) (rules.and_or_of-out script l) part in
      λ tallied. more t u _ k (left q sight) (last_part t first links whole) (adds t u q k sight (first_part t first links whole) tallied)

  pub list_leaves : (l : AndOr) (known : Views) (mid after : After) → ((q : Seen) → Sight s q known → SightAfter s (e.pipeline_after q (trees.pipeline_of script (out-AndOr l).first)) mid)
      → Leaves s (λ o. e.links_after o (links_from script (out-AndOr l).rest)) mid after → (q : Seen) → Sight s q known → SightAfter s (e.list_after q (trees.and_or_of script l)) after
  unfolding e.list_after
  list_leaves l known mid after left more q sight = subst (λ z. SightAfter s (e.list_after q z) after) (sym (rules.and_or_of-out script l)) (more _ (left q sight))

-- The item of a list

module _ (s : Tally) (y : Around) (before : After) (known : Views) (seen : (o : views.After) → SightAfter s o before → Sight s (views.in_any_case o) known) where
  pub foreground_added : (l : p.AndOr) (b : Bool) (old new : Equations) → b ≡ false → ((by : FlowRule) → AddsFrom s (λ q. e.list_entered by y q l) known old new)
      → (by : FlowRule) → Adds s (λ o. e.list_entered (e.item_rule b by) (e.item_around b y) (e.item_seen b (views.in_any_case o)) l) before old new
  unfolding e.item_rule e.item_around e.item_seen
  foreground_added l b old new is adds by t u o k sight part =
      adds by t u (views.in_any_case o) k (seen o sight)
      (subst (λ z. IsPart t (e.list_entered (e.item_rule z by) (e.item_around z y) (e.item_seen z (views.in_any_case o)) l)) is part)

  pub foreground_left : (l : p.AndOr) (b : Bool) (after : After) → b ≡ false → ((q : Seen) → Sight s q known → SightAfter s (e.list_after q l) after)
      → Leaves s (λ o. e.item_after (views.in_any_case o) b l) before after
  unfolding e.item_after
  foreground_left l b after is leaves o sight = subst (λ z. SightAfter s (e.item_after (views.in_any_case o) z l) after) (sym is) (leaves (views.in_any_case o) (seen o sight))

  pub background_added : (z : Around) (l : p.AndOr) (b : Bool) (old new : Equations) → b ≡ true → z ≡ e.alone → ((by : FlowRule) → AddsFrom s (λ q. e.list_entered by z q l) known old new)
      → (by : FlowRule) → Adds s (λ o. e.list_entered (e.item_rule b by) (e.item_around b y) (e.item_seen b (views.in_any_case o)) l) before old new
  unfolding e.item_rule e.item_around e.item_seen
  background_added z l b old new is outside adds by t u o k sight part =
      adds F11 t u (views.without_job (views.in_any_case o)) k (see_started (names s) (views.in_any_case o) known (seen o sight))
      (subst (λ a. IsPart t (e.list_entered F11 a (views.without_job (views.in_any_case o)) l)) (sym outside)
      (subst (λ a. IsPart t (e.list_entered (e.item_rule a by) (e.item_around a y) (e.item_seen a (views.in_any_case o)) l)) is part))

  pub background_left : (l : p.AndOr) (b : Bool) (after : After) → b ≡ true → after.zero ≡ known → after.nonzero.first ≡ None → after.nonzero.second ≡ None
      → Leaves s (λ o. e.item_after (views.in_any_case o) b l) before after
  unfolding e.item_after views.if_zero views.if_nonzero
  background_left l b after is zero first second o sight =
      subst (λ z. SightAfter s (e.item_after (views.in_any_case o) z l) after) (sym is)
      (record {
        zero = subst (λ v. See (names s) (views.gaining (named (job ∷ [])) (views.in_any_case o)) v) (sym zero) (see_named (names s) (views.in_any_case o) known (job ∷ []) (seen o sight));
        nonzero = record { first = subst (λ v. IfSome v (Sees (names s) [])) (sym first) tt; second = subst (λ v. IfSome v (Sees (names s) [])) (sym second) tt };
      })

-- Along a list by its index

pub at_index : {A : Type 0} (xs : List A) (i : ℕ) (x : A) → i < length xs → x ≡ get_or xs i x → drop i xs ≡ x ∷ drop (i + 1) xs
at_index xs i x below is =
    let next : suc i ≡ i + 1 = omega arith in
    drop-cons xs i x below ∙ ap (λ y. y ∷ drop (suc i) xs) (sym is) ∙ ap (λ k. x ∷ drop k xs) next

-- A pipeline after `&&` or `||`

module _ (s : Tally) (y : Around) (before after : After) (old new : Equations) (pipe : p.Pipeline) where
  pub and_added : ((by : FlowRule) → AddsFrom s (λ q. e.pipeline_entered by y q pipe) before.zero old new) → (l : Link) → l ≡ link.AndThen
      → (by : FlowRule) → Adds s (λ o. e.pipeline_entered by y (e.link_seen l o) pipe) before old new
  unfolding e.link_seen
  and_added adds l is by t u o k sight part = adds by t u (views.if_zero o) k sight.zero (subst (λ z. IsPart t (e.pipeline_entered by y (e.link_seen z o) pipe)) is part)

  pub or_added : ((by : FlowRule) → AddsFrom s (λ q. e.pipeline_entered by y q pipe) before.nonzero old new) → (l : Link) → l ≡ link.OrElse
      → (by : FlowRule) → Adds s (λ o. e.pipeline_entered by y (e.link_seen l o) pipe) before old new
  unfolding e.link_seen
  or_added adds l is by t u o k sight part = adds by t u (views.if_nonzero o) k sight.nonzero (subst (λ z. IsPart t (e.pipeline_entered by y (e.link_seen z o) pipe)) is part)

  pub and_left : (met : Views) → ((q : Seen) → Sight s q before.zero → SightAfter s (e.pipeline_after q pipe) after)
      → ((q : Seen) → Sight s q before.nonzero → Sight s q after.nonzero → Sight s q met) → (l : Link) → l ≡ link.AndThen
      → Leaves s (λ o. e.linked l o (e.pipeline_after (e.link_seen l o) pipe)) before (record { zero = after.zero; nonzero = met })
  unfolding e.link_seen e.linked views.if_zero views.if_nonzero
  and_left met leaves both l is o sight =
      let left = leaves (views.if_zero o) sight.zero in
      let n : Seen = views.if_nonzero (e.pipeline_after (views.if_zero o) pipe) in
      subst (λ z. SightAfter s (e.linked z o (e.pipeline_after (e.link_seen z o) pipe)) (record { zero = after.zero; nonzero = met })) (sym is)
      (record {
        zero = left.zero;
        nonzero = both (views.if_nonzero o ++ n) (see_left (names s) (views.if_nonzero o) n before.nonzero sight.nonzero) (see_right (names s) (views.if_nonzero o) n after.nonzero left.nonzero);
      })

  pub or_left : (met : Views) → ((q : Seen) → Sight s q before.nonzero → SightAfter s (e.pipeline_after q pipe) after)
      → ((q : Seen) → Sight s q before.zero → Sight s q after.zero → Sight s q met) → (l : Link) → l ≡ link.OrElse
      → Leaves s (λ o. e.linked l o (e.pipeline_after (e.link_seen l o) pipe)) before (record { zero = met; nonzero = after.nonzero })
  unfolding e.link_seen e.linked views.if_zero views.if_nonzero
  or_left met leaves both l is o sight =
      let left = leaves (views.if_nonzero o) sight.nonzero in
      let z : Seen = views.if_zero (e.pipeline_after (views.if_nonzero o) pipe) in
      subst (λ m. SightAfter s (e.linked m o (e.pipeline_after (e.link_seen m o) pipe)) (record { zero = met; nonzero = after.nonzero })) (sym is)
      (record {
        zero = both (views.if_zero o ++ z) (see_left (names s) (views.if_zero o) z before.zero sight.zero) (see_right (names s) (views.if_zero o) z after.zero left.zero);
        nonzero = left.nonzero;
      })

-- The parts of a pipeline

module _ (s : Tally) (y : Around) where
  pub parts_added : (known : Views) (all : List Command) (old new : Equations) → PartsLeft s y known all old [] new
      → (by : FlowRule) → AddsFrom s (λ q. e.commands_entered by y q (commands_from s.script.now all)) known old new
  parts_added known all old new left by t u q k sight part = (left.adds t u by q k sight part).1

  one_part : (b : Text) (q : Seen) (n offset : ℕ) (kind : p.Kind) (rs : p.Redirects) → e.parts_after q (p.more_commands (p.command n offset kind rs) p.no_commands) ≡ views.after_command n
  unfolding e.parts_after
  one_part b q n offset kind rs = refl

  pub pipe_one_left : (l : Pipe) (c : Command) (after : After) → (out-Pipe l).parts ≡ c ∷ [] → SightAfter s (views.swapped (out-Pipe l).negated (views.after_command (out-Command c).number)) after
      → (q : Seen) → SightAfter s (e.pipeline_after q (trees.pipeline_of s.script.now l)) after
  unfolding e.pipeline_after commands_from
  pipe_one_left l c after one sight q =
      let b : Text = s.script.now in
      subst (λ z. SightAfter s (e.pipeline_after q z) after) (sym (rules.pipeline_of-out b l))
      (subst (λ ps. SightAfter s (views.swapped (out-Pipe l).negated (e.parts_after q (commands_from b ps))) after) (sym one)
      (subst (λ m. SightAfter s (views.swapped (out-Pipe l).negated (e.parts_after q (p.more_commands m p.no_commands))) after) (sym (rules.command_of-out b c))
      (subst (λ o. SightAfter s (views.swapped (out-Pipe l).negated o) after) (sym (one_part b q _ _ _ _)) sight)))

  pub pipe_one_added : (l : Pipe) (c : Command) (known : Views) (old new : Equations) → (out-Pipe l).parts ≡ c ∷ []
      → ((by : FlowRule) → AddsFrom s (λ q. e.command_entered by y q (trees.command_of s.script.now c)) known old new)
      → (by : FlowRule) → AddsFrom s (λ q. e.pipeline_entered by y q (trees.pipeline_of s.script.now l)) known old new
  unfolding e.items_entered e.part_rule e.part_around e.item_seen e.is_long commands_from
  pipe_one_added l c known old new one adds by t u q k sight part =
      let b : Text = s.script.now in
      let whole : IsPart t (e.pipeline_entered by y q (p.pipeline (out-Pipe l).negated (commands_from b (c ∷ [])))) =
      subst (λ ps. IsPart t (e.pipeline_entered by y q (p.pipeline (out-Pipe l).negated (commands_from b ps)))) one (subst (λ z. IsPart t (e.pipeline_entered by y q z)) (rules.pipeline_of-out b l) part) in
      adds by t u q k sight (first_part t (e.command_entered by y q (trees.command_of b c)) [] whole)

-- What a command requires at its entry

module _ (d : Facts) (c : Certificate) where
  before_kept : (t : p.Items) (by : FlowRule) (y : Around) (q : Seen) (n offset : ℕ) (kind : p.Kind) (rs : p.Redirects) → flat_map (broken d c) (script_bounds t) ≡ []
      → IsPart t (e.command_entered by y q (p.command n offset kind rs)) → Each (Unbroken d c) (bound (Before n) n by q)
  unfolding bounds e.items_entered Each
  before_kept t by y q n offset kind rs none part =
      let fs = functions_of (script_entered t) in
      let one : Entered = record { command = p.command n offset kind rs; rule = by; around = y; seen = q } in
      let before : List Constraint = bound (Before n) n by q in
      let its : List Constraint = r.kind_bounds fs y n (behind_redirects n rs) kind in
      let redirected : List Constraint = r.redirects_bounds n rs in
      let counted : List Constraint = r.counted y.drops n (losses fs one) in
      let own = first_part t (one ∷ []) (e.redirects_entered (views.at (Before n)) rs ++ e.kind_entered y n (behind_redirects n rs) kind) part in
      let all : Each (Unbroken d c) (bounds fs one) = (part_kept d c t (one ∷ []) none own).0 in
      let last = each_parts (Unbroken d c) (before ++ its ++ redirected) counted all in
      let third = each_parts (Unbroken d c) (before ++ its) redirected last.0 in
      (each_parts (Unbroken d c) before its third.0).0

pub entered_bounds : (s : Tally) (y : Around) (by : FlowRule) (m : Command) (known : Views) (place : Count) → index_of (names s) (Before (out-Command m).number) ≡ Some place.index
    → (t : p.Items) (u : ℕ → ℕ) (q : Seen) (k : Keeps s t u) → Sight s q known → IsPart t (e.command_entered by y q (trees.command_of s.script.now m)) → AreBounds s.places u place (Raise 0) known
entered_bounds s y by m known place at t u q k sight part =
    place_bounds s t u k (Before (out-Command m).number) place _ by q known at
    (before_kept k.known k.claims t by y q _ _ _ _ k.rules (subst (λ z. IsPart t (e.command_entered by y q z)) (rules.command_of-out s.script.now m) part)) sight

pub before_index : (s : Tally) (m : Command) (place : Count) → place.index ≡ command_index part.Before (out-Command m).number → index_of (names s) (Before (out-Command m).number) ≡ Some place.index
unfolding index_of
before_index s m place is = ap Some (sym is)

-- Lists of one, and of others

pub one_of : {A : Type 0} (xs : List A) (x : A) → 1 ≤ length xs → length xs ≤ 1 → x ≡ get_or xs 0 x → xs ≡ x ∷ []
one_of [] x some few is = absurd (omega (arith, some))
one_of (y ∷ []) x some few is = ap (λ z. z ∷ []) (sym is)
one_of (y ∷ z ∷ xs) x some few is = absurd (omega (arith, few))

many_after : (b : Text) (q : Seen) (cs : List Command) → (length cs ≡ 1 → ⊥) → e.parts_after q (commands_from b cs) ≡ views.Both q
unfolding e.parts_after commands_from
many_after b q [] many = refl
many_after b q (c ∷ []) many = absurd (many refl)
many_after b q (c ∷ d ∷ cs) many =
    subst (λ m. e.parts_after q (p.more_commands m (p.more_commands (trees.command_of b d) (commands_from b cs))) ≡ views.Both q) (sym (rules.command_of-out b c)) refl

long_true : (b : Text) (cs : List Command) → 1 < length cs → e.is_long (commands_from b cs) ≡ true
unfolding e.is_long commands_from
long_true b [] many = absurd (omega (arith, many))
long_true b (c ∷ []) many = absurd (omega (arith, many))
long_true b (c ∷ d ∷ cs) many = refl

module _ (s : Tally) (y : Around) where
  pub pipe_many_left : (l : Pipe) (after : After) (q : Seen) → (length (out-Pipe l).parts ≡ 1 → ⊥) → SightAfter s (views.swapped (out-Pipe l).negated (views.Both q)) after
      → SightAfter s (e.pipeline_after q (trees.pipeline_of s.script.now l)) after
  unfolding e.pipeline_after
  pipe_many_left l after q many sight =
      let b : Text = s.script.now in
      subst (λ z. SightAfter s (e.pipeline_after q z) after) (sym (rules.pipeline_of-out b l))
      (subst (λ o. SightAfter s (views.swapped (out-Pipe l).negated o) after) (sym (many_after b q (out-Pipe l).parts many)) sight)

  pub pipe_many_added : (l : Pipe) (z : Around) (known : Views) (old new : Equations) → 1 < length (out-Pipe l).parts → z ≡ e.part_around true y
      → ((by : FlowRule) → AddsFrom s (λ q. e.commands_entered by z q (commands_from s.script.now (out-Pipe l).parts)) known old new)
      → (by : FlowRule) → AddsFrom s (λ q. e.pipeline_entered by y q (trees.pipeline_of s.script.now l)) known old new
  unfolding e.items_entered e.part_rule e.item_seen
  pipe_many_added l z known old new many inner adds by t u q k sight part =
      let b : Text = s.script.now in
      let cs : p.Commands = commands_from b (out-Pipe l).parts in
      let whole : IsPart t (e.commands_entered (e.part_rule (e.is_long cs) by) (e.part_around (e.is_long cs) y) (e.item_seen (e.is_long cs) q) cs) =
      subst (λ m. IsPart t (e.pipeline_entered by y q m)) (rules.pipeline_of-out b l) part in
      let long : IsPart t (e.commands_entered F12 (e.part_around true y) (views.without_job q) cs) =
      subst (λ m. IsPart t (e.commands_entered (e.part_rule m by) (e.part_around m y) (e.item_seen m q) cs)) (long_true b (out-Pipe l).parts many) whole in
      adds F12 t u (views.without_job q) k (see_started (names s) q known sight) (subst (λ a. IsPart t (e.commands_entered F12 a (views.without_job q) cs)) (sym inner) long)

-- What a command leaves

pub leaves_tallied : (s : Tally) (n : ℕ) (known : After) (zero nonzero : Count) (old mid new : Equations) → zero.index ≡ command_index part.Zero n → nonzero.index ≡ command_index part.Nonzero n
    → ((u : ℕ → ℕ) → AreBounds s.places u zero (Raise 0) known.zero → Tallies s.places u old mid) → ((u : ℕ → ℕ) → AreBounds s.places u nonzero (Raise 0) known.nonzero → Tallies s.places u mid new)
    → AddsLeaves s n known old new
unfolding index_of
leaves_tallied s n known zero nonzero old mid new at_zero at_nonzero first second t u k rule o sight kept =
    let both = each_parts (Unbroken k.known k.claims) (bound (views.AfterZero n) n rule (views.if_zero o)) (bound (views.AfterNonzero n) n rule (views.if_nonzero o)) kept in
    λ tallied.
    second u (place_bounds s t u k (views.AfterNonzero n) nonzero n rule (views.if_nonzero o) known.nonzero (ap Some (sym at_nonzero)) both.1 sight.nonzero)
    (first u (place_bounds s t u k (views.AfterZero n) zero n rule (views.if_zero o) known.zero (ap Some (sym at_zero)) both.0 sight.zero) tallied)

-- The kinds of commands

module _ (s : Tally) (y : Around) (n : ℕ) (known : Views) (list : p.Items) (old mid new : Equations) where
  pub group_kind : (after : After) → ((by : FlowRule) → AddsFrom s (λ q. e.items_entered by y (views.Both q) list) known old mid)
      → ((q : Seen) → Sight s q known → SightAfter s (e.items_after (views.Both q) list) after) → AddsLeaves s n after mid new → AddsKind s y n (p.Group list) known old new
  unfolding e.items_entered r.kind_bounds
  group_kind after adds leaves more t u q k sight part kept tallied = more t u k F10 _ (leaves q sight) kept (adds F10 t u q k sight part tallied)

  pub subshell_kind : (z : Around) (before : Views) (after : After) → z ≡ e.alone → ((by : FlowRule) → AddsFrom s (λ q. e.items_entered by z (views.Both q) list) before old mid)
      → Sight s (views.at (Before n)) before → SightAfter s (views.Both (views.at (Before n))) after → AddsLeaves s n after mid new → AddsKind s y n (p.Subshell list) known old new
  unfolding e.items_entered r.kind_bounds
  subshell_kind z before after outside adds own both more t u q k sight part kept tallied =
      more t u k F11 _ both kept
      (adds F11 t u (views.without_job (views.at (Before n))) k (see_started (names s) (views.at (Before n)) before own)
      (subst (λ a. IsPart t (e.items_entered F11 a (views.Both (views.without_job (views.at (Before n)))) list)) (sym outside) part) tallied)

-- A loop

module _ (s : Tally) (y z : Around) (n : ℕ) (known : Views) (kind : LoopKind) (condition body : p.Items) where
  pub loop_kind : (head again : Views) (tested left after end : After) (turn : Count) (old one two three four new : Equations) → z ≡ e.in_loop n y → turn.index ≡ command_index part.Head n → Sight s (views.at (views.Head n)) head
      → ((by : FlowRule) → AddsFrom s (λ q. e.items_entered by z (views.Both q) condition) head old one) → ((q : Seen) → Sight s q head → SightAfter s (e.items_after (views.Both q) condition) tested)
      → ((o : views.After) → SightAfter s o tested → Sight s (e.turns kind o) left.zero) → ((o : views.After) → SightAfter s o tested → Sight s (e.ends kind o) left.nonzero)
      → ((by : FlowRule) → AddsFrom s (λ q. e.items_entered by z (views.Both q) body) left.zero one two) → ((q : Seen) → Sight s q left.zero → SightAfter s (e.items_after (views.Both q) body) after)
      → ((u : ℕ → ℕ) → AreBounds s.places u turn (Raise 0) known → Tallies s.places u two three)
      → ((o : views.After) → SightAfter s o after → Sight s (views.in_any_case o) again)
      → ((u : ℕ → ℕ) → AreBounds s.places u turn (Raise 0) again → Tallies s.places u three four)
      → ((q : Seen) → Sight s q left.nonzero → SightAfter s (views.Both q) end) → AddsLeaves s n end four new → AddsKind s y n (p.Loop kind condition body) known old new
  unfolding e.items_entered r.kind_bounds index_of
  loop_kind head again tested left after end turn old one two three four new inner at own adds_condition tests turns ends adds_body leaves enters any turned both last t u q k sight part kept tallied =
      let o : views.After = e.items_after (views.Both (views.at (views.Head n))) condition in
      let r : views.After = e.items_after (views.Both (e.turns kind o)) body in
      let tested_sight : SightAfter s o tested = tests (views.at (views.Head n)) own in
      let turn_sight : Sight s (e.turns kind o) left.zero = turns o tested_sight in
      let whole : IsPart t (e.items_entered F7 z (views.Both (views.at (views.Head n))) condition ++ e.items_entered F7 z (views.Both (e.turns kind o)) body) =
      subst (λ a. IsPart t (e.items_entered F7 a (views.Both (views.at (views.Head n))) condition ++ e.items_entered F7 a (views.Both (e.turns kind o)) body)) (sym inner) part in
      let outer = each_parts (Unbroken k.known k.claims) (bound (views.Head n) n F7 q ++ bound (views.Head n) n F7 (views.in_any_case r)) _ kept in
      let heads = each_parts (Unbroken k.known k.claims) (bound (views.Head n) n F7 q) (bound (views.Head n) n F7 (views.in_any_case r)) outer.0 in
      last t u k F7 (views.Both (e.ends kind o)) (both (e.ends kind o) (ends o tested_sight)) outer.1
      (turned u (place_bounds s t u k (views.Head n) turn n F7 (views.in_any_case r) again (ap Some (sym at)) heads.1 (any r (leaves (e.turns kind o) turn_sight)))
      (enters u (place_bounds s t u k (views.Head n) turn n F7 q known (ap Some (sym at)) heads.0 sight)
      (adds_body F7 t u (e.turns kind o) k turn_sight (last_part t (e.items_entered F7 z (views.Both (views.at (views.Head n))) condition) (e.items_entered F7 z (views.Both (e.turns kind o)) body) whole)
      (adds_condition F7 t u (views.at (views.Head n)) k own (first_part t (e.items_entered F7 z (views.Both (views.at (views.Head n))) condition) (e.items_entered F7 z (views.Both (e.turns kind o)) body) whole) tallied))))
