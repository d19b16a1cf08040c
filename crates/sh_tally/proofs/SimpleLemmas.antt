-- What a simple command requires of counts after it, and at the entry of the function that it
-- calls.
use Rattle.std.proofs.Common.{◌≡◌, ℕ, zero, suc, ◌+◌, ◌-◌, ◌*◌, ◌<◌, ◌≤◌, min, max, drop, fold, map, take, get_or, length, Bool, true, false, not, ◌&&◌, if◌then◌else◌, List, [], ◌∷◌, ◌++◌, append_assoc, Option, Some, None, is_some, unwrap_or, option_map, IfSome, ◌⊎◌, ⊎_elim, refl, sym, ap, ap₂, ◌∙◌, subst, arith, true≢false}
use Rattle.std.proofs.Math.Nat.{mul-le-mul_left}
use Rattle.std.proofs.lemmas.Bool.{cases_lt}
use Rattle.std.proofs.lemmas.List.{take_all}
use Rattle.sh_tree.specs.declared.known.KnownName.{KnownName}
use Rattle.sh_tree.specs.declared.known.KnownName.TheVariants as known
use Rattle.sh_tree.specs.standard.program.Syntax as p
use Rattle.sh_tree.specs.standard.program.Syntax.{Text, Word}
use Rattle.sh_tree.specs.standard.program.Words.{operands_in, redirects_in, static_of}
use Rattle.sh_runs.specs.Counts as counts'
use Rattle.sh_runs.specs.Counts.{Parameters, One, Nothing, count_of}
use Rattle.sh_runs.specs.Profile.{Static}
use Rattle.sh_runs.specs.declared.kind.Kind.{Kind}
use Rattle.sh_runs.specs.declared.kind.Kind.TheVariants as kind
use Rattle.sh_runs.specs.standard.Kinds.{kind_of}
use Rattle.sh_runs.specs.standard.runs.Environment.{is_one_of}
use Rattle.sh_runs.specs.standard.runs.Operands.{has_command}
use Rattle.sh_operands.specs.declared.counts.Total as code
use Rattle.sh_operands.specs.Fields.{counted, counted_word, no_fields}
use Rattle.sh_table.specs.Numerals.{most, capped}
use Rattle.sh_operands.specs.Texts.{positional_at}
use Rattle.sh_domain.specs.declared.rule.FlowRule.{FlowRule}
use Rattle.sh_domain.specs.declared.rule.FlowRule.TheVariants.{F4, F5, F14}
use Rattle.sh_domain.specs.Entries.{Around, script_entered}
use Rattle.sh_domain.specs.Facts.{Facts, NotReached, Known, facts}
use Rattle.sh_domain.specs.Faults.{broken}
use Rattle.sh_domain.specs.Gains.{Gains, and_gains, named, words_gains}
use Rattle.sh_domain.specs.Inclusions.{Each}
use Rattle.sh_domain.specs.Names.{number_of}
use Rattle.sh_domain.specs.Operands.{Total, declared_names, first_number, runs_command, total, unset_names}
use Rattle.sh_domain.specs.Order.{IsWithin, seen_facts}
use Rattle.sh_domain.specs.Rules as r
use Rattle.sh_domain.specs.Rules.{Constraint, bound, functions_of, leaves, simple_bounds}
use Rattle.sh_domain.specs.Table as table
use Rattle.sh_domain.specs.Table.{Nameless, Utility, assignments_gains, behind_words, is_redirected, manner, manner_of_name, manner_of_words, operands, prefixes, redirections_gains}
use Rattle.sh_domain.specs.Views as views
use Rattle.sh_domain.specs.Views.{At, Before, Count, Gain, Seen, Slot, Step, View, counted_by, extended, stepped, gaining, most_fields}
use Rattle.sh_domain.proofs.EachLemmas.{each_parts}
use Rattle.sh_counts.specs.declared.equations.Change.{Change}
use Rattle.sh_counts.specs.declared.equations.Change.TheVariants as change
use Rattle.sh_counts.specs.declared.equations.Change.TheVariants.{Raise}
use Rattle.sh_counts.specs.declared.equations.Count as count
use Rattle.sh_counts.specs.declared.equations.Equations.{Equations}
use Rattle.sh_counts.specs.Equations.{made}
use Rattle.sh_rules.specs.TextBounds.{behind_name}
use Rattle.sh_rules.specs.Texts.{first_by, positional_by}
use Rattle.sh_rules.proofs.OperandLemmas.{first_words, positional_of_words}
use Rattle.sh_tally.specs.declared.bounds.Tally.{Tally}
use Rattle.sh_tally.specs.declared.places.End.{End}
use Rattle.sh_tally.specs.declared.places.End.TheVariants as end
use Rattle.sh_tally.specs.declared.places.Part.TheVariants as part
use Rattle.sh_tally.specs.declared.views.After.{After}
use Rattle.sh_tally.specs.declared.views.View as handle
use Rattle.sh_tally.specs.declared.views.Views.{Views}
use Rattle.sh_tally.specs.Counts.{AllPass, HasAtMost, Passes, all_made, made_by, shift_step}
use Rattle.sh_tally.specs.Tallies.{AreBounds, Bounds, Tallies, claimed}
use Rattle.sh_tally.specs.Views.{Sees, command_index, function_index, index_of}
use Rattle.sh_tally.specs.Walks.{AddsFailed, AddsFunction, AddsLeaves, AddsManner, AddsReturn, AddsSimple, AreKept, AreTexts, IsBehind, IsReached, IsUnsure, Keeps, Sight, SightAfter, names}
use Rattle.sh_tally.proofs.CountLemmas.{unsure_bounds_counts, views_bound_counts, within_at_most}
use Rattle.sh_tally.proofs.ViewLemmas.{made_then, map_middle, pass_then, see_lost, see_named, see_right}
use Rattle.sh_tally.proofs.WalkLemmas.{count_at_most, count_below, entered_within, place_bounds}

-- Words that are counted

abbrev up_to : ℕ → ℕ → code.Total
up_to n m = record { ones = capped n; parameters = capped m }

abbrev counts : ℕ → ℕ → code.Total
counts n m = record { ones = n; parameters = m }

abbrev and_more : ℕ → ℕ → Total → code.Total
and_more n m t = up_to (n + t.ones) (m + t.parameters)

none_more : (n m : ℕ) → up_to n m ≡ and_more n m (record { ones = 0; parameters = 0 })
none_more n m = let e : n ≡ n + 0 = omega arith in let f : m ≡ m + 0 = omega arith in ap₂ up_to e f

capped_next : (n : ℕ) → capped (capped n + 1) ≡ capped (n + 1)
capped_next n = omega arith

one_parameter : (n m : ℕ) (ws : List Word) → fold counted_word (up_to n (m + 1)) ws ≡ and_more n (m + 1) (total ws)
    → fold counted_word (counts (capped n) (capped (capped m + 1))) ws ≡ up_to (n + (total ws).ones) (m + ((total ws).parameters + 1))
one_parameter n m ws h =
    let e : (m + 1) + (total ws).parameters ≡ m + ((total ws).parameters + 1) = omega arith in
    ap (λ k. fold counted_word (counts (capped n) k) ws) (capped_next m) ∙ h ∙ ap (up_to (n + (total ws).ones)) e

one_field : (n m : ℕ) (ws : List Word) → fold counted_word (up_to (n + 1) m) ws ≡ and_more (n + 1) m (total ws)
    → fold counted_word (counts (capped (capped n + 1)) (capped m)) ws ≡ up_to (n + ((total ws).ones + 1)) (m + (total ws).parameters)
one_field n m ws h =
    let e : (n + 1) + (total ws).ones ≡ n + ((total ws).ones + 1) = omega arith in
    ap (λ k. fold counted_word (counts k (capped m)) ws) (capped_next n) ∙ h ∙ ap (λ k. up_to k (m + (total ws).parameters)) e

told : (n m : ℕ) (ws : List Word) → fold counted_word (up_to n m) ws ≡ and_more n m (total ws)
unfolding total counted
told n m [] = none_more n m
told n m (w ∷ ws) = go (count_of w) refl (one_parameter n m ws (told n (m + 1) ws)) (one_field n m ws (told (n + 1) m ws)) (told n m ws)
  where
    go : (c : counts'.Count) → count_of w ≡ c
        → fold counted_word (counts (capped n) (capped (capped m + 1))) ws ≡ up_to (n + (total ws).ones) (m + ((total ws).parameters + 1))
        → fold counted_word (counts (capped (capped n + 1)) (capped m)) ws ≡ up_to (n + ((total ws).ones + 1)) (m + (total ws).parameters)
        → fold counted_word (up_to n m) ws ≡ and_more n m (total ws)
        → fold counted_word (up_to n m) (w ∷ ws) ≡ and_more n m (total (w ∷ ws))
    go Parameters e q o z = rw e q
    go One e q o z = rw e o
    go Nothing e q o z = rw e z

told_all : (ws : List Word) → fold counted_word no_fields ws ≡ up_to (total ws).ones (total ws).parameters
told_all ws =
    let e : 0 + (total ws).ones ≡ (total ws).ones = omega arith in
    let g : 0 + (total ws).parameters ≡ (total ws).parameters = omega arith in
    told 0 0 ws ∙ ap₂ up_to e g

-- a number too great to count is counted as the greatest one
more_counted : (o q m n : ℕ) → m ≤ n → min most_fields (o + q * m) ≤ min most_fields (capped o + capped q * n)
more_counted o q zero n le = let none : q * 0 ≡ 0 = omega arith in omega (arith, none)
more_counted o q (suc m) n le =
    ⊎_elim
    (λ (l : q < most).
    let same : capped q ≡ q = omega (arith, l) in
    let times : q * suc m ≤ q * n = mul-le-mul_left q le in
    subst (λ k. min most_fields (o + q * suc m) ≤ min most_fields (capped o + k * n)) (sym same) (omega (arith, times)))
    (λ (g : most ≤ q).
    let same : capped q ≡ most = omega (arith, g) in
    let some : 1 ≤ n = omega (arith, le) in
    let times : most * 1 ≤ most * n = mul-le-mul_left most some in
    subst (λ k. min most_fields (o + q * suc m) ≤ min most_fields (capped o + k * n)) (sym same) (omega (arith, times)))
    (cases_lt q most)

total_counted : (t : code.Total) (ws : List Word) → t ≡ fold counted_word no_fields ws → (m n : ℕ) → m ≤ n → counted_by (total ws) m ≤ made (change.Words t.ones t.parameters) n
unfolding made
total_counted t ws is m n le =
    subst (λ (k : code.Total). counted_by (total ws) m ≤ min 65535 (k.ones + k.parameters * n)) (sym (is ∙ told_all ws)) (more_counted (total ws).ones (total ws).parameters m n le)

pub words_counted : (b : List ℕ) (es behind : p.Elements) (k : ℕ) (t : code.Total) → operands behind ≡ behind_name es → t ≡ fold counted_word no_fields (drop k (operands behind))
    → (m n : ℕ) → m ≤ n → counted_by (total (drop k (behind_name es))) m ≤ made (change.Words t.ones t.parameters) n
words_counted b es behind k t same is = total_counted t (drop k (behind_name es)) (is ∙ ap (λ ws. fold counted_word no_fields (drop k ws)) same)

-- `shift`

capped_shift : (x g m n : ℕ) → g ≡ capped x → m ≤ n → m - x ≤ n - g
capped_shift x g m n is le = omega (arith, is, le)

shift_some : (g : ℕ) (o : Option ℕ) → Some g ≡ option_map capped o → (m n : ℕ) → m ≤ n → made_by (shift_step o) m ≤ made (change.Shift g) n
unfolding made_by shift_step made
shift_some g None is m n le = absurd (true≢false (ap is_some is))
shift_some g (Some x) is m n le = capped_shift x g m n (ap (λ z. unwrap_or z 0) is) le

shift_none : (o : Option ℕ) → None ≡ option_map capped o → (m n : ℕ) → m ≤ n → made_by (shift_step o) m ≤ made (change.Words 0 0) n
unfolding made_by shift_step made total
shift_none None is m n le = omega arith
shift_none (Some x) is m n le = absurd (true≢false (sym (ap is_some is)))

pub shift_counted_some : (ts : List Static) (ws : List Word) (g : ℕ) → Some g ≡ option_map capped (first_by ts) → map static_of ws ≡ ts → (m n : ℕ) → m ≤ n → made_by (shift_step (first_number ws)) m ≤ made (change.Shift g) n
shift_counted_some ts ws g is same = shift_some g (first_number ws) (is ∙ ap (option_map capped) (ap first_by (sym same) ∙ first_words ws))

pub shift_counted_none : (ts : List Static) (ws : List Word) → None ≡ option_map capped (first_by ts) → map static_of ws ≡ ts → (m n : ℕ) → m ≤ n → made_by (shift_step (first_number ws)) m ≤ made (change.Words 0 0) n
shift_counted_none ts ws is same = shift_none (first_number ws) (is ∙ ap (option_map capped) (ap first_by (sym same) ∙ first_words ws))

pub ruleset shift_counted = (shift_counted_some, shift_counted_none)

-- Bounds over a change

module _ (s : Tally) (t : p.Items) (u : ℕ → ℕ) (k : Keeps s t u) where
  abbrev pub Unbroken : Constraint → Type 0
  Unbroken c = broken k.known k.claims c ≡ []

  -- the view is one of a place, over steps that leave at most what the change makes of its count
  pub record Makes (q : Seen) (h : handle.View) (c : Change) : Type 0 where
    pub view : View
    pub front : Seen
    pub back : Seen
    pub one : q ≡ front ++ (view ∷ back)
    pub slot : Slot
    pub source : view.source ≡ At slot
    pub place : index_of (names s) slot ≡ Some h.source.index
    pub passes : AllPass k.claims view.steps
    pub makes : (n : ℕ) → all_made view.steps n ≤ made c (max n h.least)

  stepped_makes : (q : Seen) (x : Step) (h : handle.View) (c : Change) → Passes k.claims x → ((m n : ℕ) → m ≤ n → made_by x m ≤ made c n) → Sees (names s) q h → Makes (stepped x q) h c
  stepped_makes q x h c passes more sees = record {
    view = extended x sees.view;
    front = stepped x sees.front;
    back = stepped x sees.back;
    one = ap (stepped x) sees.one ∙ map_middle (extended x) sees.front sees.back sees.view;
    slot = sees.shows.slot;
    source = sees.shows.source;
    place = sees.shows.place;
    passes = pass_then k.claims sees.view.steps x (sees.shows.passes k.claims) passes;
    makes = λ n. subst (λ m. m ≤ made c (max n h.least)) (sym (made_then sees.view.steps x n)) (more (all_made sees.view.steps n) (max n h.least) (sees.shows.made n));
  }

  gain_makes : (g : Gains) (m : ℕ) → g.args ≡ 0 → made_by (Gain g) m ≡ m
  unfolding made_by
  gain_makes g m none = omega (arith, none)

  gain_passes : (g : Gains) → Passes k.claims (Gain g)
  unfolding Passes
  gain_passes g = tt

  -- names that are gained add no parameters
  named_makes : (q : Seen) (g : Gains) (h : handle.View) (c : Change) → g.args ≡ 0 → Makes q h c → Makes (gaining g q) h c
  named_makes q g h c none makes = record {
    view = extended (Gain g) makes.view;
    front = gaining g makes.front;
    back = gaining g makes.back;
    one = ap (gaining g) makes.one ∙ map_middle (extended (Gain g)) makes.front makes.back makes.view;
    slot = makes.slot;
    source = makes.source;
    place = makes.place;
    passes = pass_then k.claims makes.view.steps (Gain g) makes.passes (gain_passes g);
    makes = λ n. subst (λ m. m ≤ made c (max n h.least)) (sym (made_then makes.view.steps (Gain g) n ∙ gain_makes g (all_made makes.view.steps n) none)) (makes.makes n);
  }

  left_makes : (q z : Seen) (h : handle.View) (c : Change) → Makes q h c → Makes (q ++ z) h c
  left_makes q z h c makes = record {
    view = makes.view;
    front = makes.front;
    back = makes.back ++ z;
    one = ap (λ y. y ++ z) makes.one ∙ append_assoc makes.front (makes.view ∷ makes.back) z;
    slot = makes.slot;
    source = makes.source;
    place = makes.place;
    passes = makes.passes;
    makes = makes.makes;
  }

  at_most_more : (m n : ℕ) (f : Facts) → m ≤ n → HasAtMost m f → HasAtMost n f
  unfolding HasAtMost
  at_most_more m n NotReached le h = absurd h
  at_most_more m n (Known v g a) le h = omega (arith, le, h)

  -- what is seen has no more than the view
  seen_most : (q : Seen) (h : handle.View) (b : ℕ) → claimed s.places h.source.index ≡ Some b → Sees (names s) q h → HasAtMost (max (u h.source.index) h.least) (seen_facts k.known k.claims q)
  seen_most q h b there sees =
      let v : View = sees.view in
      let from : Slot = sees.shows.slot in
      let known = count_at_most (u h.source.index) (facts (k.claims.claim from)) (k.counts from h.source.index b sees.shows.place there) in
      let seen : HasAtMost (all_made v.steps (u h.source.index)) (seen_facts k.known k.claims (sees.front ++ (record { source = At from; steps = v.steps } ∷ sees.back))) =
      views_bound_counts k.known k.claims from v.steps sees.front sees.back (u h.source.index) known (sees.shows.passes k.claims) in
      let same : sees.front ++ (record { source = At from; steps = v.steps } ∷ sees.back) ≡ q =
      ap (λ z. sees.front ++ (record { source = z; steps = v.steps } ∷ sees.back)) (sym sees.shows.source) ∙ sym sees.one in
      at_most_more _ _ (seen_facts k.known k.claims q) (sees.shows.made (u h.source.index)) (subst (λ z. HasAtMost (all_made v.steps (u h.source.index)) (seen_facts k.known k.claims z)) same seen)

  makes_bound : (slot : Slot) (place : count.Count) (q : Seen) (h : handle.View) (c : Change) → index_of (names s) slot ≡ Some place.index
      → IsWithin (facts (k.claims.claim slot)) (seen_facts k.known k.claims q) → Makes q h c → Bounds s.places u place c h
  makes_bound slot place q h c at within makes a b low there =
      let v : View = makes.view in
      let from : Slot = makes.slot in
      let known = count_at_most (u h.source.index) (facts (k.claims.claim from)) (k.counts from h.source.index b makes.place there) in
      let seen : HasAtMost (all_made v.steps (u h.source.index)) (seen_facts k.known k.claims (makes.front ++ (record { source = At from; steps = v.steps } ∷ makes.back))) =
      views_bound_counts k.known k.claims from v.steps makes.front makes.back (u h.source.index) known makes.passes in
      let same : makes.front ++ (record { source = At from; steps = v.steps } ∷ makes.back) ≡ q =
      ap (λ z. makes.front ++ (record { source = z; steps = v.steps } ∷ makes.back)) (sym makes.source) ∙ sym makes.one in
      let here = within_at_most _ _ _ within (subst (λ z. HasAtMost (all_made v.steps (u h.source.index)) (seen_facts k.known k.claims z)) same seen) in
      let below = count_below (u place.index) _ _ (k.counts slot place.index a at low) here in
      let few = makes.makes (u h.source.index) in
      omega (arith, below, few)

  each_makes : (slot : Slot) (place : count.Count) (q z : Seen) (c : Change) (o : Option handle.View) → index_of (names s) slot ≡ Some place.index
      → IsWithin (facts (k.claims.claim slot)) (seen_facts k.known k.claims z) → ((h : handle.View) → Sees (names s) q h → Makes z h c)
      → IfSome o (Sees (names s) q) → IfSome o (Bounds s.places u place c)
  each_makes slot place q z c None at within more sees = tt
  each_makes slot place q z c (Some h) at within more sees = makes_bound slot place z h c at within (more h sees)

  pub change_bounds : (slot : Slot) (place : count.Count) (n : ℕ) (rule : FlowRule) (q z : Seen) (c : Change) (known : Views) → index_of (names s) slot ≡ Some place.index
      → Each Unbroken (bound slot n rule z) → ((h : handle.View) → Sees (names s) q h → Makes z h c) → Sight s q known → AreBounds s.places u place c known
  change_bounds slot place n rule q z c known at all more sees =
      let within = entered_within k.known k.claims slot n rule z all in
      record { first = each_makes slot place q z c known.first at within more sees.first; second = each_makes slot place q z c known.second at within more sees.second }

  -- Bounds over a call of a function that may be undefined

  unsure_bound : (slot return : Slot) (place : count.Count) (n : ℕ) (g : Gains) (f : Text) (ns : List Text) (h : handle.View) → index_of (names s) slot ≡ Some place.index
      → IsWithin (facts (k.claims.claim slot)) (seen_facts k.known k.claims (stepped (views.Call f return ns) (gaining g (views.at (Before n))))) → IsUnsure s n f
      → Sees (names s) (gaining g (views.at (Before n))) h → Bounds s.places u place (Raise 0) h
  unfolding made
  unsure_bound slot return place n g f ns h at within unsure sees a b low there =
      let from = seen_most (gaining g (views.at (Before n))) h b there sees in
      let behind = unsure_bounds_counts k.known k.claims (Before n) return g f ns (max (u h.source.index) h.least) (k.unsure n f unsure) from in
      let below = count_below (u place.index) _ _ (k.counts slot place.index a at low) (within_at_most _ _ _ within behind) in
      omega (arith, below)

  each_unsure : (slot return : Slot) (place : count.Count) (n : ℕ) (g : Gains) (f : Text) (ns : List Text) (o : Option handle.View) → index_of (names s) slot ≡ Some place.index
      → IsWithin (facts (k.claims.claim slot)) (seen_facts k.known k.claims (stepped (views.Call f return ns) (gaining g (views.at (Before n))))) → IsUnsure s n f
      → IfSome o (Sees (names s) (gaining g (views.at (Before n)))) → IfSome o (Bounds s.places u place (Raise 0))
  each_unsure slot return place n g f ns None at within unsure sees = tt
  each_unsure slot return place n g f ns (Some h) at within unsure sees = unsure_bound slot return place n g f ns h at within unsure sees

  pub unsure_bounds : (slot return : Slot) (place : count.Count) (n : ℕ) (rule : FlowRule) (g : Gains) (f : Text) (ns : List Text) (known : Views) → index_of (names s) slot ≡ Some place.index
      → Each Unbroken (bound slot n rule (stepped (views.Call f return ns) (gaining g (views.at (Before n))))) → IsUnsure s n f → Sight s (gaining g (views.at (Before n))) known → AreBounds s.places u place (Raise 0) known
  unsure_bounds slot return place n rule g f ns known at all unsure sees =
      let within = entered_within k.known k.claims slot n rule (stepped (views.Call f return ns) (gaining g (views.at (Before n)))) all in
      record { first = each_unsure slot return place n g f ns known.first at within unsure sees.first; second = each_unsure slot return place n g f ns known.second at within unsure sees.second }

-- What is known after a simple command

module _ (s : Tally) (y : Around) (n : ℕ) (es : p.Elements) (left : Views) where
  abbrev behind : Seen
  behind = behind_words es (views.at (Before n))

  abbrev kept_gains : Gains
  kept_gains = and_gains (assignments_gains es) (redirections_gains es)

  abbrev pub settled : Seen
  settled = gaining kept_gains behind

  -- what a utility leaves
  abbrev pub left_by : Kind → List Word → views.After
  left_by k ws = table.after_utility behind ws kept_gains (prefixes es) (is_redirected (redirects_in es)) k

  pub settled_sight : IsBehind s n es left → Sight s settled left
  settled_sight b = b.settled kept_gains (omega arith)

  -- after both statuses
  both_sights : (after : After) → ((q : Seen) → Sight s q left → SightAfter s (views.Both q) after) → (o : views.After) → Sight s (views.if_zero o) left → Sight s (views.if_nonzero o) left → SightAfter s o after
  unfolding views.if_zero views.if_nonzero
  both_sights after both o z m = record { zero = (both (views.if_zero o) z).zero; nonzero = (both (views.if_nonzero o) m).nonzero }

  nameless_zero : (b : Bool) → IsBehind s n es left → Sight s (views.if_zero (table.after_nameless behind [] (assignments_gains es) (prefixes es) b)) left
  unfolding table.after_nameless views.if_zero
  nameless_zero b is = is.settled (assignments_gains es) (omega arith)

  nameless_nonzero : (b : Bool) → IsBehind s n es left → Sight s (views.if_nonzero (table.after_nameless behind [] (assignments_gains es) (prefixes es) b)) left
  unfolding table.after_nameless views.if_nonzero
  nameless_nonzero true is = is.words
  nameless_nonzero false is = is.settled (assignments_gains es) (omega arith)

  pub nameless_added : (after : After) (old new : Equations) → ((q : Seen) → Sight s q left → SightAfter s (views.Both q) after) → AddsLeaves s n after old new → AddsManner s y n es left Nameless old new
  unfolding simple_bounds
  nameless_added after old new both adds t u k is kept =
      let b = is_redirected (redirects_in es) in
      adds t u k F5 (table.after_nameless behind [] (assignments_gains es) (prefixes es) b) (both_sights after both _ (nameless_zero b is) (nameless_nonzero b is)) kept

  utility_kept : (t : p.Items) (u : ℕ → ℕ) (k : Keeps s t u) (of : Kind) (ws : List Word) → AreKept s t u k (simple_bounds y n es (Utility of ws)) → AreKept s t u k (leaves n F4 (left_by of ws))
  unfolding simple_bounds
  utility_kept t u k of ws kept = (each_parts (Unbroken s t u k) (leaves n F4 (left_by of ws)) (r.jumps y n of ws settled) kept).0

  zero_kept : (t : p.Items) (u : ℕ → ℕ) (k : Keeps s t u) (rule : FlowRule) (o : views.After) → AreKept s t u k (leaves n rule o) → AreKept s t u k (bound (views.AfterZero n) n rule (views.if_zero o))
  zero_kept t u k rule o kept = (each_parts (Unbroken s t u k) (bound (views.AfterZero n) n rule (views.if_zero o)) (bound (views.AfterNonzero n) n rule (views.if_nonzero o)) kept).0

  nonzero_kept : (t : p.Items) (u : ℕ → ℕ) (k : Keeps s t u) (rule : FlowRule) (o : views.After) → AreKept s t u k (leaves n rule o) → AreKept s t u k (bound (views.AfterNonzero n) n rule (views.if_nonzero o))
  nonzero_kept t u k rule o kept = (each_parts (Unbroken s t u k) (bound (views.AfterZero n) n rule (views.if_zero o)) (bound (views.AfterNonzero n) n rule (views.if_nonzero o)) kept).1

  zero_index : (place : count.Count) → place.index ≡ command_index part.Zero n → index_of (names s) (views.AfterZero n) ≡ Some place.index
  unfolding index_of
  zero_index place is = ap Some (sym is)

  nonzero_index : (place : count.Count) → place.index ≡ command_index part.Nonzero n → index_of (names s) (views.AfterNonzero n) ≡ Some place.index
  unfolding index_of
  nonzero_index place is = ap Some (sym is)

  -- a utility that leaves the same whatever its status is
  utility_added : (of : Kind) (ws : List Word) (after : After) (old new : Equations) → left_by of ws ≡ views.Both behind → ((q : Seen) → Sight s q left → SightAfter s (views.Both q) after) → AddsLeaves s n after old new
      → AddsManner s y n es left (Utility of ws) old new
  utility_added of ws after old new is both adds t u k here kept =
      adds t u k F4 (views.Both behind) (both behind here.words) (subst (λ o. AreKept s t u k (leaves n F4 o)) is (utility_kept t u k of ws kept))

  -- one after which the same parameters are left
  leaves_added : (of : Kind) (ws : List Word) (after : After) (old new : Equations)
      → (IsBehind s n es left → Sight s (views.if_zero (left_by of ws)) left × Sight s (views.if_nonzero (left_by of ws)) left)
      → ((q : Seen) → Sight s q left → SightAfter s (views.Both q) after) → AddsLeaves s n after old new
      → AddsManner s y n es left (Utility of ws) old new
  leaves_added of ws after old new sights both adds t u k here kept =
      let seen = sights here in
      adds t u k F4 (left_by of ws) (both_sights after both (left_by of ws) seen.0 seen.1) (utility_kept t u k of ws kept)

  -- one that leaves this with a status of zero
  zero_added : (of : Kind) (ws : List Word) (place : count.Count) (old new : Equations) → place.index ≡ command_index part.Zero n
      → (IsBehind s n es left → Sight s (views.if_zero (left_by of ws)) left) → ((u : ℕ → ℕ) → AreBounds s.places u place (Raise 0) left → Tallies s.places u old new)
      → AddsManner s y n es left (Utility of ws) old new
  zero_added of ws place old new is sight adds t u k here kept =
      adds u (place_bounds s t u k (views.AfterZero n) place n F4 _ left (zero_index place is) (zero_kept t u k F4 (left_by of ws) (utility_kept t u k of ws kept)) (sight here))

  nonzero_added : (of : Kind) (ws : List Word) (place : count.Count) (old new : Equations) → place.index ≡ command_index part.Nonzero n
      → (IsBehind s n es left → Sight s (views.if_nonzero (left_by of ws)) left) → ((u : ℕ → ℕ) → AreBounds s.places u place (Raise 0) left → Tallies s.places u old new)
      → AddsManner s y n es left (Utility of ws) old new
  nonzero_added of ws place old new is sight adds t u k here kept =
      adds u (place_bounds s t u k (views.AfterNonzero n) place n F4 _ left (nonzero_index place is) (nonzero_kept t u k F4 (left_by of ws) (utility_kept t u k of ws kept)) (sight here))

  module _ (ws : List Word) (old new : Equations) where
    abbrev Added : Kind → Type 0
    Added of = AddsManner s y n es left (Utility of ws) old new

    pub neutral_added : (after : After) → ((q : Seen) → Sight s q left → SightAfter s (views.Both q) after) → AddsLeaves s n after old new
        → Added kind.Cd × Added kind.Command × ((name : KnownName) → Added (kind.Refused name)) × Added kind.Utility
    unfolding table.after_utility
    neutral_added after both adds = (
      utility_added kind.Cd ws after old new refl both adds,
      utility_added kind.Command ws after old new refl both adds,
      (λ name. utility_added (kind.Refused name) ws after old new refl both adds),
      utility_added kind.Utility ws after old new refl both adds,
    )

    pub colon_added : (place : count.Count) → place.index ≡ command_index part.Zero n → ((u : ℕ → ℕ) → AreBounds s.places u place (Raise 0) left → Tallies s.places u old new) → Added (kind.Special known.Colon)
    unfolding table.after_utility views.if_zero
    colon_added place is = zero_added (kind.Special known.Colon) ws place old new is settled_sight

    pub settled_added : (after : After) → ((q : Seen) → Sight s q left → SightAfter s (views.Both q) after) → AddsLeaves s n after old new
        → Added (kind.Special known.Export) × Added (kind.Special known.Readonly) × Added (kind.Special known.Unset) × Added (kind.Special known.Times) × Added (kind.Special known.Trap)
    unfolding table.after_utility views.if_zero views.if_nonzero
    settled_added after both adds = (
      leaves_added (kind.Special known.Export) ws after old new (λ here. let q = see_named (names s) settled left (declared_names ws) (settled_sight here) in (q, q)) both adds,
      leaves_added (kind.Special known.Readonly) ws after old new (λ here. let q = see_named (names s) settled left (declared_names ws) (settled_sight here) in (q, q)) both adds,
      leaves_added (kind.Special known.Unset) ws after old new (λ here. let q = see_lost (names s) settled (unset_names ws) left (settled_sight here) in (q, q)) both adds,
      leaves_added (kind.Special known.Times) ws after old new (λ here. (settled_sight here, settled_sight here)) both adds,
      leaves_added (kind.Special known.Trap) ws after old new (λ here. (settled_sight here, settled_sight here)) both adds,
    )

    pub read_added : (after : After) → ((q : Seen) → Sight s q left → SightAfter s (views.Both q) after) → AddsLeaves s n after old new
        → Added kind.Read × Added kind.Getopts
    unfolding table.after_utility views.if_zero views.if_nonzero
    read_added after both adds = (
      leaves_added kind.Read ws after old new (λ here. (see_named (names s) behind left _ here.words, here.words)) both adds,
      leaves_added kind.Getopts ws after old new (λ here. (see_lost (names s) _ _ left (see_named (names s) behind left _ here.words), see_lost (names s) behind _ left here.words)) both adds,
    )

    pub exec_added : (after : After) → runs_command ws ≡ false → ((q : Seen) → Sight s q left → SightAfter s (views.Both q) after) → AddsLeaves s n after old new → Added (kind.Special known.Exec)
    unfolding table.after_utility views.if_zero views.if_nonzero
    exec_added after none both adds =
        leaves_added (kind.Special known.Exec) ws after old new
        (λ here. (subst (λ b. Sight s (if b then views.anything else settled) left) (sym none) (settled_sight here), settled_sight here)) both adds

    pub exec_failed : (place : count.Count) → place.index ≡ command_index part.Nonzero n → ((u : ℕ → ℕ) → AreBounds s.places u place (Raise 0) left → Tallies s.places u old new) → Added (kind.Special known.Exec)
    unfolding table.after_utility views.if_nonzero
    exec_failed place is = nonzero_added (kind.Special known.Exec) ws place old new is settled_sight

    true_nonzero : is_redirected (redirects_in es) ≡ true → IsBehind s n es left → Sight s (views.if_nonzero (left_by kind.True ws)) left
    unfolding table.after_utility views.if_nonzero
    true_nonzero one here = subst (λ b. Sight s (if b then behind else views.anything) left) (sym one) here.words

    true_zero : IsBehind s n es left → Sight s (views.if_zero (left_by kind.True ws)) left
    unfolding table.after_utility views.if_zero
    true_zero here = here.words

    -- it fails if a redirection does
    pub true_added : (mid : Equations) (place : count.Count) → place.index ≡ command_index part.Zero n → ((u : ℕ → ℕ) → AreBounds s.places u place (Raise 0) left → Tallies s.places u old mid)
        → AddsFailed s n es left mid new → Added kind.True
    true_added mid place is first second t u k here kept tallied =
        second u
        (λ one other at. place_bounds s t u k (views.AfterNonzero n) other n F4 _ left (nonzero_index other at) (nonzero_kept t u k F4 (left_by kind.True ws) (utility_kept t u k kind.True ws kept)) (true_nonzero one here))
        (zero_added kind.True ws place old mid is true_zero first t u k here kept tallied)

    pub false_added : (place : count.Count) → place.index ≡ command_index part.Nonzero n → ((u : ℕ → ℕ) → AreBounds s.places u place (Raise 0) left → Tallies s.places u old new) → Added kind.False
    unfolding table.after_utility views.if_nonzero
    false_added place is = nonzero_added kind.False ws place old new is (λ here. here.words)

  -- `shift`

  step_passes : (t : p.Items) (u : ℕ → ℕ) (k : Keeps s t u) (o : Option ℕ) → Passes k.claims (shift_step o)
  unfolding Passes shift_step
  step_passes t u k None = tt
  step_passes t u k (Some x) = tt

  shifted_by : (ws : List Word) → left_by (kind.Special known.Shift) ws ≡ views.Both (stepped (shift_step (first_number ws)) settled)
  unfolding table.after_utility table.after_shift shift_step
  shifted_by ws = go (first_number ws)
    where
      go : (o : Option ℕ) → table.after_shift behind ws kept_gains (prefixes es) (is_redirected (redirects_in es)) o ≡ views.Both (stepped (shift_step o) settled)
      go None = refl
      go (Some x) = refl

  pub shift_added : (ws : List Word) (c : Change) (success failure : count.Count) (old one new : Equations) → ((m l : ℕ) → m ≤ l → made_by (shift_step (first_number ws)) m ≤ made c l)
      → success.index ≡ command_index part.Zero n → failure.index ≡ command_index part.Nonzero n
      → ((u : ℕ → ℕ) → AreBounds s.places u success c left → Tallies s.places u old one) → ((u : ℕ → ℕ) → AreBounds s.places u failure c left → Tallies s.places u one new)
      → AddsManner s y n es left (Utility (kind.Special known.Shift) ws) old new
  unfolding views.if_zero views.if_nonzero
  shift_added ws c success failure old one new more at_zero at_nonzero first second t u k here kept =
      let x : Step = shift_step (first_number ws) in
      let all : AreKept s t u k (leaves n F4 (views.Both (stepped x settled))) =
      subst (λ o. AreKept s t u k (leaves n F4 o)) (shifted_by ws) (utility_kept t u k (kind.Special known.Shift) ws kept) in
      let makes = λ (h : handle.View). stepped_makes s t u k settled x h c (step_passes t u k (first_number ws)) more in
      λ tallied.
      second u (change_bounds s t u k (views.AfterNonzero n) failure n F4 settled (stepped x settled) c left (nonzero_index failure at_nonzero) (nonzero_kept t u k F4 (views.Both (stepped x settled)) all) makes (settled_sight here))
      (first u (change_bounds s t u k (views.AfterZero n) success n F4 settled (stepped x settled) c left (zero_index success at_zero) (zero_kept t u k F4 (views.Both (stepped x settled)) all) makes (settled_sight here)) tallied)

  -- `set`

  set_none : (ws : List Word) (ts : List Static) → map static_of ws ≡ ts → None ≡ positional_at false ts → left_by (kind.Special known.Set) ws ≡ views.Both settled
  unfolding table.after_utility table.after_set positional_by
  set_none ws ts texts is =
      ap (λ o. table.after_set behind ws kept_gains (prefixes es) (is_redirected (redirects_in es)) o)
      (sym (positional_of_words ws) ∙ ap (option_map (λ i. drop i ws)) (ap (positional_at false) texts ∙ sym is))

  pub set_none_added : (ws : List Word) (ts : List Static) (after : After) (old new : Equations) → map static_of ws ≡ ts → None ≡ positional_at false ts
      → ((q : Seen) → Sight s q left → SightAfter s (views.Both q) after) → AddsLeaves s n after old new → AddsManner s y n es left (Utility (kind.Special known.Set) ws) old new
  set_none_added ws ts after old new texts is both adds t u k here kept =
      adds t u k F4 (views.Both settled) (both settled (settled_sight here)) (subst (λ o. AreKept s t u k (leaves n F4 o)) (set_none ws ts texts is) (utility_kept t u k (kind.Special known.Set) ws kept))

  abbrev set_seen : List Word → Seen
  set_seen vs = gaining (named kept_gains.names) (stepped (Count (total vs)) behind)

  set_some : (ws : List Word) (ts : List Static) (i : ℕ) → map static_of ws ≡ ts → Some i ≡ positional_at false ts → left_by (kind.Special known.Set) ws ≡ views.Each (set_seen (drop i ws)) (set_seen (drop i ws) ++ settled)
  unfolding table.after_utility table.after_set positional_by
  set_some ws ts i texts is =
      ap (λ o. table.after_set behind ws kept_gains (prefixes es) (is_redirected (redirects_in es)) o)
      (sym (positional_of_words ws) ∙ ap (option_map (λ j. drop j ws)) (ap (positional_at false) texts ∙ sym is))

  count_passes : (t : p.Items) (u : ℕ → ℕ) (k : Keeps s t u) (m : Total) → Passes k.claims (Count m)
  unfolding Passes
  count_passes t u k m = tt

  count_made : (vs : List Word) (c : Change) → ((m l : ℕ) → m ≤ l → counted_by (total vs) m ≤ made c l) → (m l : ℕ) → m ≤ l → made_by (Count (total vs)) m ≤ made c l
  unfolding made_by
  count_made vs c more = more

  pub set_some_added : (ws : List Word) (ts : List Static) (i : ℕ) (c : Change) (success failure again : count.Count) (old one two new : Equations) → map static_of ws ≡ ts → Some i ≡ positional_at false ts
      → ((m l : ℕ) → m ≤ l → counted_by (total (drop i ws)) m ≤ made c l)
      → success.index ≡ command_index part.Zero n → failure.index ≡ command_index part.Nonzero n → again.index ≡ command_index part.Nonzero n
      → ((u : ℕ → ℕ) → AreBounds s.places u success c left → Tallies s.places u old one) → ((u : ℕ → ℕ) → AreBounds s.places u failure c left → Tallies s.places u one two)
      → ((u : ℕ → ℕ) → AreBounds s.places u again (Raise 0) left → Tallies s.places u two new)
      → AddsManner s y n es left (Utility (kind.Special known.Set) ws) old new
  unfolding views.if_zero views.if_nonzero
  set_some_added ws ts i c success failure again old one two new texts is more at_zero at_nonzero at_again first second third t u k here kept =
      let vs : List Word = drop i ws in
      let all : AreKept s t u k (leaves n F4 (views.Each (set_seen vs) (set_seen vs ++ settled))) =
      subst (λ o. AreKept s t u k (leaves n F4 o)) (set_some ws ts i texts is) (utility_kept t u k (kind.Special known.Set) ws kept) in
      let low = zero_kept t u k F4 (views.Each (set_seen vs) (set_seen vs ++ settled)) all in
      let high = nonzero_kept t u k F4 (views.Each (set_seen vs) (set_seen vs ++ settled)) all in
      let makes = λ (h : handle.View) (sees : Sees (names s) behind h).
      named_makes s t u k (stepped (Count (total vs)) behind) (named kept_gains.names) h c refl
      (stepped_makes s t u k behind (Count (total vs)) h c (count_passes t u k (total vs)) (count_made vs c more) sees) in
      λ tallied.
      third u (place_bounds s t u k (views.AfterNonzero n) again n F4 (set_seen vs ++ settled) left (nonzero_index again at_again) high (see_right (names s) (set_seen vs) settled left (settled_sight here)))
      (second u (change_bounds s t u k (views.AfterNonzero n) failure n F4 behind (set_seen vs ++ settled) c left (nonzero_index failure at_nonzero) high
      (λ h sees. left_makes s t u k (set_seen vs) settled h c (makes h sees)) here.words)
      (first u (change_bounds s t u k (views.AfterZero n) success n F4 behind (set_seen vs) c left (zero_index success at_zero) low makes here.words) tallied))

  -- A call

  entry_index : (f : Text) (place : count.Count) → option_map (function_index end.Entered) (number_of (names s) f) ≡ Some place.index → index_of (names s) (views.Entry f) ≡ Some place.index
  unfolding index_of
  entry_index f place is = is

  zero_reached : (t : p.Items) (u : ℕ → ℕ) (k : Keeps s t u) (f : Text) (ns : List Text) → IsReached s end.Zero f → Passes k.claims (views.Call f (views.ReturnsZero f) ns)
  unfolding Passes index_of
  zero_reached t u k f ns is = (u is.index, count_at_most (u is.index) _ (k.counts (views.ReturnsZero f) is.index is.count is.place is.counts))

  nonzero_reached : (t : p.Items) (u : ℕ → ℕ) (k : Keeps s t u) (f : Text) (ns : List Text) → IsReached s end.Nonzero f → Passes k.claims (views.Call f (views.ReturnsNonzero f) ns)
  unfolding Passes index_of
  nonzero_reached t u k f ns is = (u is.index, count_at_most (u is.index) _ (k.counts (views.ReturnsNonzero f) is.index is.count is.place is.counts))

  call_made : (f : Text) (slot : Slot) (ns : List Text) (m l : ℕ) → m ≤ l → made_by (views.Call f slot ns) m ≤ made (Raise 0) l
  unfolding made_by made
  call_made f slot ns m l le = omega (arith, le)

  call_parts : (t : p.Items) (u : ℕ → ℕ) (k : Keeps s t u) (f : Text) (ws : List Word) → AreKept s t u k (simple_bounds y n es (table.Call f ws))
      → AreKept s t u k (bound (views.Entry f) n F14 (views.gaining_names (prefixes es) (stepped (Count (total ws)) behind)))
      × AreKept s t u k (bound (views.AfterZero n) n F14 (stepped (views.Call f (views.ReturnsZero f) (prefixes es)) behind))
      × AreKept s t u k (bound (views.AfterNonzero n) n F14 (stepped (views.Call f (views.ReturnsNonzero f) (prefixes es)) behind))
      × AreKept s t u k (if is_redirected (redirects_in es) then bound (views.AfterNonzero n) n F14 behind else [])
  unfolding simple_bounds r.call_bounds r.where_redirected
  call_parts t u k f ws kept =
      let first : List Constraint = bound (views.Entry f) n F14 (views.gaining_names (prefixes es) (stepped (Count (total ws)) behind)) in
      let second : List Constraint = bound (views.AfterZero n) n F14 (stepped (views.Call f (views.ReturnsZero f) (prefixes es)) behind) in
      let third : List Constraint = bound (views.AfterNonzero n) n F14 (stepped (views.Call f (views.ReturnsNonzero f) (prefixes es)) behind) in
      let fourth : List Constraint = r.where_redirected y n es (bound (views.AfterNonzero n) n F14 behind) in
      let c = each_parts (Unbroken s t u k) (first ++ second ++ third) fourth kept in
      let b = each_parts (Unbroken s t u k) (first ++ second) third c.0 in
      let a = each_parts (Unbroken s t u k) first second b.0 in
      (a.0, a.1, b.1, c.1)

  -- after a call that may return, or in place of which a utility may run
  returned_bounds : (t : p.Items) (u : ℕ → ℕ) (k : Keeps s t u) (slot return : Slot) (place : count.Count) (f : Text) (end : End) → index_of (names s) slot ≡ Some place.index
      → AreKept s t u k (bound slot n F14 (stepped (views.Call f return (prefixes es)) behind)) → (IsReached s end f → Passes k.claims (views.Call f return (prefixes es))) → IsBehind s n es left
      → IsReached s end f ⊎ IsUnsure s n f → AreBounds s.places u place (Raise 0) left
  returned_bounds t u k slot return place f end at kept reached here goes =
      ⊎_elim
      (λ (is : IsReached s end f). change_bounds s t u k slot place n F14 behind _ (Raise 0) left at kept (λ h. stepped_makes s t u k behind (views.Call f return (prefixes es)) h (Raise 0) (reached is) (call_made f return (prefixes es))) here.words)
      (λ (is : IsUnsure s n f). unsure_bounds s t u k slot return place n F14 (words_gains (operands_in es)) f (prefixes es) left at kept is here.words)
      goes

  pub call_added : (f : Text) (c : Change) (success failure : count.Count) (old one two three new : Equations) → ((m l : ℕ) → m ≤ l → counted_by (total (behind_name es)) m ≤ made c l)
      → success.index ≡ command_index part.Zero n → failure.index ≡ command_index part.Nonzero n
      → AddsFunction s end.Entered f left c old one → AddsReturn s n success end.Zero f left one two → AddsReturn s n failure end.Nonzero f left two three
      → AddsFailed s n es left three new → AddsManner s y n es left (table.Call f (behind_name es)) old new
  call_added f c success failure old one two three new more at_zero at_nonzero first second third fourth t u k here kept =
      let ws : List Word = behind_name es in
      let parts = call_parts t u k f ws kept in
      λ tallied.
      fourth u
      (λ redirected place is. place_bounds s t u k (views.AfterNonzero n) place n F14 behind left (nonzero_index place is)
      (subst (λ b. AreKept s t u k (if b then bound (views.AfterNonzero n) n F14 behind else [])) redirected parts.3) here.words)
      (third u (returned_bounds t u k (views.AfterNonzero n) (views.ReturnsNonzero f) failure f end.Nonzero (nonzero_index failure at_nonzero) parts.2 (nonzero_reached t u k f (prefixes es)) here)
      (second u (returned_bounds t u k (views.AfterZero n) (views.ReturnsZero f) success f end.Zero (zero_index success at_zero) parts.1 (zero_reached t u k f (prefixes es)) here)
      (first u (λ place at. change_bounds s t u k (views.Entry f) place n F14 behind _ c left (entry_index f place at) parts.0
      (λ h sees. named_makes s t u k (stepped (Count (total ws)) behind) (named (prefixes es)) h c refl (stepped_makes s t u k behind (Count (total ws)) h c (count_passes t u k (total ws)) (count_made ws c more) sees)) here.words) tallied)))

-- By the texts of the words

nothing_named : (fs : List Text) (ws : List Word) → [] ≡ map static_of ws → manner_of_words fs ws ≡ Nameless
unfolding manner_of_words
nothing_named fs [] is = refl
nothing_named fs (w ∷ ws) is = absurd (let e = ap length is in omega (arith, e))

first_named : (fs : List Text) (ws : List Word) (x : Static) (xs : List Static) → x ∷ xs ≡ map static_of ws → (manner_of_words fs ws ≡ manner_of_name fs x (drop 1 ws)) × (map static_of (drop 1 ws) ≡ xs)
unfolding manner_of_words
first_named fs [] x xs is = absurd (let e = ap length is in omega (arith, e))
first_named fs (w ∷ ws) x xs is = (ap (λ z. manner_of_name fs z ws) (sym (ap (λ l. get_or l 0 x) is)), sym (ap (drop 1) is))

-- the functions of the table are those of the script
same_named : (s : Tally) (t : p.Items) (u : ℕ → ℕ) (k : Keeps s t u) (x : Static) (ws : List Word) → manner_of_name (functions_of (script_entered t)) x ws ≡ manner_of_name (names s) x ws
unfolding manner_of_name
same_named s t u k None ws = refl
same_named s t u k (Some f) ws = ap (λ b. if b && not (table.is_special (kind_of f)) then table.Call f ws else Utility (kind_of f) ws) (k.functions f)

module _ (s : Tally) (y : Around) (n : ℕ) (es : p.Elements) (left : Views) (old new : Equations) where
  pub nameless_simple : (ts : List Static) → (s.table.now.script ≡ s.script.now → ts ≡ []) → (AreTexts s n es → ts ≡ map static_of (operands es)) → AddsManner s y n es left Nameless old new → AddsSimple s y n es left old new
  nameless_simple ts none same adds texts t u k here kept =
      let e : manner (functions_of (script_entered t)) es ≡ Nameless = nothing_named (functions_of (script_entered t)) (operands es) (sym (none texts.script) ∙ same texts) in
      adds t u k here (subst (λ m. AreKept s t u k (simple_bounds y n es m)) e kept)

  pub named_simple : (x : Static) (xs : List Static) → (AreTexts s n es → x ∷ xs ≡ map static_of (operands es)) → (map static_of (behind_name es) ≡ xs → AddsManner s y n es left (manner_of_name (names s) x (behind_name es)) old new)
      → AddsSimple s y n es left old new
  named_simple x xs same adds texts t u k here kept =
      let first = first_named (functions_of (script_entered t)) (operands es) x xs (same texts) in
      let e : manner (functions_of (script_entered t)) es ≡ manner_of_name (names s) x (behind_name es) = first.0 ∙ same_named s t u k x (behind_name es) in
      adds first.1 t u k here (subst (λ m. AreKept s t u k (simple_bounds y n es m)) e kept)

-- What a name means

and_false : (b : Bool) → (b && false) ≡ false
and_false true = refl
and_false false = refl

pub special_manner : (fs : List Text) (f : Text) (ws : List Word) (name : KnownName) → kind_of f ≡ kind.Special name → manner_of_name fs (Some f) ws ≡ Utility (kind.Special name) ws
unfolding manner_of_name table.is_special
special_manner fs f ws name is =
    ap (λ k. if is_one_of fs f && not (table.is_special k) then table.Call f ws else Utility k ws) is
    ∙ ap (λ b. if b then table.Call f ws else Utility (kind.Special name) ws) (and_false (is_one_of fs f))

pub call_manner : (fs : List Text) (f : Text) (ws : List Word) → is_one_of fs f ≡ true → table.is_special (kind_of f) ≡ false → manner_of_name fs (Some f) ws ≡ table.Call f ws
unfolding manner_of_name
call_manner fs f ws one none =
    ap₂ (λ a b. if a && not b then table.Call f ws else Utility (kind_of f) ws) one none

pub utility_manner : (fs : List Text) (f : Text) (ws : List Word) → is_one_of fs f ≡ false → manner_of_name fs (Some f) ws ≡ Utility (kind_of f) ws
unfolding manner_of_name
utility_manner fs f ws none = ap (λ a. if a && not (table.is_special (kind_of f)) then table.Call f ws else Utility (kind_of f) ws) none

pub unnamed_manner : (fs : List Text) (ws : List Word) → manner_of_name fs None ws ≡ Utility kind.Utility ws
unfolding manner_of_name
unnamed_manner fs ws = refl

-- The first of several, and the others

pub first_rest : {X : Type 0} (xs : List X) (x : X) → 1 ≤ length xs → x ≡ get_or xs 0 x → xs ≡ x ∷ take (length xs - 1) (drop 1 xs)
first_rest [] x some is = absurd (omega (arith, some))
first_rest (y ∷ ys) x some is = ap (λ z. z ∷ ys) (sym is) ∙ ap (λ zs. x ∷ zs) (sym (take_all (length (y ∷ ys) - 1) ys (omega arith)))

pub none_mapped : {X Y : Type 0} (f : X → Y) (xs : List X) → length xs < 1 → map f xs ≡ []
none_mapped f [] few = refl
none_mapped f (x ∷ xs) few = absurd (omega (arith, few))

-- `exec` without a static operand runs no command that is known

pub nothing_run : (ws : List Word) → map static_of ws ≡ [] → runs_command ws ≡ false
unfolding runs_command
nothing_run [] is = refl
nothing_run (w ∷ ws) is = absurd (let e = ap length is in omega (arith, e))

pub unknown_run : (ws : List Word) (xs : List Static) → map static_of ws ≡ None ∷ xs → runs_command ws ≡ false
unfolding runs_command
unknown_run [] xs is = refl
unknown_run (w ∷ ws) xs is = ap (λ o. unwrap_or (option_map (λ t. has_command (t ∷ [])) o) false) (ap (λ l. get_or l 0 None) is)
