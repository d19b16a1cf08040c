-- A view bounds the count of positional parameters.
use Rattle.std.proofs.Common.{ℕ, ◌*◌, ◌≤◌, max, Bool, true, false, ◌||◌, if◌then◌else◌, List, [], ◌∷◌, ◌++◌, sym, subst, arith}
use Rattle.std.proofs.Math.Nat.{mul-le-mul_left}
use Rattle.sh_tree.specs.standard.program.Syntax.{Text}
use Rattle.sh_runs.specs.standard.runs.Environment.{is_one_of}
use Rattle.sh_domain.specs.Facts.{Facts, NotReached, Known, facts, meet}
use Rattle.sh_domain.specs.Gains.{Gains, with_gains}
use Rattle.sh_domain.specs.Operands.{Names}
use Rattle.sh_domain.specs.Order.{IsWithin, seen_facts}
use Rattle.sh_domain.specs.Views.{Certificate, Step, Gain, Define, Lose, Count, Shift, Call, At, Slot, View, Seen, at, gaining, stepped, where_known, returned, left, called, step, steps, source_facts, view_facts}
use Rattle.sh_domain.proofs.OrderLemmas.{known_parts, nowhere_known}
use Rattle.sh_tally.specs.Counts.{HasAtMost, made_by, all_made, Passes, AllPass, ViewsBoundCounts}
use Rattle.sh_tally.specs.Walks.{MayLack}

-- what claims no more has no more
pub within_at_most : (n : ℕ) (f g : Facts) → IsWithin f g → HasAtMost n g → HasAtMost n f
unfolding HasAtMost
within_at_most n NotReached (Known w g b) k h = nowhere_known w g b k
within_at_most n (Known v f a) (Known w g b) k h = let parts = known_parts v w f g a b k in omega (arith, parts.args, h)
within_at_most n f NotReached k h = absurd h

-- of those that both claim, and of others too
meet_first : (n : ℕ) (f g : Facts) → HasAtMost n f → HasAtMost n (meet f g)
unfolding HasAtMost meet
meet_first n NotReached g h = absurd h
meet_first n (Known v f a) NotReached h = h
meet_first n (Known v f a) (Known w g b) h = omega (arith, h)

meet_second : (n : ℕ) (f g : Facts) → HasAtMost n g → HasAtMost n (meet f g)
unfolding HasAtMost meet
meet_second n NotReached g h = h
meet_second n (Known v f a) NotReached h = absurd h
meet_second n (Known v f a) (Known w g b) h = omega (arith, h)

-- after a call
called_at_most : (n m : ℕ) (d : Names) (r : Facts) (function : Text) (names : List Text) (f : Facts) → HasAtMost m r → HasAtMost n f → HasAtMost n (called d r function names f)
unfolding HasAtMost called where_known returned
called_at_most n m d r function names NotReached at h = absurd h
called_at_most n m d r function names (Known v f a) at h = go (f function) r at
  where
    go : (sure : Bool) (s : Facts) → HasAtMost m s → HasAtMost n (if sure then returned d names s v f a else left d function v f a)
    go false s e = h
    go true NotReached e = absurd e
    go true (Known w g b) e = h

step_at_most : (c : Certificate) (x : Step) (n : ℕ) (f : Facts) → Passes c x → HasAtMost n f → HasAtMost (made_by x n) (step c x f)
unfolding HasAtMost step made_by Passes where_known with_gains
step_at_most c x n NotReached p h = absurd h
step_at_most c (Gain g) n (Known v f a) p h = omega (arith, h)
step_at_most c (Define name) n (Known v f a) p h = h
step_at_most c (Lose names) n (Known v f a) p h = h
step_at_most c (Count t) n (Known v f a) p h = let more : t.parameters * a ≤ t.parameters * n = mul-le-mul_left t.parameters h in omega (arith, more)
step_at_most c (Shift m) n (Known v f a) p h = omega (arith, h)
step_at_most c (Call function return names) n (Known v f a) p h = called_at_most n p.0 (c.drops function) (facts (c.claim return)) function names (Known v f a) p.1 h

steps_at_most : (c : Certificate) (xs : List Step) (n : ℕ) (f : Facts) → AllPass c xs → HasAtMost n f → HasAtMost (all_made xs n) (steps c xs f)
unfolding all_made AllPass steps
steps_at_most c [] n f p h = h
steps_at_most c (x ∷ xs) n f p h = steps_at_most c xs (made_by x n) (step c x f) p.1 (step_at_most c x n f p.0 h)

-- one of the views
seen_at_most : (d : Facts) (c : Certificate) (v : View) (front back : Seen) (n : ℕ) → HasAtMost n (view_facts d c v) → HasAtMost n (seen_facts d c (front ++ (v ∷ back)))
unfolding seen_facts
seen_at_most d c v [] back n h = meet_first n (view_facts d c v) (seen_facts d c back) h
seen_at_most d c v (w ∷ front) back n h = meet_second n (view_facts d c w) (seen_facts d c (front ++ (v ∷ back))) (seen_at_most d c v front back n h)

pub views_bound_counts : ViewsBoundCounts
unfolding source_facts
views_bound_counts d c slot xs front back n h p = seen_at_most d c (record { source = At slot; steps = xs }) front back (all_made xs n) (steps_at_most c xs n (facts (c.claim slot)) p h)

-- after a call of a function that may be undefined
unsure_at_most : (n : ℕ) (d : Names) (r : Facts) (function : Text) (names : List Text) (f : Facts) → MayLack function f → HasAtMost n f → HasAtMost n (called d r function names f)
unfolding HasAtMost MayLack called where_known
unsure_at_most n d r function names NotReached lacks h = absurd h
unsure_at_most n d r function names (Known v f a) lacks h =
    subst (λ sure. HasAtMost n (if sure then returned d names r v f a else left d function v f a)) (sym lacks) h

behind_gains : (c : Certificate) (return : Slot) (g : Gains) (function : Text) (names : List Text) (n : ℕ) (f : Facts) → MayLack function f → HasAtMost n (meet (steps c (Gain g ∷ []) f) NotReached)
    → HasAtMost n (meet (steps c (Gain g ∷ Call function return names ∷ []) f) NotReached)
unfolding HasAtMost MayLack meet steps step with_gains
behind_gains c return g function names n NotReached lacks h = absurd h
behind_gains c return g function names n (Known v f a) lacks h =
    let known : Facts = Known (λ x. is_one_of g.names x || v x) f (max a g.args) in
    meet_first n (called (c.drops function) (facts (c.claim return)) function names known) NotReached (unsure_at_most n (c.drops function) (facts (c.claim return)) function names known lacks h)

pub unsure_bounds_counts : (d : Facts) (c : Certificate) (slot return : Slot) (g : Gains) (function : Text) (names : List Text) (n : ℕ) → MayLack function (facts (c.claim slot))
    → HasAtMost n (seen_facts d c (gaining g (at slot))) → HasAtMost n (seen_facts d c (stepped (Call function return names) (gaining g (at slot))))
unfolding seen_facts source_facts
unsure_bounds_counts d c slot return g function names n lacks h = behind_gains c return g function names n (facts (c.claim slot)) lacks h
