-- Views of what is known stay views of it after each step of a walk.
use Rattle.std.proofs.Common.{◌≡◌, ℕ, ◌≤◌, true, false, max, List, [], ◌∷◌, ◌++◌, append_assoc, map, Option, Some, None, IfSome, refl, sym, ap, ◌∙◌, subst, arith}
use Rattle.sh_tree.specs.standard.program.Syntax.{Text}
use Rattle.sh_domain.specs.Gains.{Gains, named}
use Rattle.sh_domain.specs.Operands.{Names}
use Rattle.sh_domain.specs.Views as views
use Rattle.sh_domain.specs.Views.{Certificate, Slot, Seen, Step, Define, Gain, Lose, At, extended, stepped, gaining, if_zero, if_nonzero, swapped, in_any_case, Both, Each}
use Rattle.sh_tally.specs.declared.views.After.{After}
use Rattle.sh_tally.specs.declared.views.View.{View}
use Rattle.sh_tally.specs.declared.views.Views.{Views}
use Rattle.sh_tally.specs.Counts.{AllPass, Passes, all_made, made_by}
use Rattle.sh_tally.specs.Views.{Raised, RaisedView, See, SeeAfter, Sees, index_of}

pub made_then : (xs : List Step) (x : Step) (n : ℕ) → all_made (xs ++ x ∷ []) n ≡ made_by x (all_made xs n)
unfolding all_made
made_then [] x n = refl
made_then (y ∷ xs) x n = made_then xs x (made_by y n)

pub pass_then : (c : Certificate) (xs : List Step) (x : Step) → AllPass c xs → Passes c x → AllPass c (xs ++ x ∷ [])
unfolding AllPass
pass_then c [] x h p = (p, tt)
pass_then c (y ∷ xs) x h p = (h.0, pass_then c xs x h.1 p)

pub map_middle : {A : Type 0} (f : A → A) (xs ys : List A) (x : A) → map f (xs ++ (x ∷ ys)) ≡ map f xs ++ (f x ∷ map f ys)
map_middle f [] ys x = refl
map_middle f (y ∷ xs) ys x = ap (λ zs. f y ∷ zs) (map_middle f xs ys x)

-- Views that are left after expansions

none_one : (o : Option View) → RaisedView 0 o o
unfolding RaisedView
none_one None = tt
none_one (Some h) = (refl, omega arith)

pub raised_none : (k : Views) → Raised 0 k k
raised_none k = record { first = none_one k.first; second = none_one k.second }

then_one : (a b : ℕ) (o m n : Option View) → RaisedView a o m → RaisedView b m n → RaisedView (max a b) o n
unfolding RaisedView
then_one a b o m None r s = tt
then_one a b o None (Some k) r s = absurd s
then_one a b None (Some j) (Some k) r s = absurd r
then_one a b (Some h) (Some j) (Some k) r s = (s.0 ∙ r.0, let x = r.1 in let y = s.1 in omega (arith, x, y))

pub raised_then : (a b : ℕ) (k l m : Views) → Raised a k l → Raised b l m → Raised (max a b) k m
raised_then a b k l m r s = record { first = then_one a b k.first l.first m.first r.first s.first; second = then_one a b k.second l.second m.second r.second s.second }

less_one : (a b : ℕ) (o n : Option View) → b ≤ a → RaisedView a o n → RaisedView b o n
unfolding RaisedView
less_one a b o None le r = tt
less_one a b None (Some k) le r = absurd r
less_one a b (Some h) (Some k) le r = (r.0, let x = r.1 in omega (arith, x, le))

pub raised_less : (a b : ℕ) (k l : Views) → b ≤ a → Raised a k l → Raised b k l
raised_less a b k l le r = record { first = less_one a b k.first l.first le r.first; second = less_one a b k.second l.second le r.second }

module _ (functions : List Text) where
  -- after a step that leaves at most the greater of the count and the least one
  stepped_sees : (q : Seen) (x : Step) (h k : View) → ((c : Certificate) → Passes c x) → ((m n : ℕ) → m ≤ max n h.least → made_by x m ≤ max n k.least) → k.source ≡ h.source
      → Sees functions q h → Sees functions (stepped x q) k
  stepped_sees q x h k pass more same s =
      record {
        view = extended x s.view;
        front = stepped x s.front;
        back = stepped x s.back;
        one = ap (stepped x) s.one ∙ map_middle (extended x) s.front s.back s.view;
        shows = record {
          slot = s.shows.slot;
          source = s.shows.source;
          place = subst (λ p. index_of functions s.shows.slot ≡ Some p) (sym (ap (λ p. p.index) same)) s.shows.place;
          passes = λ c. pass_then c s.view.steps x (s.shows.passes c) (pass c);
          made = λ n. subst (λ m. m ≤ max n k.least) (sym (made_then s.view.steps x n)) (more (all_made s.view.steps n) n (s.shows.made n));
        };
      }

  gain_pass : (g : Gains) (c : Certificate) → Passes c (Gain g)
  unfolding Passes
  gain_pass g c = tt

  gain_more : (g : Gains) (h k : ℕ) → g.args ≤ k → (m n : ℕ) → m ≤ max n h → made_by (Gain g) m ≤ max n (max h k)
  unfolding made_by
  gain_more g h k few m n le = omega (arith, few, le)

  raised_sees : (q : Seen) (g : Gains) (h k : View) (least : ℕ) → g.args ≤ least → k.source ≡ h.source → k.least ≡ max h.least least → Sees functions q h → Sees functions (gaining g q) k
  raised_sees q g h k least few same is s =
      stepped_sees q (Gain g) h k (gain_pass g) (λ m n le. subst (λ l. made_by (Gain g) m ≤ max n l) (sym is) (gain_more g h.least least few m n le)) same s

  gained_more : (g : Gains) (h k : ℕ) → max h g.args ≤ k → (m n : ℕ) → m ≤ max n h → made_by (Gain g) m ≤ max n k
  unfolding made_by
  gained_more g h k few m n le = omega (arith, few, le)

  raised_one : (q : Seen) (g : Gains) (o n : Option View) → RaisedView g.args o n → IfSome o (Sees functions q) → IfSome n (Sees functions (gaining g q))
  unfolding RaisedView
  raised_one q g o None r s = tt
  raised_one q g None (Some k) r s = absurd r
  raised_one q g (Some h) (Some k) r s = stepped_sees q (Gain g) h k (gain_pass g) (gained_more g h.least k.least r.1) r.0 s

  pub raised_see : (q : Seen) (g : Gains) (k l : Views) → Raised g.args k l → See functions q k → See functions (gaining g q) l
  raised_see q g k l r s = record { first = raised_one q g k.first l.first r.first s.first; second = raised_one q g k.second l.second r.second s.second }

  weaker_sees : (q : Seen) (h k : View) → k.source ≡ h.source → h.least ≤ k.least → Sees functions q h → Sees functions q k
  weaker_sees q h k same more s = record {
    view = s.view;
    front = s.front;
    back = s.back;
    one = s.one;
    shows = record {
      slot = s.shows.slot;
      source = s.shows.source;
      place = subst (λ p. index_of functions s.shows.slot ≡ Some p) (sym (ap (λ p. p.index) same)) s.shows.place;
      passes = s.shows.passes;
      made = λ n. let few = s.shows.made n in omega (arith, few, more);
    };
  }

  weaker_one : (q : Seen) (n : ℕ) (o m : Option View) → RaisedView n o m → IfSome o (Sees functions q) → IfSome m (Sees functions q)
  unfolding RaisedView
  weaker_one q n o None r s = tt
  weaker_one q n None (Some k) r s = absurd r
  weaker_one q n (Some h) (Some k) r s = let x = r.1 in weaker_sees q h k r.0 (omega (arith, x)) s

  -- what is left sees what was seen
  pub weaker_see : (q : Seen) (n : ℕ) (k l : Views) → Raised n k l → See functions q k → See functions q l
  weaker_see q n k l r s = record { first = weaker_one q n k.first l.first r.first s.first; second = weaker_one q n k.second l.second r.second s.second }

  define_pass : (f : Text) (c : Certificate) → Passes c (Define f)
  unfolding Passes
  define_pass f c = tt

  define_more : (f : Text) (h : ℕ) → (m n : ℕ) → m ≤ max n h → made_by (Define f) m ≤ max n h
  unfolding made_by
  define_more f h m n le = le

  defined_sees : (q : Seen) (f : Text) (h : View) → Sees functions q h → Sees functions (stepped (Define f) q) h
  defined_sees q f h s = stepped_sees q (Define f) h h (define_pass f) (define_more f h.least) refl s

  lose_pass : (d : _) (c : Certificate) → Passes c (Lose d)
  unfolding Passes
  lose_pass d c = tt

  lose_more : (d : _) (h : ℕ) → (m n : ℕ) → m ≤ max n h → made_by (Lose d) m ≤ max n h
  unfolding made_by
  lose_more d h m n le = le

  lost_sees : (q : Seen) (d : Names) (h : View) → Sees functions q h → Sees functions (stepped (Lose d) q) h
  lost_sees q d h s = stepped_sees q (Lose d) h h (lose_pass d) (lose_more d h.least) refl s

  pub started_sees : (q : Seen) (h : View) → Sees functions q h → Sees functions (views.without_job q) h
  started_sees q h s = lost_sees q _ h s

  pub at_sees : (slot : Slot) (h : View) → h.least ≡ 0 → index_of functions slot ≡ Some h.source.index → Sees functions (views.at slot) h
  unfolding all_made AllPass
  at_sees slot h none place = record {
    view = record { source = At slot; steps = [] };
    front = [];
    back = [];
    one = refl;
    shows = record { slot = slot; source = refl; place = place; passes = λ c. tt; made = λ n. omega (arith, none) };
  }

  pub sees_left : (q r : Seen) (h : View) → Sees functions q h → Sees functions (q ++ r) h
  sees_left q r h s = record {
    view = s.view;
    front = s.front;
    back = s.back ++ r;
    one = ap (λ z. z ++ r) s.one ∙ append_assoc s.front (s.view ∷ s.back) r;
    shows = s.shows;
  }

  pub sees_right : (q r : Seen) (h : View) → Sees functions r h → Sees functions (q ++ r) h
  sees_right q r h s = record {
    view = s.view;
    front = q ++ s.front;
    back = s.back;
    one = ap (λ z. q ++ z) s.one ∙ sym (append_assoc q s.front (s.view ∷ s.back));
    shows = s.shows;
  }

  each_some : (o : Option View) (P Q : View → Type 0) → ((h : View) → P h → Q h) → IfSome o P → IfSome o Q
  each_some None P Q f p = tt
  each_some (Some h) P Q f p = f h p

  pub see_left : (q r : Seen) (k : Views) → See functions q k → See functions (q ++ r) k
  see_left q r k s = record { first = each_some k.first _ _ (sees_left q r) s.first; second = each_some k.second _ _ (sees_left q r) s.second }

  pub see_right : (q r : Seen) (k : Views) → See functions r k → See functions (q ++ r) k
  see_right q r k s = record { first = each_some k.first _ _ (sees_right q r) s.first; second = each_some k.second _ _ (sees_right q r) s.second }

  pub see_defined : (q : Seen) (f : Text) (k : Views) → See functions q k → See functions (stepped (Define f) q) k
  see_defined q f k s = record { first = each_some k.first _ _ (defined_sees q f) s.first; second = each_some k.second _ _ (defined_sees q f) s.second }

  -- names that are lost take no parameters
  pub see_lost : (q : Seen) (d : Names) (k : Views) → See functions q k → See functions (stepped (Lose d) q) k
  see_lost q d k s = record { first = each_some k.first _ _ (lost_sees q d) s.first; second = each_some k.second _ _ (lost_sees q d) s.second }

  pub see_started : (q : Seen) (k : Views) → See functions q k → See functions (views.without_job q) k
  see_started q k s = record { first = each_some k.first _ _ (started_sees q) s.first; second = each_some k.second _ _ (started_sees q) s.second }

  pub see_swapped : (o : views.After) (k : After) → SeeAfter functions o k → SeeAfter functions (swapped true o) (record { zero = k.nonzero; nonzero = k.zero })
  unfolding swapped if_zero if_nonzero
  see_swapped o k s = record { zero = s.nonzero; nonzero = s.zero }

  pub see_kept : (o : views.After) (k : After) → SeeAfter functions o k → SeeAfter functions (swapped false o) k
  unfolding swapped
  see_kept o k s = s

  pub see_any : (k : After) (r : Views) → ((q : Seen) → See functions q k.zero → See functions q k.nonzero → See functions q r)
      → (o : views.After) → SeeAfter functions o k → See functions (in_any_case o) r
  unfolding in_any_case if_zero if_nonzero
  see_any k r both (Both q) s = both q s.zero s.nonzero
  see_any k r both (Each z n) s = both (z ++ n) (see_left z n k.zero s.zero) (see_right z n k.nonzero s.nonzero)

  named_sees : (q : Seen) (h : View) (names : List Text) → Sees functions q h → Sees functions (gaining (named names) q) h
  named_sees q h names s = raised_sees q (named names) h h 0 (omega arith) refl (omega arith) s

  -- names that are gained add no parameters
  pub see_named : (q : Seen) (k : Views) (names : List Text) → See functions q k → See functions (gaining (named names) q) k
  see_named q k names s = record { first = each_some k.first _ _ (λ h. named_sees q h names) s.first; second = each_some k.second _ _ (λ h. named_sees q h names) s.second }
