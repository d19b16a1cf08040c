-- What is required if claims are stated.
use Rattle.std.proofs.Common.{◌≡◌, ℕ, cond, Bool, true, false, not, if◌then◌else◌, List, [], ◌∷◌, filter, fold, refl, sym, ap, ◌∙◌, true≢false}
use Rattle.std.specs.List.{list_all}
use Rattle.std.proofs.lemmas.Bool.{and_parts}
use Rattle.std.proofs.lemmas.List.Elements.{filter-append}
use Rattle.sh_domain.specs.Filled.{is_stated}
use Rattle.sh_domain.specs.declared.rule.FlowRule.{FlowRule}
use Rattle.sh_domain.specs.Facts.{Facts}
use Rattle.sh_domain.specs.Faults.{broken}
use Rattle.sh_domain.specs.Inclusions.{Each}
use Rattle.sh_domain.specs.Knowledge.{AreNumbered}
use Rattle.sh_domain.specs.Order.{IsBelow}
use Rattle.sh_domain.specs.Rules.{Constraint, Within, Counted, bound}
use Rattle.sh_domain.specs.Views.{Certificate, Slot, Seen}
use Rattle.sh_rules.specs.Above.{Allows, Ask, OfPlace, OfFunction, Asks, ask}
use Rattle.sh_rules.specs.Asked.{ByConstraints}
use Rattle.sh_rules.specs.Asking.{Asking}
use Rattle.sh_rules.specs.Bounds.{fault}
use Rattle.sh_rules.specs.Meaning.{knows}
use Rattle.sh_rules.specs.Settings.{Setting, certificate}
use Rattle.sh_rules.proofs.AboveLemmas.{Above, Judges, place_allowed, view_allowed, loss_allowed}
use Rattle.sh_drafts.specs.Stated.{is_free, is_asked, asked_bounds}
use Rattle.sh_sweeps.specs.Asked.{is_asked_of, asking_by}

-- Of each element that passes

kept_if : {A : Type 0} (P : A → Type 0) (b : Bool) (x : A) (xs : List A) → P x → Each P xs → Each P (cond b (x ∷ xs) xs)
unfolding Each
kept_if P true x xs h k = (h, k)
kept_if P false x xs h k = k

pub each_passing : {A : Type 0} (P : A → Type 0) (p : A → Bool) (xs : List A) → Each P xs → Each P (filter p xs)
unfolding Each
each_passing P p [] h = tt
each_passing P p (x ∷ xs) h = kept_if P (p x) x (filter p xs) h.0 (each_passing P p xs h.1)

all_if : {A : Type 0} (q : A → Bool) (b : Bool) (x : A) (xs : List A) → q x ≡ true → list_all q xs ≡ true → list_all q (cond b (x ∷ xs) xs) ≡ true
all_if q true x xs h k = rw (h, k) refl
all_if q false x xs h k = k

pub all_passing : {A : Type 0} (q p : A → Bool) (xs : List A) → list_all q xs ≡ true → list_all q (filter p xs) ≡ true
all_passing q p [] h = refl
all_passing q p (x ∷ xs) h = let both = and_parts (q x) (list_all q xs) h in all_if q (p x) x (filter p xs) both.0 (all_passing q p xs both.1)

under_if : {A : Type 0} (P : A → Type 0) (b : Bool) (x : A) (xs : List A) → Each P (cond b (x ∷ xs) xs) → (b ≡ true → P x) × Each P xs
unfolding Each
under_if P true x xs h = ((λ e. h.0), h.1)
under_if P false x xs h = ((λ e. absurd (true≢false (sym e))), h)

-- what holds of those that pass holds of each, if it passes
pub each_if_passing : {A : Type 0} (P : A → Type 0) (p : A → Bool) (xs : List A) → Each P (filter p xs) → Each (λ x. p x ≡ true → P x) xs
unfolding Each
each_if_passing P p [] h = tt
each_if_passing P p (x ∷ xs) h = let both = under_if P (p x) x (filter p xs) h in (both.0, each_if_passing P p xs both.1)

pass_if : {A : Type 0} (p : A → Bool) (b : Bool) (x : A) (xs : List A) → p x ≡ b → Each (λ y. p y ≡ true) xs → Each (λ y. p y ≡ true) (cond b (x ∷ xs) xs)
unfolding Each
pass_if p true x xs e h = (e, h)
pass_if p false x xs e h = h

pub all_pass : {A : Type 0} (p : A → Bool) (xs : List A) → Each (λ x. p x ≡ true) (filter p xs)
unfolding Each
all_pass p [] = tt
all_pass p (x ∷ xs) = pass_if p (p x) x (filter p xs) refl (all_pass p xs)

pub not_true : (b : Bool) → not b ≡ true → b ≡ false
not_true true e = absurd (true≢false (sym e))
not_true false e = refl

-- Constraints

pub all_asked : (ks : List Constraint) → asked_bounds false ks ≡ ks
unfolding is_asked is_free
all_asked [] = refl
all_asked (Within slot n rule v ∷ ks) = ap (λ ls. Within slot n rule v ∷ ls) (all_asked ks)
all_asked (Counted f n loss ∷ ks) = ap (λ ls. Counted f n loss ∷ ls) (all_asked ks)

none_of : (slot : Slot) (n : ℕ) (rule : FlowRule) (s : Seen) → is_stated slot ≡ true → asked_bounds true (bound slot n rule s) ≡ []
unfolding is_asked is_free
none_of slot n rule [] e = refl
none_of slot n rule (v ∷ s) e = ap (λ b. cond (not b) (Within slot n rule v ∷ asked_bounds true (bound slot n rule s)) (asked_bounds true (bound slot n rule s))) e ∙ none_of slot n rule s e

all_of : (slot : Slot) (n : ℕ) (rule : FlowRule) (s : Seen) → is_stated slot ≡ false → asked_bounds true (bound slot n rule s) ≡ bound slot n rule s
unfolding is_asked is_free
all_of slot n rule [] e = refl
all_of slot n rule (v ∷ s) e =
    ap (λ b. cond (not b) (Within slot n rule v ∷ asked_bounds true (bound slot n rule s)) (asked_bounds true (bound slot n rule s))) e ∙ ap (λ ls. Within slot n rule v ∷ ls) (all_of slot n rule s e)

-- something that is required, for which this holds
abbrev pub Left : Bool → (Ask → Type 0) → Ask → Type 0
Left stated Q q = (is_asked_of stated q ≡ true) × Q q

module _ {K : Type 0} (a : Asking K) (x : Setting) where
  -- what is done with what is required follows the constraints that are required
  pub by_asked : (stated : Bool) (d : Facts) → ByConstraints K a x d → ByConstraints K (asking_by stated a) x d
  unfolding asking_by is_asked
  by_asked false d i = record {
    all = λ g ks. i.all g (asked_bounds false ks);
    none = λ g. i.none g;
    joined = λ g ks ls. ap (i.all g) (filter-append (is_asked false) ks ls) ∙ i.joined g (asked_bounds false ks) (asked_bounds false ls);
    bounded = λ slot n rule s g. ap (i.all g) (all_asked (bound slot n rule s)) ∙ i.bounded slot n rule s g;
    counted = λ function n l g. i.counted function n l g;
  }
  by_asked true d i = record {
    all = λ g ks. i.all g (asked_bounds true ks);
    none = λ g. i.none g;
    joined = λ g ks ls. ap (i.all g) (filter-append (is_asked true) ks ls) ∙ i.joined g (asked_bounds true ks) (asked_bounds true ls);
    bounded = λ slot n rule s g. by slot n rule s g (is_stated slot) refl;
    counted = λ function n l g. i.none g;
  }
    where
      by : (slot : Slot) (n : ℕ) (rule : FlowRule) (s : Seen) (g : K) (b : Bool) → is_stated slot ≡ b
          → i.all g (asked_bounds true (bound slot n rule s)) ≡ (if is_stated slot then g else a.bound x slot (fault n rule) (knows x d s) g)
      by slot n rule s g true e = ap (i.all g) (none_of slot n rule s e) ∙ i.none g ∙ sym (ap (λ (b : Bool). if b then g else a.bound x slot (fault n rule) (knows x d s) g) e)
      by slot n rule s g false e =
          ap (i.all g) (all_of slot n rule s e) ∙ i.bounded slot n rule s g ∙ sym (ap (λ (b : Bool). if b then g else a.bound x slot (fault n rule) (knows x d s) g) e)

  pub asked_all : (stated : Bool) (d : Facts) (i : ByConstraints K a x d) (g : K) (ks : List Constraint) → (by_asked stated d i).all g ks ≡ i.all g (asked_bounds stated ks)
  unfolding by_asked
  asked_all false d i g ks = refl
  asked_all true d i g ks = refl

  -- What is done with what is required is done with what is left of it

  one_left : (stated : Bool) (q : Ask) (g : K) → ask (asking_by stated a) x g q ≡ cond (is_asked_of stated q) (ask a x g q) g
  unfolding ask asking_by is_asked_of is_free
  one_left false (OfPlace slot f k) g = refl
  one_left false (OfFunction function f names) g = refl
  one_left true (OfPlace slot f k) g = by (is_stated slot)
    where
      by : (b : Bool) → (if b then g else a.bound x slot f k g) ≡ cond (not b) (a.bound x slot f k g) g
      by true = refl
      by false = refl
  one_left true (OfFunction function f names) g = refl

  fold_if : (b : Bool) (q : Ask) (qs : List Ask) (g : K) → fold (ask a x) (cond b (ask a x g q) g) qs ≡ fold (ask a x) g (cond b (q ∷ qs) qs)
  fold_if true q qs g = refl
  fold_if false q qs g = refl

  all_left : (stated : Bool) (qs : List Ask) (g : K) → fold (ask (asking_by stated a) x) g qs ≡ fold (ask a x) g (filter (is_asked_of stated) qs)
  all_left stated [] g = refl
  all_left stated (q ∷ qs) g =
      all_left stated qs (ask (asking_by stated a) x g q)
      ∙ ap (λ h. fold (ask a x) h (filter (is_asked_of stated) qs)) (one_left stated q g)
      ∙ fold_if (is_asked_of stated q) q (filter (is_asked_of stated) qs) g

  left_if : (Q : Ask → Type 0) (stated : Bool) (b : Bool) (q : Ask) (qs : List Ask) → is_asked_of stated q ≡ b → (is_asked_of stated q ≡ true → Q q) → Each (Left stated Q) qs → Each (Left stated Q) (cond b (q ∷ qs) qs)
  unfolding Each
  left_if Q stated true q qs e h k = ((e, h e), k)
  left_if Q stated false q qs e h k = k

  left : (Q : Ask → Type 0) (stated : Bool) (qs : List Ask) → Each (λ q. is_asked_of stated q ≡ true → Q q) qs → Each (Left stated Q) (filter (is_asked_of stated) qs)
  unfolding Each
  left Q stated [] h = tt
  left Q stated (q ∷ qs) h = left_if Q stated (is_asked_of stated q) q (filter (is_asked_of stated) qs) refl h.0 (left Q stated qs h.1)

  pub left_asks : (Q : Ask → Type 0) (stated : Bool) (first last : K) → Asks (asking_by stated a) x (λ q. is_asked_of stated q ≡ true → Q q) first last → Asks a x (Left stated Q) first last
  left_asks Q stated first last s = record {
    asks = filter (is_asked_of stated) s.asks;
    each = left Q stated s.asks s.each;
    reached = s.reached ∙ all_left stated s.asks first;
  }

-- What a certificate below allows, of what is required

module _ (x : Setting) (h : AreNumbered x.names) (d : Facts) (c : Certificate) (below : IsBelow c (certificate x)) (stated : Bool) where
  abbrev pub Unbroken : Constraint → Type 0
  Unbroken k = is_asked stated k ≡ true → broken d c k ≡ []

  free_all : (slot : Slot) (n : ℕ) (rule : FlowRule) (s : Seen) → is_free stated slot ≡ true → Each Unbroken (bound slot n rule s) → Each (λ k. broken d c k ≡ []) (bound slot n rule s)
  unfolding Each is_asked
  free_all slot n rule [] free all = tt
  free_all slot n rule (v ∷ s) free all = (all.0 free, free_all slot n rule s free all.1)

  pub asked_allowed : Judges x d (Above x h d c below) Unbroken (λ q. is_asked_of stated q ≡ true → Allows x.names c q)
  unfolding is_asked is_asked_of
  asked_allowed = record {
    place = λ slot n rule s k w all free. place_allowed x h d c below slot n rule s k w (free_all slot n rule s free all);
    view = λ slot n rule v q free. view_allowed x h d c below slot n rule v (q free);
    loss = λ function n l q asked. loss_allowed x h d c below function n l (q asked);
  }
