-- What keeps facts true.
use Rattle.std.proofs.Common.{◌≡◌, ℕ, ◌≤◌, ◌==◌, Bool, true, false, ◌&&◌, ◌||◌, nat_le, if◌then◌else◌, max, List, [], ◌∷◌, ◌++◌, length, bytes_eq, ◌⊎◌, inl, inr, refl, sym, ◌∙◌, subst, arith, leb-true}
use Rattle.std.specs.List.{list_all}
use Rattle.std.proofs.lemmas.Bool.{and_parts, or_cases, or_left, or_right}
use Rattle.std.proofs.lemmas.Slice.Eq.{bytes_eq-Decides}
use Rattle.std.proofs.lemmas.List.Folds.{list_any-append}
use Rattle.sh_tree.specs.standard.program.Syntax.{Text}
use Rattle.sh_runs.specs.standard.runs.Environment.{Environment, Frame, is_one_of}
use Rattle.sh_domain.specs.Facts.{Facts, NotReached, Known, Claim, Unreached, Claimed, facts, within}
use Rattle.sh_domain.specs.Gains.{Gains, no_gains, and_gains, with_gains, job}
use Rattle.sh_domain.specs.Views.{Certificate, Slot, AfterZero, AfterNonzero, Step, Gain, Seen, After, Both, Each, if_zero, if_nonzero, in_any_case, at, stepped, gaining, after_command, step, steps, source_facts, view_facts}
use Rattle.sh_sound.specs.Holding.{HoldKnown, Holds, Has, Grows, OneHolds, AfterHolds, Entails, Leads}
use Rattle.sh_domain.specs.Inclusions as i
use Rattle.sh_domain.specs.Inclusions.{Covers, Leaves}

-- Each

pub each_left : {A : Type 0} (P : A → Type 0) (xs ys : List A) → i.Each P (xs ++ ys) → i.Each P xs
unfolding i.Each
each_left P [] ys h = tt
each_left P (x ∷ xs) ys h = (h.0, each_left P xs ys h.1)

pub each_right : {A : Type 0} (P : A → Type 0) (xs ys : List A) → i.Each P (xs ++ ys) → i.Each P ys
unfolding i.Each
each_right P [] ys h = h
each_right P (x ∷ xs) ys h = each_right P xs ys h.1

pub each_both : {A : Type 0} (P : A → Type 0) (xs ys : List A) → i.Each P xs → i.Each P ys → i.Each P (xs ++ ys)
unfolding i.Each
each_both P [] ys h k = k
each_both P (x ∷ xs) ys h k = (h.0, each_both P xs ys h.1 k)

-- Growth

pub grows_refl : (e : Environment) → Grows e e
grows_refl e = record { variables = λ t i h. h; functions = λ t i h. h; job = λ h. h }

pub grows_trans : (a b c : Environment) → Grows a b → Grows b c → Grows a c
grows_trans a b c h k = record { variables = λ t i s. k.variables t i (h.variables t i s); functions = λ t i s. k.functions t i (h.functions t i s); job = λ s. k.job (h.job s) }

pub known_grows : (v g : Text → Bool) (a : ℕ) (e e' : Environment) (f : Frame) → Grows e e' → HoldKnown v g a e f → HoldKnown v g a e' f
known_grows v g a e e' f grows h = record {
  variables = λ t n k. grows.variables t n (h.variables t n k);
  job = λ k. grows.job (h.job k);
  functions = λ t n k. grows.functions t n (h.functions t n k);
  parameters = h.parameters;
}

pub holds_grow : (x : Facts) (e e' : Environment) (f : Frame) → Grows e e' → Holds x e f → Holds x e' f
unfolding Holds
holds_grow NotReached e e' f g h = h
holds_grow (Known v k a) e e' f g h = known_grows v k a e e' f g h

-- Claims

-- a name of a list is one of those that the list is of
pub all_one : (test : Text → Bool) (names : List Text) (t : Text) → list_all test names ≡ true → is_one_of names t ≡ true → test t ≡ true
all_one test [] t h k = cc
all_one test (n ∷ names) t h k = go (bytes_eq n t) refl k (all_one test names t (and_parts (test n) (list_all test names) h).1)
  where
    go : (b : Bool) → bytes_eq n t ≡ b → (b || is_one_of names t) ≡ true → (is_one_of names t ≡ true → test t ≡ true) → test t ≡ true
    go true e k ih = subst (λ u. test u ≡ true) ((bytes_eq-Decides n t).0 e) (and_parts (test n) (list_all test names) h).0
    go false e k ih = ih k

-- where more is known, the claim is true
pub within_holds : (x : Claim) (y : Facts) (e : Environment) (f : Frame) → within x y ≡ true → Holds y e f → Holds (facts x) e f
unfolding within Holds facts
within_holds x NotReached e f h k = absurd k
within_holds Unreached (Known v g a) e f h k = cc
within_holds (Claimed vs fs n) (Known v g a) e f h k =
    let both = and_parts (list_all v vs && list_all g fs) (nat_le n a) h in
    let names = and_parts (list_all v vs) (list_all g fs) both.0 in
    record {
      variables = λ t i s. k.variables t i (all_one v vs t names.0 s);
      job = λ s. k.job (all_one v vs job names.0 s);
      functions = λ t i s. k.functions t i (all_one g fs t names.1 s);
      parameters = let b : n ≤ a = leb-true n a both.1 in let m : a ≤ length f = k.parameters in omega arith;
    }

-- Gains

pub has_nothing : (e : Environment) (f : Frame) → Has no_gains e f
has_nothing e f = record { variables = λ t i h. cc; job = λ h. cc; functions = λ t i h. cc; parameters = omega arith }

pub has_grows : (g : Gains) (e e' : Environment) (f : Frame) → Grows e e' → Has g e f → Has g e' f
has_grows g e e' f k h = known_grows (is_one_of g.names) (λ t. false) g.args e e' f k h

pub one_of_both : (xs ys : List Text) (t : Text) → is_one_of (xs ++ ys) t ≡ true → (is_one_of xs t ≡ true) ⊎ (is_one_of ys t ≡ true)
one_of_both xs ys t h = or_cases (is_one_of xs t) (is_one_of ys t) (sym (list_any-append (λ n. bytes_eq n t) xs ys) ∙ h)

pub has_both : (g h : Gains) (e : Environment) (f : Frame) → Has g e f → Has h e f → Has (and_gains g h) e f
has_both g h e f a b = record {
  variables = λ t i s. elim (one_of_both g.names h.names t s) [ inl l ↦ a.variables t i l | inr r ↦ b.variables t i r ];
  job = λ s. elim (one_of_both g.names h.names job s) [ inl l ↦ a.job l | inr r ↦ b.job r ];
  functions = λ t i s. cc;
  parameters = let m : g.args ≤ length f = a.parameters in let n : h.args ≤ length f = b.parameters in omega arith;
}

pub has_first : (g h : Gains) (e : Environment) (f : Frame) → Has (and_gains g h) e f → Has g e f
has_first g h e f a = record {
  variables = λ t i s. a.variables t i (list_any-append (λ n. bytes_eq n t) g.names h.names ∙ or_left (is_one_of g.names t) (is_one_of h.names t) s);
  job = λ s. a.job (list_any-append (λ n. bytes_eq n job) g.names h.names ∙ or_left (is_one_of g.names job) (is_one_of h.names job) s);
  functions = λ t i s. cc;
  parameters = let m : max g.args h.args ≤ length f = a.parameters in omega arith;
}

pub has_second : (g h : Gains) (e : Environment) (f : Frame) → Has (and_gains g h) e f → Has h e f
has_second g h e f a = record {
  variables = λ t i s. a.variables t i (list_any-append (λ n. bytes_eq n t) g.names h.names ∙ or_right (is_one_of g.names t) (is_one_of h.names t) s);
  job = λ s. a.job (list_any-append (λ n. bytes_eq n job) g.names h.names ∙ or_right (is_one_of g.names job) (is_one_of h.names job) s);
  functions = λ t i s. cc;
  parameters = let m : max g.args h.args ≤ length f = a.parameters in omega arith;
}

-- facts with gains are true where both are
pub holds_with : (g : Gains) (x : Facts) (e : Environment) (f : Frame) → Has g e f → Holds x e f → Holds (with_gains g x) e f
unfolding Holds with_gains
holds_with g NotReached e f h k = k
holds_with g (Known v fs a) e f h k = record {
  variables = λ t i s. elim (or_cases (is_one_of g.names t) (v t) s) [ inl l ↦ h.variables t i l | inr r ↦ k.variables t i r ];
  job = λ s. elim (or_cases (is_one_of g.names job) (v job) s) [ inl l ↦ h.job l | inr r ↦ k.job r ];
  functions = k.functions;
  parameters = let m : g.args ≤ length f = h.parameters in let n : a ≤ length f = k.parameters in omega arith;
}

pub holds_without : (g : Gains) (x : Facts) (e : Environment) (f : Frame) → Holds (with_gains g x) e f → Holds x e f
unfolding Holds with_gains
holds_without g NotReached e f h = h
holds_without g (Known v fs a) e f h = record {
  variables = λ t i s. h.variables t i (or_right (is_one_of g.names t) (v t) s);
  job = λ s. h.job (or_right (is_one_of g.names job) (v job) s);
  functions = h.functions;
  parameters = let m : max a g.args ≤ length f = h.parameters in omega arith;
}

pub holds_gained : (g : Gains) (x : Facts) (e : Environment) (f : Frame) → Holds (with_gains g x) e f → Has g e f
unfolding Holds with_gains
holds_gained g NotReached e f h = absurd h
holds_gained g (Known v fs a) e f h = record {
  variables = λ t i s. h.variables t i (or_left (is_one_of g.names t) (v t) s);
  job = λ s. h.job (or_left (is_one_of g.names job) (v job) s);
  functions = λ t i s. cc;
  parameters = let m : max a g.args ≤ length f = h.parameters in omega arith;
}

-- What is seen

module _ (d : Facts) (c : Certificate) where
  pub steps_end : (xs : List Step) (x : Step) (y : Facts) → steps c (xs ++ x ∷ []) y ≡ step c x (steps c xs y)
  unfolding steps
  steps_end [] x y = refl
  steps_end (z ∷ xs) x y = steps_end xs x (step c z y)

  pub one_grows : (s : Seen) (e e' : Environment) (f : Frame) → Grows e e' → OneHolds d c s e f → OneHolds d c s e' f
  unfolding OneHolds
  one_grows [] e e' f g h = h
  one_grows (v ∷ vs) e e' f g (inl h) = inl (holds_grow (view_facts d c v) e e' f g h)
  one_grows (v ∷ vs) e e' f g (inr h) = inr (one_grows vs e e' f g h)

  -- one of more ways
  pub one_left : (s s' : Seen) (e : Environment) (f : Frame) → OneHolds d c s e f → OneHolds d c (s ++ s') e f
  unfolding OneHolds
  one_left [] s' e f h = absurd h
  one_left (v ∷ vs) s' e f (inl h) = inl h
  one_left (v ∷ vs) s' e f (inr h) = inr (one_left vs s' e f h)

  pub one_right : (s s' : Seen) (e : Environment) (f : Frame) → OneHolds d c s' e f → OneHolds d c (s ++ s') e f
  unfolding OneHolds
  one_right [] s' e f h = h
  one_right (v ∷ vs) s' e f h = inr (one_right vs s' e f h)

  -- a claim that covers what is seen is true
  pub covers_hold : (slot : Slot) (s : Seen) (e : Environment) (f : Frame) → Covers d c slot s → OneHolds d c s e f → Holds (facts (c.claim slot)) e f
  unfolding OneHolds i.Each
  covers_hold slot [] e f h k = absurd k
  covers_hold slot (v ∷ vs) e f h (inl k) = within_holds (c.claim slot) (view_facts d c v) e f h.0 k
  covers_hold slot (v ∷ vs) e f h (inr k) = covers_hold slot vs e f h.1 k

  -- at one place its claim is what is known
  pub at_holds : (slot : Slot) (e : Environment) (f : Frame) → Holds (facts (c.claim slot)) e f → OneHolds d c (at slot) e f
  unfolding OneHolds steps source_facts
  at_holds slot e f h = inl h

  pub holds_at : (slot : Slot) (e : Environment) (f : Frame) → OneHolds d c (at slot) e f → Holds (facts (c.claim slot)) e f
  unfolding OneHolds steps source_facts
  holds_at slot e f (inl h) = h
  holds_at slot e f (inr h) = absurd h

  pub covers_at : (slot : Slot) (s : Seen) → Covers d c slot s → Entails d c s (at slot)
  covers_at slot s h e f k = at_holds slot e f (covers_hold slot s e f h k)

  -- after one more step
  pub one_stepped : (x : Step) (s : Seen) (e e' : Environment) (f f' : Frame)
      → ((y : Facts) → Holds y e f → Holds (step c x y) e' f') → OneHolds d c s e f → OneHolds d c (stepped x s) e' f'
  unfolding OneHolds
  one_stepped x [] e e' f f' g h = h
  one_stepped x (v ∷ vs) e e' f f' g (inl h) = inl (subst (λ y. Holds y e' f') (sym (steps_end v.steps x (source_facts d c v.source))) (g (view_facts d c v) h))
  one_stepped x (v ∷ vs) e e' f f' g (inr h) = inr (one_stepped x vs e e' f f' g h)

  -- and back
  pub stepped_one : (x : Step) (s : Seen) (e : Environment) (f : Frame)
      → ((y : Facts) → Holds (step c x y) e f → Holds y e f) → OneHolds d c (stepped x s) e f → OneHolds d c s e f
  unfolding OneHolds
  stepped_one x [] e f g h = h
  stepped_one x (v ∷ vs) e f g (inl h) = inl (g (view_facts d c v) (subst (λ y. Holds y e f) (steps_end v.steps x (source_facts d c v.source)) h))
  stepped_one x (v ∷ vs) e f g (inr h) = inr (stepped_one x vs e f g h)

  stepped_has : (g : Gains) (s : Seen) (e : Environment) (f : Frame) → OneHolds d c (gaining g s) e f → Has g e f
  unfolding OneHolds step
  stepped_has g [] e f h = absurd h
  stepped_has g (v ∷ vs) e f (inl h) = holds_gained g (view_facts d c v) e f (subst (λ y. Holds y e f) (steps_end v.steps (Gain g) (source_facts d c v.source)) h)
  stepped_has g (v ∷ vs) e f (inr h) = stepped_has g vs e f h

  pub gain_holds : (g : Gains) (s : Seen) (e : Environment) (f : Frame) → Has g e f → OneHolds d c s e f → OneHolds d c (gaining g s) e f
  unfolding step
  gain_holds g s e f h k = one_stepped (Gain g) s e e f f (λ y a. holds_with g y e f h a) k

  pub holds_gain : (g : Gains) (s : Seen) → Entails d c (gaining g s) s
  unfolding step
  holds_gain g s e f k = stepped_one (Gain g) s e f (λ y a. holds_without g y e f a) k

  pub has_gain : (g : Gains) (s : Seen) (e : Environment) (f : Frame) → OneHolds d c (gaining g s) e f → Has g e f
  has_gain g s e f k = stepped_has g s e f k

  -- By the last status

  pub any_holds : (status : ℕ) (o : After) (e : Environment) (f : Frame) → AfterHolds d c status o e f → OneHolds d c (in_any_case o) e f
  unfolding if_zero if_nonzero in_any_case
  any_holds status (Both s) e f h = go (status == 0) h
    where
      go : (b : Bool) → OneHolds d c (if b then s else s) e f → OneHolds d c s e f
      go true k = k
      go false k = k
  any_holds status (Each z n) e f h = go (status == 0) h
    where
      go : (b : Bool) → OneHolds d c (if b then z else n) e f → OneHolds d c (z ++ n) e f
      go true k = one_left z n e f k
      go false k = one_right z n e f k

  pub both_holds : (status : ℕ) (s : Seen) (e : Environment) (f : Frame) → OneHolds d c s e f → AfterHolds d c status (Both s) e f
  unfolding if_zero if_nonzero
  both_holds status s e f h = go (status == 0)
    where
      go : (b : Bool) → OneHolds d c (if b then s else s) e f
      go true = h
      go false = h

  -- whatever the status was
  pub leads_any : (o : After) → Leads d c o (Both (in_any_case o))
  leads_any o status e f h = both_holds status (in_any_case o) e f (any_holds status o e f h)

  pub leads_both : (s s' : Seen) → Entails d c s s' → Leads d c (Both s) (Both s')
  unfolding in_any_case
  leads_both s s' k status e f h = both_holds status s' e f (k e f (any_holds status (Both s) e f h))

  -- by cases of the status
  pub leads_each : (o o' : After) → Entails d c (if_zero o) (if_zero o') → Entails d c (if_nonzero o) (if_nonzero o') → Leads d c o o'
  leads_each o o' z n status e f h = go (status == 0) h
    where
      go : (b : Bool) → OneHolds d c (if b then if_zero o else if_nonzero o) e f → OneHolds d c (if b then if_zero o' else if_nonzero o') e f
      go true k = z e f k
      go false k = n e f k

  -- what a command claims afterwards is true where its rule is met
  pub leaves_lead : (n : ℕ) (o : After) → Leaves d c n o → Leads d c o (after_command n)
  unfolding if_zero if_nonzero
  leaves_lead n o h = leads_each o (after_command n) (covers_at (AfterZero n) (if_zero o) h.zero) (covers_at (AfterNonzero n) (if_nonzero o) h.nonzero)

  pub leads_trans : (a b o : After) → Leads d c a b → Leads d c b o → Leads d c a o
  leads_trans a b o h k status e f x = k status e f (h status e f x)

  pub after_grows : (status : ℕ) (o : After) (e e' : Environment) (f : Frame) → Grows e e' → AfterHolds d c status o e f → AfterHolds d c status o e' f
  after_grows status o e e' f g h = one_grows (if status == 0 then if_zero o else if_nonzero o) e e' f g h
