-- The order of facts, and monotonicity.
use Rattle.std.proofs.Common.{◌≡◌, ℕ, ◌≤◌, Bool, true, false, ◌&&◌, List, [], ◌∷◌, ◌↔◌, refl, sym, subst, arith, le-leb, leb-true, true≢false, inl, inr}
use Rattle.std.specs.Prelude.{nat_le}
use Rattle.std.proofs.Math.Path.{fun_ext}
use Rattle.std.specs.List.{list_all}
use Rattle.std.specs.Str.{bytes_eq}
use Rattle.std.proofs.lemmas.Bool.{and_parts, and_from, or_left, or_right, cases_Bool}
use Rattle.std.proofs.lemmas.Slice.Eq.{bytes_eq-Decides}
use Rattle.sh_tree.specs.standard.program.Syntax.{Text}
use Rattle.sh_tree.proofs.ListLemmas.{text_same}
use Rattle.sh_runs.specs.standard.runs.Environment.{is_one_of}
use Rattle.sh_domain.specs.Facts.{Facts, NotReached, Known, Claim, Unreached, Claimed, facts, within, meet, Nowhere, Variable, Function, Parameters, claims}
use Rattle.sh_domain.specs.Faults.{are_among}
use Rattle.sh_domain.specs.Operands.{Names}
use Rattle.sh_domain.specs.Order.{IsWithin, AreAmong, Ordered}

-- Known facts, by their parts

pub known_within : (v w f g : Text → Bool) (a b : ℕ) → ((x : Text) → v x ≡ true → w x ≡ true) → ((x : Text) → f x ≡ true → g x ≡ true) → a ≤ b → IsWithin (Known v f a) (Known w g b)
unfolding claims
known_within v w f g a b h k l = record { claimed = λ x. by_atom x }
  where
    by_atom : (x : _) → claims (Known v f a) x ≡ true → claims (Known w g b) x ≡ true
    by_atom Nowhere e = e
    by_atom (Variable x) e = h x e
    by_atom (Function x) e = k x e
    by_atom (Parameters n) e = let m : n ≤ a = leb-true n a e in le-leb n b (omega arith)

pub record Parts (v w f g : Text → Bool) (a b : ℕ) : Type 0 where
  pub vars : (x : Text) → v x ≡ true → w x ≡ true
  pub functions : (x : Text) → f x ≡ true → g x ≡ true
  pub args : a ≤ b

pub known_parts : (v w f g : Text → Bool) (a b : ℕ) → IsWithin (Known v f a) (Known w g b) → Parts v w f g a b
unfolding claims
known_parts v w f g a b h = record {
  vars = λ x. h.claimed (Variable x);
  functions = λ x. h.claimed (Function x);
  args = leb-true a b (h.claimed (Parameters a) (le-leb a a (omega arith)));
}

pub within_nowhere : (f : Facts) → IsWithin f NotReached
unfolding claims
within_nowhere f = record { claimed = λ x e. refl }

pub nowhere_known : (v f : Text → Bool) (a : ℕ) → IsWithin NotReached (Known v f a) → ⊥
unfolding claims
nowhere_known v f a h = true≢false (sym (h.claimed Nowhere refl))

-- An order

pub within_itself : (f : Facts) → IsWithin f f
within_itself f = record { claimed = λ x e. e }

pub within_through : (f g h : Facts) → IsWithin f g → IsWithin g h → IsWithin f h
within_through f g h p q = record { claimed = λ x e. q.claimed x (p.claimed x e) }

same_tests : (v w : Text → Bool) → ((x : Text) → v x ≡ true → w x ≡ true) → ((x : Text) → w x ≡ true → v x ≡ true) → v ≡ w
same_tests v w h k = fun_ext (λ x. one (v x) (w x) (h x) (k x))
  where
    one : (a b : Bool) → (a ≡ true → b ≡ true) → (b ≡ true → a ≡ true) → a ≡ b
    one true b h k = sym (h refl)
    one false true h k = k refl
    one false false h k = refl

pub within_same : (f g : Facts) → IsWithin f g → IsWithin g f → f ≡ g
within_same NotReached NotReached p q = refl
within_same NotReached (Known w g b) p q = absurd (nowhere_known w g b p)
within_same (Known v f a) NotReached p q = absurd (nowhere_known v f a q)
within_same (Known v f a) (Known w g b) p q =
    let h = known_parts v w f g a b p in
    let k = known_parts w v g f b a q in
    let vars = same_tests v w h.vars k.vars in
    let functions = same_tests f g h.functions k.functions in
    let args : a ≡ b = omega (arith, h.args, k.args) in
    cc

pub meet_first : (f g : Facts) → IsWithin (meet f g) f
unfolding meet
meet_first NotReached g = within_nowhere g
meet_first (Known v f a) NotReached = within_itself _
meet_first (Known v f a) (Known w g b) = known_within _ _ _ _ _ _ (λ x e. (and_parts (v x) (w x) e).0) (λ x e. (and_parts (f x) (g x) e).0) (omega arith)

pub meet_second : (f g : Facts) → IsWithin (meet f g) g
unfolding meet
meet_second NotReached g = within_itself g
meet_second (Known v f a) NotReached = within_nowhere _
meet_second (Known v f a) (Known w g b) = known_within _ _ _ _ _ _ (λ x e. (and_parts (v x) (w x) e).1) (λ x e. (and_parts (f x) (g x) e).1) (omega arith)

pub meet_greatest : (f g h : Facts) → IsWithin h f → IsWithin h g → IsWithin h (meet f g)
unfolding meet
meet_greatest NotReached g h p q = q
meet_greatest (Known v f a) NotReached h p q = p
meet_greatest (Known v f a) (Known w g b) NotReached p q = absurd (nowhere_known v f a p)
meet_greatest (Known v f a) (Known w g b) (Known u h c) p q =
    let s = known_parts u v h f c a p in
    let t = known_parts u w h g c b q in
    known_within _ _ _ _ _ _ (λ x e. and_from (v x) (w x) (s.vars x e) (t.vars x e)) (λ x e. and_from (f x) (g x) (s.functions x e) (t.functions x e)) (omega (arith, s.args, t.args))

-- Lists of names

pub among_all : (v : Text → Bool) (names : List Text) → list_all v names ≡ true → (x : Text) → is_one_of names x ≡ true → v x ≡ true
among_all v [] h x e = absurd (true≢false (sym e))
among_all v (n ∷ names) h x e =
    let both = and_parts (v n) (list_all v names) h in
    elim (cases_Bool (bytes_eq n x)) [
      | inl s ↦ subst (λ y. v y ≡ true) ((bytes_eq-Decides n x).0 s) both.0
      | inr s ↦ among_all v names both.1 x (rw s at e)
    ]

pub all_among : (v : Text → Bool) (names : List Text) → ((x : Text) → is_one_of names x ≡ true → v x ≡ true) → list_all v names ≡ true
all_among v [] h = refl
all_among v (n ∷ names) h =
    and_from (v n) (list_all v names) (h n (or_left (bytes_eq n n) (is_one_of names n) (text_same n)))
    (all_among v names (λ x e. h x (or_right (bytes_eq n x) (is_one_of names x) e)))

pub within_test : (c : Claim) (f : Facts) → (within c f ≡ true) ↔ IsWithin (facts c) f
unfolding within facts
within_test c NotReached = (λ e. within_nowhere _, λ h. refl)
within_test Unreached (Known v f a) = (λ e. absurd (true≢false (sym e)), λ h. absurd (nowhere_known v f a h))
within_test (Claimed vs fs n) (Known v f a) = (
  λ e.
      let front = and_parts (list_all v vs && list_all f fs) (nat_le n a) e in
      let names = and_parts (list_all v vs) (list_all f fs) front.0 in
      known_within _ _ _ _ _ _ (among_all v vs names.0) (among_all f fs names.1) (leb-true n a front.1),
  λ h.
      let parts = known_parts _ _ _ _ _ _ h in
      and_from _ _ (and_from _ _ (all_among v vs parts.vars) (all_among f fs parts.functions)) (le-leb n a parts.args),
)

pub among_test : (a b : Names) → (are_among a b ≡ true) ↔ AreAmong a b
unfolding are_among
among_test a b = (
  λ e. let both = and_parts (list_all (is_one_of b.vars) a.vars) (list_all (is_one_of b.functions) a.functions) e in
      record { vars = among_all _ a.vars both.0; functions = among_all _ a.functions both.1 },
  λ h. and_from _ _ (all_among _ a.vars h.vars) (all_among _ a.functions h.functions),
)

pub ordered : Ordered
ordered = record {
  itself = within_itself;
  through = within_through;
  same = within_same;
  greatest = within_nowhere;
  meet_first = meet_first;
  meet_second = meet_second;
  meet_greatest = meet_greatest;
  test = within_test;
  names_test = among_test;
}
