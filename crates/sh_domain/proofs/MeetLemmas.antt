-- What is seen at several places is the meet of what is seen at each.
use Rattle.std.proofs.Common.{◌≡◌, ℕ, ◌*◌, ◌≤◌, min, Bool, true, false, not, ◌&&◌, ◌||◌, List, [], ◌∷◌, ◌++◌, inl, inr, refl, sym, ◌∙◌, ap, ap₂, arith, true≢false}
use Rattle.std.specs.Str.{bytes_eq}
use Rattle.std.proofs.Math.Nat.{mul-le-mul_left}
use Rattle.std.proofs.Math.Path.{fun_ext}
use Rattle.std.proofs.lemmas.Bool.{cases_lt}
use Rattle.sh_tree.specs.standard.program.Syntax.{Text}
use Rattle.sh_runs.specs.standard.runs.Environment.{is_one_of}
use Rattle.sh_domain.specs.Facts.{Facts, NotReached, Known, meet}
use Rattle.sh_domain.specs.Gains.{Gains, with_gains}
use Rattle.sh_domain.specs.Inclusions.{Each}
use Rattle.sh_domain.specs.Meets.{is_call, SeenIsMeet}
use Rattle.sh_domain.specs.Operands.{Total}
use Rattle.sh_domain.specs.Order.{IsWithin, seen_facts}
use Rattle.sh_domain.specs.Views.{Certificate, Step, Gain, Define, Lose, Count, Shift, Call, Seen, stepped, where_known, counted_by, step, steps, source_facts, view_facts}
use Rattle.sh_domain.proofs.OrderLemmas.{within_nowhere, within_through, within_same, meet_first, meet_second, meet_greatest}

-- Meets

meet_nowhere : (f : Facts) → meet f NotReached ≡ f
unfolding meet
meet_nowhere NotReached = refl
meet_nowhere (Known v f a) = refl

nowhere_meet : (f : Facts) → f ≡ meet NotReached f
unfolding meet
nowhere_meet f = refl

meet_over : (f g h : Facts) → meet (meet f g) h ≡ meet f (meet g h)
meet_over f g h =
    within_same _ _
    (meet_greatest f (meet g h) _ (within_through _ _ _ (meet_first (meet f g) h) (meet_first f g))
    (meet_greatest g h _ (within_through _ _ _ (meet_first (meet f g) h) (meet_second f g)) (meet_second (meet f g) h)))
    (meet_greatest (meet f g) h _
    (meet_greatest f g _ (meet_first f (meet g h)) (within_through _ _ _ (meet_second f (meet g h)) (meet_first g h)))
    (within_through _ _ _ (meet_second f (meet g h)) (meet_second g h)))

-- Steps after a meet

pub known_same : (v w f g : Text → Bool) (a b : ℕ) → ((x : Text) → v x ≡ w x) → ((x : Text) → f x ≡ g x) → a ≡ b → Known v f a ≡ Known w g b
known_same v w f g a b p q e = let vars = fun_ext p in let functions = fun_ext q in cc

-- a step that is known by its parts
record Apart (step : (Text → Bool) → (Text → Bool) → ℕ → Facts) : Type 0 where
  apart : (v w f g : Text → Bool) (a b : ℕ) → step (λ x. v x && w x) (λ x. f x && g x) (min a b) ≡ meet (step v f a) (step w g b)

where_apart : (p : (Text → Bool) → (Text → Bool) → ℕ → Facts) → Apart p → (f g : Facts) → where_known p (meet f g) ≡ meet (where_known p f) (where_known p g)
unfolding where_known meet
where_apart p h NotReached g = refl
where_apart p h (Known v f a) NotReached = sym (meet_nowhere _)
where_apart p h (Known v f a) (Known w g b) = h.apart v w f g a b

or_both : (a b c : Bool) → (a || (b && c)) ≡ ((a || b) && (a || c))
or_both true b c = refl
or_both false b c = refl

and_both : (a b c : Bool) → ((b && c) && a) ≡ ((b && a) && (c && a))
and_both true true c = refl
and_both true false c = refl
and_both false true true = refl
and_both false true false = refl
and_both false false c = refl

with_apart : (x : Gains) (f g : Facts) → with_gains x (meet f g) ≡ meet (with_gains x f) (with_gains x g)
unfolding with_gains meet
with_apart x NotReached g = refl
with_apart x (Known v f a) NotReached = sym (meet_nowhere _)
with_apart x (Known v f a) (Known w g b) = known_same _ _ _ _ _ _ (λ y. or_both (is_one_of x.names y) (v y) (w y)) (λ y. refl) (omega arith)

counted_apart : (n : Total) (a b : ℕ) → counted_by n (min a b) ≡ min (counted_by n a) (counted_by n b)
counted_apart n a b = elim (cases_lt a b) [
  | inl l ↦ let less : n.parameters * a ≤ n.parameters * b = mul-le-mul_left n.parameters (omega arith) in let first : min a b ≡ a = omega arith in rw first (omega arith)
  | inr l ↦ let less : n.parameters * b ≤ n.parameters * a = mul-le-mul_left n.parameters l in let second : min a b ≡ b = omega arith in rw second (omega arith)
]

step_apart : (c : Certificate) (x : Step) (f g : Facts) → is_call x ≡ false → step c x (meet f g) ≡ meet (step c x f) (step c x g)
unfolding step is_call meet
step_apart c (Gain x) f g e = with_apart x f g
step_apart c (Define name) f g e =
    where_apart _ (record { apart = λ v w h k a b. known_same _ _ _ _ _ _ (λ y. refl) (λ y. or_both (bytes_eq name y) (h y) (k y)) refl }) f g
step_apart c (Lose names) f g e =
    where_apart _
    (record {
      apart = λ v w h k a b. known_same _ _ _ _ _ _ (λ y. and_both (not (is_one_of names.vars y)) (v y) (w y)) (λ y. and_both (not (is_one_of names.functions y)) (h y) (k y)) refl;
    })
    f g
step_apart c (Count n) f g e = where_apart _ (record { apart = λ v w h k a b. known_same _ _ _ _ _ _ (λ y. refl) (λ y. refl) (counted_apart n a b) }) f g
step_apart c (Shift n) f g e = where_apart _ (record { apart = λ v w h k a b. known_same _ _ _ _ _ _ (λ y. refl) (λ y. refl) (omega arith) }) f g
step_apart c (Call function return prefixes) f g e = absurd (true≢false e)

step_nowhere : (c : Certificate) (x : Step) → is_call x ≡ false → step c x NotReached ≡ NotReached
unfolding step is_call with_gains where_known
step_nowhere c (Gain x) e = refl
step_nowhere c (Define name) e = refl
step_nowhere c (Lose names) e = refl
step_nowhere c (Count n) e = refl
step_nowhere c (Shift n) e = refl
step_nowhere c (Call function return prefixes) e = absurd (true≢false e)

-- Views

steps_more : (c : Certificate) (xs : List Step) (x : Step) (f : Facts) → steps c (xs ++ x ∷ []) f ≡ step c x (steps c xs f)
unfolding steps
steps_more c [] x f = refl
steps_more c (y ∷ xs) x f = steps_more c xs x (step c y f)

each_to : (start : Facts) (c : Certificate) (f : Facts) (s : Seen) → IsWithin f (seen_facts start c s) → Each (λ v. IsWithin f (view_facts start c v)) s
unfolding Each seen_facts
each_to start c f [] h = tt
each_to start c f (v ∷ s) h = (within_through _ _ _ h (meet_first _ _), each_to start c f s (within_through _ _ _ h (meet_second _ _)))

each_from : (start : Facts) (c : Certificate) (f : Facts) (s : Seen) → Each (λ v. IsWithin f (view_facts start c v)) s → IsWithin f (seen_facts start c s)
unfolding Each seen_facts
each_from start c f [] h = within_nowhere f
each_from start c f (v ∷ s) h = meet_greatest _ _ f h.0 (each_from start c f s h.1)

seen_joined : (start : Facts) (c : Certificate) (s t : Seen) → seen_facts start c (s ++ t) ≡ meet (seen_facts start c s) (seen_facts start c t)
unfolding seen_facts
seen_joined start c [] t = nowhere_meet (seen_facts start c t)
seen_joined start c (v ∷ s) t = ap (meet (view_facts start c v)) (seen_joined start c s t) ∙ sym (meet_over (view_facts start c v) (seen_facts start c s) (seen_facts start c t))

seen_behind : (start : Facts) (c : Certificate) (x : Step) (s : Seen) → is_call x ≡ false → seen_facts start c (stepped x s) ≡ step c x (seen_facts start c s)
unfolding seen_facts
seen_behind start c x [] e = sym (step_nowhere c x e)
seen_behind start c x (v ∷ s) e =
    ap₂ meet (steps_more c v.steps x (source_facts start c v.source)) (seen_behind start c x s e) ∙ sym (step_apart c x (view_facts start c v) (seen_facts start c s) e)

pub seen_is_meet : SeenIsMeet
seen_is_meet = record { each = λ start c f s. (each_to start c f s, each_from start c f s); joined = seen_joined; behind = seen_behind }
