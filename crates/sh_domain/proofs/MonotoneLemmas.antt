-- If more is claimed and less dropped, what the rules allow is more.
use Rattle.std.proofs.Common.{◌≡◌, ℕ, ◌*◌, ◌≤◌, Bool, true, false, cond, not, ◌&&◌, ◌||◌, if◌then◌else◌, List, [], ◌∷◌, refl, sym, arith, true≢false}
use Rattle.std.specs.List.{filter}
use Rattle.std.specs.Str.{bytes_eq}
use Rattle.std.proofs.Math.Nat.{mul-le-mul_left}
use Rattle.std.proofs.lemmas.Bool.{and_parts, and_from, or_left, or_right}
use Rattle.sh_tree.specs.standard.program.Syntax.{Text}
use Rattle.sh_runs.specs.standard.runs.Environment.{is_one_of}
use Rattle.sh_domain.specs.declared.rule.FlowRule.{FlowRule}
use Rattle.sh_domain.specs.Facts.{Facts, NotReached, Known, meet, Variable, claims}
use Rattle.sh_domain.specs.Faults.{told, broken}
use Rattle.sh_domain.specs.Gains.{Gains, with_gains}
use Rattle.sh_domain.specs.Operands.{Names}
use Rattle.sh_domain.specs.Order.{IsWithin, AreAmong, seen_facts, IsBelow, Fits, Monotone}
use Rattle.sh_domain.specs.Rules.{Constraint, Within, Counted}
use Rattle.sh_domain.specs.Views.{Certificate, Before, Step, Gain, Define, Lose, Count, Shift, Call, Source, Start, At, View, Seen, where_known, kept, passes, returned, called, step, steps, source_facts, view_facts, Loss, OfNames, OfFunction, OfUnseen, where_reached, lost}
use Rattle.sh_domain.proofs.OrderLemmas.{known_within, Parts, known_parts, within_nowhere, nowhere_known, within_itself, within_through, within_test, among_test, meet_first, meet_second, meet_greatest}

-- Tests

or_grows : (a b c d : Bool) → (a ≡ true → c ≡ true) → (b ≡ true → d ≡ true) → (a || b) ≡ true → (c || d) ≡ true
or_grows true b c d h k e = or_left c d (h refl)
or_grows false b c d h k e = or_right c d (k e)

and_grows : (a b c d : Bool) → (a ≡ true → c ≡ true) → (b ≡ true → d ≡ true) → (a && b) ≡ true → (c && d) ≡ true
and_grows a b c d h k e = let both = and_parts a b e in and_from c d (h both.0) (k both.1)

not_falls : (a b : Bool) → (a ≡ true → b ≡ true) → not b ≡ true → not a ≡ true
not_falls false b h e = refl
not_falls true true h e = e
not_falls true false h e = absurd (true≢false (sym (h refl)))

-- Steps

-- of known facts, which are within those of what is known more
where_grows : (p q : (Text → Bool) → (Text → Bool) → ℕ → Facts)
    → ((v w f g : Text → Bool) (a b : ℕ) → Parts v w f g a b → IsWithin (p v f a) (q w g b)) → (f g : Facts) → IsWithin f g → IsWithin (where_known p f) (where_known q g)
unfolding where_known
where_grows p q h f NotReached k = within_nowhere _
where_grows p q h NotReached (Known w g b) k = absurd (nowhere_known w g b k)
where_grows p q h (Known v f a) (Known w g b) k = h v w f g a b (known_parts v w f g a b k)

with_grows : (x : Gains) (f g : Facts) → IsWithin f g → IsWithin (with_gains x f) (with_gains x g)
unfolding with_gains
with_grows x f NotReached k = within_nowhere _
with_grows x NotReached (Known w g b) k = absurd (nowhere_known w g b k)
with_grows x (Known v f a) (Known w g b) k =
    let parts = known_parts v w f g a b k in
    known_within _ _ _ _ _ _ (λ y. or_grows _ (v y) _ (w y) (λ e. e) (parts.vars y)) parts.functions (omega (arith, parts.args))

kept_grows : (m n : List Text) (v w : Text → Bool) → ((x : Text) → is_one_of n x ≡ true → is_one_of m x ≡ true) → ((x : Text) → v x ≡ true → w x ≡ true) → (x : Text) → kept m v x ≡ true → kept n w x ≡ true
kept_grows m n v w h k x = and_grows (v x) _ (w x) _ (k x) (not_falls (is_one_of n x) (is_one_of m x) (h x))

returned_grows : (m n : Names) (names : List Text) (r s : Facts) (v w f g : Text → Bool) (a b : ℕ) → AreAmong n m → IsWithin r s → Parts v w f g a b
    → IsWithin (returned m names r v f a) (returned n names s w g b)
unfolding returned
returned_grows m n names r NotReached v w f g a b h k parts = within_nowhere _
returned_grows m n names NotReached (Known y z c) v w f g a b h k parts = absurd (nowhere_known y z c k)
returned_grows m n names (Known t u d) (Known y z c) v w f g a b h k parts =
    let at_return = known_parts t y u z d c k in
    known_within _ _ _ _ _ _
    (λ x. and_grows _ _ _ _ (or_grows _ (t x) _ (y x) (kept_grows m.vars n.vars v w h.vars parts.vars x) (at_return.vars x)) (or_grows (v x) _ (w x) _ (parts.vars x) (λ e. e)))
    (λ x. or_grows _ (u x) _ (z x) (kept_grows m.functions n.functions f g h.functions parts.functions x) (at_return.functions x))
    parts.args

-- a built-in utility that may run keeps no more than the function where it returns
returned_more : (m n : Names) (function : Text) (names : List Text) (s : Facts) (v w f g : Text → Bool) (a b : ℕ) → AreAmong n m → Parts v w f g a b
    → IsWithin (Known (λ x. kept m.vars v x && passes function x) (λ x. kept m.functions f x) a) (returned n names s w g b)
unfolding returned
returned_more m n function names NotReached v w f g a b h parts = within_nowhere _
returned_more m n function names (Known y z c) v w f g a b h parts =
    known_within _ _ _ _ _ _
    (λ x e.
    let keeps = (and_parts (kept m.vars v x) (passes function x) e).0 in
    and_from _ _ (or_left _ (y x) (kept_grows m.vars n.vars v w h.vars parts.vars x keeps)) (or_left (w x) _ (parts.vars x (and_parts (v x) _ keeps).0)))
    (λ x e. or_left _ (z x) (kept_grows m.functions n.functions f g h.functions parts.functions x e))
    parts.args

called_grows : (m n : Names) (r s : Facts) (function : Text) (names : List Text) (f g : Facts) → AreAmong n m → IsWithin r s → IsWithin f g
    → IsWithin (called m r function names f) (called n s function names g)
unfolding called
called_grows m n r s function names f g h k = where_grows _ _ (λ v w f g a b parts. go v w f g a b parts (f function) (g function) (parts.functions function)) f g
  where
    unsure : Names → (Text → Bool) → (Text → Bool) → ℕ → Facts
    unsure d v f a = Known (λ x. kept d.vars v x && passes function x) (λ x. kept d.functions f x) a

    go : (v w f g : Text → Bool) (a b : ℕ) → Parts v w f g a b → (p q : Bool) → (p ≡ true → q ≡ true)
        → IsWithin (if p then returned m names r v f a else unsure m v f a) (if q then returned n names s w g b else unsure n w g b)
    go v w f g a b parts true true e = returned_grows m n names r s v w f g a b h k parts
    go v w f g a b parts true false e = absurd (true≢false (sym (e refl)))
    go v w f g a b parts false true e = returned_more m n function names s v w f g a b h parts
    go v w f g a b parts false false e =
        known_within _ _ _ _ _ _ (λ x. and_grows _ (passes function x) _ (passes function x) (kept_grows m.vars n.vars v w h.vars parts.vars x) (λ d. d))
        (kept_grows m.functions n.functions f g h.functions parts.functions) parts.args

mul_grows : (k a b : ℕ) → a ≤ b → k * a ≤ k * b
mul_grows k a b h = mul-le-mul_left k h

pub step_grows : (c d : Certificate) (x : Step) (f g : Facts) → IsBelow c d → IsWithin f g → IsWithin (step c x f) (step d x g)
unfolding step
step_grows c d (Gain names) f g below k = with_grows names f g k
step_grows c d (Define name) f g below k =
    where_grows _ _ (λ v w f g a b parts. known_within _ _ _ _ _ _ parts.vars (λ x. or_grows _ (f x) _ (g x) (λ e. e) (parts.functions x)) parts.args) f g k
step_grows c d (Lose names) f g below k =
    where_grows _ _
    (λ v w f g a b parts.
    known_within _ _ _ _ _ _ (kept_grows names.vars names.vars v w (λ x e. e) parts.vars) (kept_grows names.functions names.functions f g (λ x e. e) parts.functions) parts.args)
    f g k
step_grows c d (Count n) f g below k =
    where_grows _ _ (λ v w f g a b parts. let more = mul_grows n.parameters a b parts.args in known_within _ _ _ _ _ _ parts.vars parts.functions (omega (arith, more))) f g k
step_grows c d (Shift n) f g below k = where_grows _ _ (λ v w f g a b parts. known_within _ _ _ _ _ _ parts.vars parts.functions (omega (arith, parts.args))) f g k
step_grows c d (Call function return names) f g below k = called_grows _ _ _ _ function names f g (below.dropped function) (below.claimed return) k

-- Views

pub steps_grow : (c d : Certificate) (xs : List Step) (f g : Facts) → IsBelow c d → IsWithin f g → IsWithin (steps c xs f) (steps d xs g)
unfolding steps
steps_grow c d [] f g below k = k
steps_grow c d (x ∷ xs) f g below k = steps_grow c d xs _ _ below (step_grows c d x f g below k)

source_grows : (start : Facts) (c d : Certificate) (s : Source) → IsBelow c d → IsWithin (source_facts start c s) (source_facts start d s)
unfolding source_facts
source_grows start c d Start below = within_itself _
source_grows start c d (At slot) below = below.claimed slot

pub view_grows : (start : Facts) (c d : Certificate) (v : View) → IsBelow c d → IsWithin (view_facts start c v) (view_facts start d v)
view_grows start c d v below = steps_grow c d v.steps _ _ below (source_grows start c d v.source below)

pub meet_grows : (f g h k : Facts) → IsWithin f h → IsWithin g k → IsWithin (meet f g) (meet h k)
meet_grows f g h k p q = meet_greatest h k _ (within_through _ f h (meet_first f g) p) (within_through _ g k (meet_second f g) q)

pub seen_grows : (start : Facts) (c d : Certificate) (s : Seen) → IsBelow c d → IsWithin (seen_facts start c s) (seen_facts start d s)
unfolding seen_facts
seen_grows start c d [] below = within_itself _
seen_grows start c d (v ∷ s) below = meet_grows _ _ _ _ (view_grows start c d v below) (seen_grows start c d s below)

-- Drops

among_itself : (a : Names) → AreAmong a a
among_itself a = record { vars = λ x e. e; functions = λ x e. e }

none_among : (a : Names) → AreAmong (record { vars = []; functions = [] }) a
none_among a = record { vars = λ x e. absurd (true≢false (sym e)); functions = λ x e. absurd (true≢false (sym e)) }

reached_falls : (f g : Facts) (m n : Names) → IsWithin f g → AreAmong n m → AreAmong (where_reached g n) (where_reached f m)
unfolding where_reached
reached_falls f NotReached m n k h = none_among _
reached_falls NotReached (Known w g b) m n k h = absurd (nowhere_known w g b k)
reached_falls (Known v f a) (Known w g b) m n k h = h

-- what a weaker test leaves is among what another leaves
filter_falls : (p q : Text → Bool) → ((x : Text) → q x ≡ true → p x ≡ true) → (names : List Text) (x : Text) → is_one_of (filter q names) x ≡ true → is_one_of (filter p names) x ≡ true
filter_falls p q h [] x e = e
filter_falls p q h (n ∷ names) x e = go (q n) (p n) (h n) e (filter_falls p q h names x)
  where
    go : (s t : Bool) → (s ≡ true → t ≡ true) → is_one_of (cond s (n ∷ filter q names) (filter q names)) x ≡ true
        → (is_one_of (filter q names) x ≡ true → is_one_of (filter p names) x ≡ true) → is_one_of (cond t (n ∷ filter p names) (filter p names)) x ≡ true
    go true true f d rest = or_grows (bytes_eq n x) _ (bytes_eq n x) _ (λ e. e) rest d
    go true false f d rest = absurd (true≢false (sym (f refl)))
    go false true f d rest = or_right (bytes_eq n x) _ (rest d)
    go false false f d rest = rest d

pub loss_falls : (start : Facts) (c d : Certificate) (n : ℕ) (l : Loss) → IsBelow c d → AreAmong (lost start d n l) (lost start c n l)
unfolding lost
loss_falls start c d n (OfNames names) below = reached_falls _ _ names names (below.claimed (Before n)) (among_itself names)
loss_falls start c d n (OfFunction function) below = reached_falls _ _ _ _ (below.claimed (Before n)) (below.dropped function)
loss_falls start c d n (OfUnseen vars v) below = record {
  vars = filter_falls _ _ (λ x. not_falls (claims (view_facts start c v) (Variable x)) (claims (view_facts start d v) (Variable x)) ((view_grows start c d v below).claimed (Variable x))) vars;
  functions = λ x e. e;
}

among_through : (a b c : Names) → AreAmong a b → AreAmong b c → AreAmong a c
among_through a b c h k = record { vars = λ x e. k.vars x (h.vars x e); functions = λ x e. k.functions x (h.functions x e) }

-- a test that reports nothing holds
pub told_none : (b : Bool) (n : ℕ) (rule : FlowRule) → told b n rule ≡ [] → b ≡ true
unfolding told
told_none true n rule e = refl
told_none false n rule e = cc

pub fits_below : (start : Facts) (c d : Certificate) (k : Constraint) → IsBelow c d → broken start c k ≡ [] → Fits start c d k
unfolding broken Fits
fits_below start c d (Within slot n rule v) below e = within_through _ _ _ ((within_test (c.claim slot) (view_facts start c v)).0 (told_none _ n rule e)) (view_grows start c d v below)
fits_below start c d (Counted function n loss) below e = among_through _ _ _ (loss_falls start c d n loss below) ((among_test _ _).0 (told_none _ n _ e))

pub monotone : Monotone
monotone = record { step = step_grows; view = view_grows; seen = seen_grows; loss = loss_falls; fits = fits_below }
