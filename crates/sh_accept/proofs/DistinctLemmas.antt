-- Texts that are numbered, each once: as many as there are, in whatever order they came.
use Rattle.std.proofs.Common.{◌≡◌, ℕ, ◌≤◌, ◌+◌, Bool, true, false, not, ◌&&◌, ◌||◌, if◌then◌else◌, List, [], ◌∷◌, ◌++◌, length, refl, sym, ◌∙◌, ap, subst, arith}
use Rattle.std.specs.List.{fold}
use Rattle.std.specs.Str.{bytes_eq}
use Rattle.std.proofs.lemmas.Bool.{true≢false}
use Rattle.std.proofs.lemmas.List.Folds.{list_any-append}
use Rattle.std.proofs.lemmas.Slice.Eq.{bytes_eq-Decides}
use Rattle.sh_tree.specs.standard.program.Syntax.{Text}
use Rattle.sh_runs.specs.standard.runs.Environment.{is_one_of}
use Rattle.sh_domain.specs.Names.{with_text, are_distinct}

-- Tests

same : (t u : Text) → bytes_eq t u ≡ true → t ≡ u
same t u h = (bytes_eq-Decides t u).0 h

itself : (t : Text) → bytes_eq t t ≡ true
itself t = (bytes_eq-Decides t t).1 refl

-- Taking a text out

unfoldable without : Text → List Text → List Text
without t [] = []
without t (u ∷ us) = if bytes_eq u t then without t us else u ∷ without t us

unfoldable counts : Bool → ℕ
counts true = 1
counts false = 0

shorter_step : (b c : Bool) (t u : Text) (us vs : List Text) → length vs + counts c ≤ length us → length (if b then vs else u ∷ vs) + counts (b || c) ≤ length (u ∷ us)
unfolding counts
shorter_step true true t u us vs h = omega arith
shorter_step true false t u us vs h = omega arith
shorter_step false true t u us vs h = omega arith
shorter_step false false t u us vs h = omega arith

shorter : (t : Text) (us : List Text) → length (without t us) + counts (is_one_of us t) ≤ length us
unfolding without counts
shorter t [] = omega arith
shorter t (u ∷ us) = shorter_step (bytes_eq u t) (is_one_of us t) t u us (without t us) (shorter t us)

stays_step : (b : Bool) (t u v : Text) (us vs : List Text) → bytes_eq v t ≡ b → (b ≡ true → bytes_eq v u ≡ false) → is_one_of (v ∷ us) u ≡ true → (is_one_of us u ≡ true → is_one_of vs u ≡ true)
    → is_one_of (if b then vs else v ∷ vs) u ≡ true
stays_step true t u v us vs e apart h go = go (subst (λ c. (c || is_one_of us u) ≡ true) (apart refl) h)
stays_step false t u v us vs e apart h go = first (bytes_eq v u) refl
  where
    first : (c : Bool) → bytes_eq v u ≡ c → is_one_of (v ∷ vs) u ≡ true
    first true s = ap (λ x. x || is_one_of vs u) s
    first false s = ap (λ x. x || is_one_of vs u) s ∙ go (subst (λ x. (x || is_one_of us u) ≡ true) s h)

-- another text stays
stays : (t u : Text) (us : List Text) → bytes_eq t u ≡ false → is_one_of us u ≡ true → is_one_of (without t us) u ≡ true
unfolding without
stays t u [] d h = h
stays t u (v ∷ us) d h = stays_step (bytes_eq v t) t u v us (without t us) refl (λ e. subst (λ x. bytes_eq x u ≡ false) (sym (same v t e)) d) h (λ k. stays t u us d k)

-- As many

split : (a b : Bool) → (not a && b) ≡ true → (a ≡ false) × (b ≡ true)
split true b h = absurd (true≢false (sym h))
split false b h = (refl, h)

apart : (b : Bool) (x t : Text) (xs : List Text) → is_one_of xs x ≡ false → bytes_eq x t ≡ b → is_one_of xs t ≡ true → b ≡ false
apart true x t xs n e h = absurd (true≢false (sym h ∙ ap (is_one_of xs) (sym (same x t e)) ∙ n))
apart false x t xs n e h = refl

pub no_longer : (xs ys : List Text) → are_distinct xs ≡ true → ((t : Text) → is_one_of xs t ≡ true → is_one_of ys t ≡ true) → length xs ≤ length ys
unfolding are_distinct counts
no_longer [] ys d h = omega arith
no_longer (x ∷ xs) ys d h =
    let p = split (is_one_of xs x) (are_distinct xs) d in
    let there : is_one_of ys x ≡ true = h x (ap (λ b. b || is_one_of xs x) (itself x)) in
    let less : length (without x ys) + 1 ≤ length ys = subst (λ b. length (without x ys) + counts b ≤ length ys) there (shorter x ys) in
    let rest : length xs ≤ length (without x ys) =
    no_longer xs (without x ys) p.1 (λ t k. stays x t ys (apart (bytes_eq x t) x t xs p.0 refl k) (h t (behind (bytes_eq x t) (is_one_of xs t) k))) in
    omega arith
  where
    behind : (a b : Bool) → b ≡ true → (a || b) ≡ true
    behind true b k = refl
    behind false b k = k

-- Adding texts, each once

with_step : (b : Bool) (names : List Text) (t u : Text) → is_one_of names t ≡ b → is_one_of (if b then names else names ++ t ∷ []) u ≡ (is_one_of names u || bytes_eq t u)
with_step true names t u e = go (bytes_eq t u) refl
  where
    absorbs : (a : Bool) → a ≡ true → a ≡ (a || true)
    absorbs true h = refl
    absorbs false h = h

    drops : (a : Bool) → a ≡ (a || false)
    drops true = refl
    drops false = refl

    go : (c : Bool) → bytes_eq t u ≡ c → is_one_of names u ≡ (is_one_of names u || bytes_eq t u)
    go true s = absorbs (is_one_of names u) (ap (is_one_of names) (sym (same t u s)) ∙ e) ∙ ap (λ c. is_one_of names u || c) (sym s)
    go false s = drops (is_one_of names u) ∙ ap (λ c. is_one_of names u || c) (sym s)
with_step false names t u e = list_any-append (λ n. bytes_eq n u) names (t ∷ []) ∙ ap (λ c. is_one_of names u || c) (drops (bytes_eq t u))
  where
    drops : (a : Bool) → (a || false) ≡ a
    drops true = refl
    drops false = refl

or_assoc : (a b c : Bool) → ((a || b) || c) ≡ (a || (b || c))
or_assoc true b c = refl
or_assoc false b c = refl

pub in_fold : (names xs : List Text) (u : Text) → is_one_of (fold with_text names xs) u ≡ (is_one_of names u || is_one_of xs u)
in_fold names [] u = ends (is_one_of names u)
  where
    ends : (a : Bool) → a ≡ (a || false)
    ends true = refl
    ends false = refl
in_fold names (x ∷ xs) u =
    in_fold (with_text names x) xs u
    ∙ ap (λ c. c || is_one_of xs u) (with_step (is_one_of names x) names x u refl)
    ∙ or_assoc (is_one_of names u) (bytes_eq x u) (is_one_of xs u)

pushed : (names : List Text) (t : Text) → is_one_of names t ≡ false → are_distinct names ≡ true → are_distinct (names ++ t ∷ []) ≡ true
unfolding are_distinct
pushed [] t n d = refl
pushed (x ∷ names) t n d =
    let p = split (is_one_of names x) (are_distinct names) d in
    let q = parts (bytes_eq x t) (is_one_of names t) n in
    let other : is_one_of (names ++ t ∷ []) x ≡ false = list_any-append (λ y. bytes_eq y x) names (t ∷ []) ∙ both (is_one_of names x) (bytes_eq t x) p.0 (turned (bytes_eq t x) refl q.0) in
    joined (is_one_of (names ++ t ∷ []) x) (are_distinct (names ++ t ∷ [])) other (pushed names t q.1 p.1)
  where
    parts : (a b : Bool) → (a || b) ≡ false → (a ≡ false) × (b ≡ false)
    parts true b h = absurd (true≢false h)
    parts false b h = (refl, h)

    both : (a b : Bool) → a ≡ false → b ≡ false → (a || (b || false)) ≡ false
    both true b h k = h
    both false true h k = k
    both false false h k = refl

    turned : (c : Bool) → bytes_eq t x ≡ c → bytes_eq x t ≡ false → c ≡ false
    turned true s h = absurd (true≢false (sym (ap (λ y. bytes_eq y t) (sym (same t x s)) ∙ itself t) ∙ h))
    turned false s h = refl

    joined : (a b : Bool) → a ≡ false → b ≡ true → (not a && b) ≡ true
    joined true b h k = sym h
    joined false b h k = k

distinct_with : (b : Bool) (names : List Text) (t : Text) → is_one_of names t ≡ b → are_distinct names ≡ true → are_distinct (if b then names else names ++ t ∷ []) ≡ true
distinct_with true names t e d = d
distinct_with false names t e d = pushed names t e d

pub distinct_fold : (names xs : List Text) → are_distinct names ≡ true → are_distinct (fold with_text names xs) ≡ true
distinct_fold names [] d = d
distinct_fold names (x ∷ xs) d = distinct_fold (with_text names x) xs (distinct_with (is_one_of names x) names x refl d)
