-- What holds of each element of a list.
use Rattle.std.proofs.Common.{◌≡◌, Bool, true, false, if◌then◌else◌, List, [], ◌∷◌, ◌++◌, map, refl, sym, true≢false}
use Rattle.std.specs.List.{flat_map, list_all}
use Rattle.std.proofs.lemmas.Bool.{and_parts}
use Rattle.sh_domain.specs.Inclusions.{Each}

-- a sum is empty where both parts are
pub none_both : {A : Type 0} (xs ys : List A) → xs ++ ys ≡ [] → (xs ≡ []) × (ys ≡ [])
none_both [] ys e = (refl, e)
none_both (x ∷ xs) ys e = cc

pub each_join : {A : Type 0} (P : A → Type 0) (xs ys : List A) → Each P xs → Each P ys → Each P (xs ++ ys)
unfolding Each
each_join P [] ys h k = k
each_join P (x ∷ xs) ys h k = (h.0, each_join P xs ys h.1 k)

pub each_parts : {A : Type 0} (P : A → Type 0) (xs ys : List A) → Each P (xs ++ ys) → Each P xs × Each P ys
unfolding Each
each_parts P [] ys h = (tt, h)
each_parts P (x ∷ xs) ys h = let rest = each_parts P xs ys h.1 in ((h.0, rest.0), rest.1)

pub each_none : {A B : Type 0} (f : A → List B) (xs : List A) → flat_map f xs ≡ [] → Each (λ x. f x ≡ []) xs
unfolding Each
each_none f [] e = tt
each_none f (x ∷ xs) e = let both = none_both (f x) (flat_map f xs) e in (both.0, each_none f xs both.1)

pub each_inside : {A B : Type 0} (P : B → Type 0) (f : A → List B) (xs : List A) → Each P (flat_map f xs) → Each (λ x. Each P (f x)) xs
unfolding Each
each_inside P f [] h = tt
each_inside P f (x ∷ xs) h = let both = each_parts P (f x) (flat_map f xs) h in (both.0, each_inside P f xs both.1)

pub each_mapped : {A B : Type 0} (P : B → Type 0) (f : A → B) (xs : List A) → Each P (map f xs) → Each (λ x. P (f x)) xs
unfolding Each
each_mapped P f [] h = tt
each_mapped P f (x ∷ xs) h = (h.0, each_mapped P f xs h.1)

pub each_of_all : {A : Type 0} {P : A → Type 0} → ((x : A) → P x) → (xs : List A) → Each P xs
unfolding Each
each_of_all h [] = tt
each_of_all h (x ∷ xs) = (h x, each_of_all h xs)

pub each_weaker : {A : Type 0} {P Q : A → Type 0} → ((x : A) → P x → Q x) → (xs : List A) → Each P xs → Each Q xs
unfolding Each
each_weaker f [] h = tt
each_weaker f (x ∷ xs) h = (f x h.0, each_weaker f xs h.1)

pub each_with : {A : Type 0} {P Q R : A → Type 0} (xs : List A) → Each P xs → Each Q xs → ((x : A) → P x → Q x → R x) → Each R xs
unfolding Each
each_with [] h k f = tt
each_with (x ∷ xs) h k f = (f x h.0 k.0, each_with xs h.1 k.1 f)

pub each_passes : {A : Type 0} (p : A → Bool) (xs : List A) → list_all p xs ≡ true → Each (λ x. p x ≡ true) xs
unfolding Each
each_passes p [] e = tt
each_passes p (x ∷ xs) e = let both = and_parts (p x) (list_all p xs) e in (both.0, each_passes p xs both.1)

-- under a test
pub each_under : {A : Type 0} (P : A → Type 0) (b : Bool) (xs : List A) → (b ≡ true → Each P xs) → Each (λ x. b ≡ true → P x) xs
each_under P true xs h = each_weaker (λ x k e. k) xs (h refl)
each_under P false xs h = each_of_all (λ x e. absurd (true≢false (sym e))) xs

pub each_where : {A : Type 0} (P : A → Type 0) (b : Bool) (xs : List A) → Each P (if b then xs else []) → b ≡ true → Each P xs
each_where P true xs h e = h
each_where P false xs h e = absurd (true≢false (sym e))

pub each_unless : {A : Type 0} (P : A → Type 0) (b : Bool) (xs : List A) → Each P (if b then [] else xs) → b ≡ false → Each P xs
each_unless P true xs h e = absurd (true≢false e)
each_unless P false xs h e = h
