-- The places of texts among others.
use Rattle.std.proofs.Common.{◌≡◌, ℕ, suc, ◌+◌, Bool, true, false, cond, ◌||◌, List, [], ◌∷◌, map, Option, Some, None, is_some, option_map, refl, sym, ap, ◌∙◌, arith, eqb, position, Vec, Global}
use Rattle.std.specs.List.{position_from}
use Rattle.std.specs.Str.{bytes_eq}
use Rattle.std.proofs.lemmas.Grind.{common_steps}
use Rattle.std.proofs.lemmas.Iterator.Adapters.{position_from-zero}
use Rattle.sh_tree.specs.standard.program.Syntax.{Text}
use Rattle.sh_runs.specs.standard.runs.Environment.{is_one_of}

-- Equality of texts

eqb_swap : (m n : ℕ) → eqb m n ≡ eqb n m
eqb_swap m n = grind (arith, common_steps)

pub bytes_eq_swap : (s t : List ℕ) → bytes_eq s t ≡ bytes_eq t s
bytes_eq_swap [] [] = refl
bytes_eq_swap [] (d ∷ t) = refl
bytes_eq_swap (c ∷ s) [] = refl
bytes_eq_swap (c ∷ s) (d ∷ t) = rw (eqb_swap c d, bytes_eq_swap s t) refl

-- Places among names

abbrev pub place : List Text → Text → Option ℕ
place names t = position_from (λ name. bytes_eq name t) 0 names

keys_swap : (t : Text) (i : ℕ) (keys : List (Vec ℕ Global)) → position_from (λ v. bytes_eq t v.items) i keys ≡ position_from (λ name. bytes_eq name t) i (map (λ v. v.items) keys)
keys_swap t i [] = refl
keys_swap t i (v ∷ keys) = rw (bytes_eq_swap v.items t, keys_swap t (i + 1) keys) refl

pub place_of_key : (t : Text) (keys : List (Vec ℕ Global)) → position (λ v. bytes_eq t v.items) keys ≡ place (map (λ v. v.items) keys) t
place_of_key t keys = position_from-zero (λ (v : Vec ℕ Global). bytes_eq t v.items) keys ∙ keys_swap t 0 keys

pub place_later : (t : Text) (i : ℕ) (names : List Text) → position_from (λ name. bytes_eq name t) (i + 1) names ≡ option_map suc (position_from (λ name. bytes_eq name t) i names)
place_later t i [] = refl
place_later t i (u ∷ us) = go (bytes_eq u t) (place_later t (i + 1) us)
  where
    go : (x : Bool) → position_from (λ name. bytes_eq name t) (i + 1 + 1) us ≡ option_map suc (position_from (λ name. bytes_eq name t) (i + 1) us)
        → cond x (Some (i + 1)) (position_from (λ name. bytes_eq name t) (i + 1 + 1) us) ≡ option_map suc (cond x (Some i) (position_from (λ name. bytes_eq name t) (i + 1) us))
    go true h = let e : i + 1 ≡ suc i = omega arith in ap (λ (n : ℕ). Some n) e
    go false h = h

-- a name has a place if it is one of them
pub is_placed : (names : List Text) (t : Text) (i : ℕ) → is_some (position_from (λ name. bytes_eq name t) i names) ≡ is_one_of names t
is_placed [] t i = refl
is_placed (u ∷ us) t i = go (is_placed us t (i + 1)) (bytes_eq u t)
  where
    go : is_some (position_from (λ name. bytes_eq name t) (i + 1) us) ≡ is_one_of us t → (b : Bool)
        → is_some (cond b (Some i) (position_from (λ name. bytes_eq name t) (i + 1) us)) ≡ (b || is_one_of us t)
    go h true = refl
    go h false = h

pub held_at : (names : List Text) (t : Text) (i : ℕ) → place names t ≡ Some i → is_one_of names t ≡ true
held_at names t i e = sym (is_placed names t 0) ∙ ap is_some e

pub not_held : (names : List Text) (t : Text) (i : ℕ) → position_from (λ name. bytes_eq name t) i names ≡ None → is_one_of names t ≡ false
not_held names t i e = sym (is_placed names t i) ∙ ap is_some e
