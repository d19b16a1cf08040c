-- The subjects of places, in a set.
use Rattle.std.proofs.Common.{◌≡◌, ◌<◌, ◌+◌, ℕ, Bool, true, false, ◌||◌, if◌then◌else◌, List, [], ◌∷◌, ◌++◌, take, length, get_or, refl, sym, ap, subst, ◌∙◌, Vec, Global, arith}
use Rattle.std.specs.List.{list_any}
use Rattle.std.specs.Str.{bytes_eq}
use Rattle.std.proofs.Math.Bool.{or-false}
use Rattle.std.proofs.Math.Seq.{take-length}
use Rattle.std.proofs.lemmas.List.Folds.{list_any-append, list_any_more}
use Rattle.std.proofs.lemmas.Slice.Eq.{bytes_eq-Decides}
use Rattle.sh_tree.specs.declared.place.Place.{Place}
use Rattle.sh_tree.specs.standard.program.Syntax.{Text}
use Rattle.sh_runs.proofs.PositionLemmas.{bytes_eq_swap}
use Rattle.sh_demands.specs.Kept.{holds, AreTold}

-- a text is in the set with one more iff it was in it, or is that one
with_own : (keys : List (Vec ℕ Global)) (own : Vec ℕ Global) (t : Text) → holds (if holds keys own.items then keys else keys ++ own ∷ []) t ≡ (holds keys t || bytes_eq own.items t)
with_own keys own t = go (holds keys own.items) refl
  where
    held : (b : Bool) → bytes_eq own.items t ≡ b → holds keys own.items ≡ true → holds keys t ≡ (holds keys t || b)
    held false f e = sym (or-false (holds keys t))
    held true f e = let same : holds keys t ≡ true = subst (λ u. holds keys u ≡ true) ((bytes_eq-Decides own.items t).0 f) e in rw same refl

    go : (b : Bool) → holds keys own.items ≡ b → holds (if b then keys else keys ++ own ∷ []) t ≡ (holds keys t || bytes_eq own.items t)
    go false e =
        list_any-append (λ (v : Vec ℕ Global). bytes_eq t v.items) keys (own ∷ []) ∙ ap (λ b. holds keys t || b) (or-false (bytes_eq t own.items) ∙ bytes_eq_swap t own.items)
    go true e = held (bytes_eq own.items t) refl e

pub told_next : (keys new : List (Vec ℕ Global)) (own : Vec ℕ Global) (count : ℕ) (ps : List Place) (x : Place) → AreTold keys count ps → count < length ps → own.items ≡ (get_or ps count x).subject
    → new ≡ (if holds keys own.items then keys else keys ++ own ∷ []) → AreTold new (count + 1) ps
told_next keys new own count ps x h l o n = record {
  within = omega (arith, l);
  subjects = λ t.
      ap (λ ks. holds ks t) n ∙ with_own keys own t ∙ ap (λ b. b || bytes_eq own.items t) (h.subjects t)
      ∙ ap (λ u. list_any (λ (p : Place). bytes_eq p.subject t) (take count ps) || bytes_eq u t) o ∙ sym (list_any_more (λ (p : Place). bytes_eq p.subject t) ps count x l);
}

-- if all are told
pub told_all : (keys : List (Vec ℕ Global)) (count : ℕ) (ps : List Place) (t : Text) → AreTold keys count ps → count ≡ length ps
    → holds keys t ≡ list_any (λ (x : Place). bytes_eq x.subject t) ps
told_all keys count ps t h e = h.subjects t ∙ ap (list_any (λ (x : Place). bytes_eq x.subject t)) (ap (λ n. take n ps) e ∙ take-length ps)
