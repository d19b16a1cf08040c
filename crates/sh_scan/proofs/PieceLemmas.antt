-- Texts in two pieces.
use Rattle.std.proofs.Common.{◌≡◌, ℕ, suc, zero, min, Bool, true, false, ◌&&◌, List, [], ◌∷◌, ◌++◌, length, take, drop, nat_eq, refl, ap, ◌∙◌, sym, arith}
use Rattle.std.specs.List.{starts_with}
use Rattle.sh_scan.proofs.StepLemmas.{behind, behind_is}

and_assoc : (x y z : Bool) → (x && (y && z)) ≡ ((x && y) && z)
and_assoc true y z = refl
and_assoc false y z = refl

-- a text in two pieces begins so if each piece has its part
begins_over : (xs ys t : List ℕ) (n : ℕ) → n ≡ min (length t) (length xs)
    → starts_with nat_eq (xs ++ ys) t ≡ (starts_with nat_eq xs (take n t) && starts_with nat_eq ys (drop n t))
begins_over [] ys t zero e = refl
begins_over [] ys t (suc n) e = absurd (omega arith)
begins_over (x ∷ xs) ys [] zero e = refl
begins_over (x ∷ xs) ys [] (suc n) e = absurd (omega arith)
begins_over (x ∷ xs) ys (c ∷ t) zero e = absurd (omega arith)
begins_over (x ∷ xs) ys (c ∷ t) (suc n) e =
    ap (λ v. nat_eq c x && v) (begins_over xs ys t n (omega arith)) ∙ and_assoc (nat_eq c x) _ _

-- the first piece has its part, and so the second decides
pub begins_later : (xs ys t : List ℕ) (n : ℕ) (first second : Bool) → n ≡ min (length t) (length xs) → first ≡ starts_with nat_eq xs (take n t) → first ≡ true
    → second ≡ starts_with nat_eq ys (behind t n) → second ≡ starts_with nat_eq (xs ++ ys) t
begins_later xs ys t n first second e is so other =
    other ∙ ap (starts_with nat_eq ys) (behind_is t n)
    ∙ sym (begins_over xs ys t n e ∙ ap (λ v. v && starts_with nat_eq ys (drop n t)) (sym is ∙ so))

-- the first piece does not have it
pub begins_not : (xs ys t : List ℕ) (n : ℕ) (first : Bool) → n ≡ min (length t) (length xs) → first ≡ starts_with nat_eq xs (take n t) → first ≡ false
    → first ≡ starts_with nat_eq (xs ++ ys) t
begins_not xs ys t n first e is other =
    other ∙ sym (begins_over xs ys t n e ∙ ap (λ v. v && starts_with nat_eq ys (drop n t)) (sym is ∙ other))
