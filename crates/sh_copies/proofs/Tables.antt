-- What a table of texts finds before a byte that closes something is the same whatever follows.
use Rattle.std.proofs.Common.{◌≡◌, ℕ, ◌≤◌, Bool, true, false, not, ◌&&◌, List, [], ◌∷◌, ◌++◌, length, nat_eq, ◌⊎◌, inl, inr, if◌then◌else◌, refl, sym, ap, ◌∙◌, subst, arith, eqb-true}
use Rattle.std.specs.Prelude.{Some}
use Rattle.std.specs.List.{starts_with, list_all}
use Rattle.std.proofs.lemmas.Bool.{cond-true, cond-false, true≢false, and_parts}
use Rattle.sh_tree.specs.standard.language.Bytes.{longest}
use Rattle.sh_copies.proofs.AlikeBytes.{is_closer, by_bool}

-- no byte closes anything
abbrev pub is_open : List ℕ → Bool
is_open t = list_all (λ d. not (is_closer d)) t

-- the text is one byte, or none of its bytes closes anything
abbrev pub is_settled : List ℕ → Bool
is_settled [] = true
is_settled (d ∷ []) = true
is_settled (d ∷ e ∷ t) = is_open (d ∷ e ∷ t)

other_byte : (d c : ℕ) → not (is_closer d) ≡ true → is_closer c ≡ true → nat_eq d c ≡ false
other_byte d c h k = by_bool (nat_eq d c) (λ same. absurd (true≢false (sym h ∙ ap (λ n. not (is_closer n)) (eqb-true d c same) ∙ ap not k))) (λ other. other)

open_moves : (t w : List ℕ) (c : ℕ) (r r' : List ℕ) → is_open t ≡ true → is_closer c ≡ true
    → (starts_with nat_eq (w ++ c ∷ r') t ≡ starts_with nat_eq (w ++ c ∷ r) t) × (starts_with nat_eq (w ++ c ∷ r) t ≡ true → length t ≤ length w)
open_moves [] w c r r' h k = (refl, λ e. omega arith)
open_moves (d ∷ t) [] c r r' h k =
    let other = other_byte d c (and_parts (not (is_closer d)) (is_open t) h).0 k in
    (ap (λ z. z && starts_with nat_eq r' t) other ∙ sym (ap (λ z. z && starts_with nat_eq r t) other), λ e. absurd (true≢false (sym e ∙ ap (λ z. z && starts_with nat_eq r t) other)))
open_moves (d ∷ t) (a ∷ w) c r r' h k =
    let rest = open_moves t w c r r' (and_parts (not (is_closer d)) (is_open t) h).1 k in
    (ap (λ z. nat_eq d a && z) rest.0, λ e. let more = rest.1 (and_parts (nat_eq d a) (starts_with nat_eq (w ++ c ∷ r) t) e).1 in omega arith)

-- how many bytes a text takes before the closer, or the closer alone
abbrev pub Within : ℕ → List ℕ → Type 0
Within n w = (n ≤ 1) ⊎ (n ≤ length w)

pub settled_moves : (t w : List ℕ) (c : ℕ) (r r' : List ℕ) → is_settled t ≡ true → is_closer c ≡ true
    → (starts_with nat_eq (w ++ c ∷ r') t ≡ starts_with nat_eq (w ++ c ∷ r) t) × (starts_with nat_eq (w ++ c ∷ r) t ≡ true → Within (length t) w)
settled_moves [] w c r r' h k = (refl, λ e. inl (omega arith))
settled_moves (d ∷ []) [] c r r' h k = (refl, λ e. inl (omega arith))
settled_moves (d ∷ []) (a ∷ w) c r r' h k = (refl, λ e. inl (omega arith))
settled_moves (d ∷ e ∷ t) w c r r' h k = let m = open_moves (d ∷ e ∷ t) w c r r' h k in (m.0, λ z. inr (m.1 z))

module _ {A : Type 0} where
  abbrev pub is_settled_table : List (List ℕ × A) → Bool
  is_settled_table table = list_all (λ x. is_settled x.0) table

  pub longest_moves : (table : List (List ℕ × A)) (w : List ℕ) (c : ℕ) (r r' : List ℕ) → is_settled_table table ≡ true → is_closer c ≡ true
      → longest table (w ++ c ∷ r') ≡ longest table (w ++ c ∷ r)
  unfolding longest
  longest_moves [] w c r r' h k = refl
  longest_moves (x ∷ xs) w c r r' h k =
      let both = and_parts (is_settled x.0) (is_settled_table xs) h in
      ap (λ t. if t then Some (x.1, length x.0) else longest xs (w ++ c ∷ r')) (settled_moves x.0 w c r r' both.0 k).0
      ∙ ap (λ o. if starts_with nat_eq (w ++ c ∷ r) x.0 then Some (x.1, length x.0) else o) (longest_moves xs w c r r' both.1 k)

  same_found : (x y : A × ℕ) → Some x ≡ Some y → x.1 ≡ y.1
  same_found x y e = cc

  pub longest_within : (table : List (List ℕ × A)) (w : List ℕ) (c : ℕ) (r : List ℕ) (found : A × ℕ) → is_settled_table table ≡ true → is_closer c ≡ true
      → longest table (w ++ c ∷ r) ≡ Some found → Within found.1 w
  unfolding longest
  longest_within [] w c r found h k e = cc
  longest_within (x ∷ xs) w c r found h k e =
      let both = and_parts (is_settled x.0) (is_settled_table xs) h in
      by_bool (starts_with nat_eq (w ++ c ∷ r) x.0)
      (λ is. subst (λ n. Within n w) (same_found (x.1, length x.0) found (sym (cond-true _ _ _ is) ∙ e)) ((settled_moves x.0 w c r r both.0 k).1 is))
      (λ other. longest_within xs w c r found both.1 k (sym (cond-false _ _ _ other) ∙ e))
