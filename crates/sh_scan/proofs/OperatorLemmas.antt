-- Tables of texts: the first text that is at the front is found.
use Rattle.std.proofs.Common.{◌≡◌, ℕ, ◌<◌, ◌≤◌, Bool, true, false, List, [], ◌∷◌, ◌++◌, length, drop, slice_index, refl, sym, ap, ◌∙◌, arith, ⊎_elim, length-append, nat_eq, nat_lt}
use Rattle.std.specs.Prelude.{Option, Some, None, IfSome}
use Rattle.std.specs.List.{starts_with, list_all}
use Rattle.std.proofs.lemmas.Bool.{cases_Bool, false≢true, cond-true, cond-false, and_parts, ltb-true}
use Rattle.std.proofs.lemmas.Bool.Decides.{Decides-eqb}
use Rattle.std.proofs.lemmas.Slice.Eq.{starts_is}
use Rattle.sh_tree.specs.standard.Words.{behind_first}
use Rattle.sh_tree.specs.standard.language.Bytes.{is_first, longest}

-- two texts, one of which begins with a byte of a class, and the other does not
apart_at_first : (p : ℕ → Bool) (t cs : List ℕ) → is_first p t ≡ true → is_first p cs ≡ false → starts_with nat_eq cs t ≡ false
unfolding is_first
apart_at_first p [] cs h none = absurd (false≢true h)
apart_at_first p (d ∷ t) [] h none = refl
apart_at_first p (d ∷ t) (c ∷ cs) h none = go (nat_eq d c) refl
  where
    go : (b : Bool) → nat_eq d c ≡ b → starts_with nat_eq (c ∷ cs) (d ∷ t) ≡ false
    go true e = let same : d ≡ c = (Decides-eqb d c).0 e in absurd (false≢true (sym none ∙ ap p (sym same) ∙ h))
    go false e = rw e refl

-- a text is its first byte and what is left
pub first_and_rest : (cs : List ℕ) → 1 ≤ length cs → slice_index cs 0 ∷ drop 1 cs ≡ cs
first_and_rest [] h = absurd (omega (arith, h))
first_and_rest (c ∷ cs) h = refl

-- two texts whose second bytes are apart so
apart_at_second : (p : ℕ → Bool) (t cs : List ℕ) → is_first p (behind_first t) ≡ true → is_first p (behind_first cs) ≡ false → starts_with nat_eq cs t ≡ false
unfolding is_first
apart_at_second p [] cs h none = absurd (false≢true h)
apart_at_second p (d ∷ t) [] h none = refl
apart_at_second p (d ∷ t) (c ∷ cs) h none = go (nat_eq d c) refl
  where
    go : (b : Bool) → nat_eq d c ≡ b → starts_with nat_eq (c ∷ cs) (d ∷ t) ≡ false
    go true e = rw e (apart_at_first p t cs h none)
    go false e = rw e refl

module _ {A : Type 0} where
  -- nothing is found if each text of the table begins with a byte of a class, and the text does not
  pub none_begins : (p : ℕ → Bool) (xs : List (List ℕ × A)) (cs : List ℕ) → list_all (λ x. is_first p x.0) xs ≡ true → is_first p cs ≡ false → None ≡ longest xs cs
  unfolding longest
  none_begins p [] cs h none = refl
  none_begins p (x ∷ xs) cs h none =
      none_begins p xs cs (and_parts _ _ h).1 none ∙ sym (cond-false _ _ _ (apart_at_first p x.0 cs (and_parts _ _ h).0 none))

  -- nor if each text has such a second byte, and the text does not
  pub none_goes_on : (p : ℕ → Bool) (xs : List (List ℕ × A)) (cs : List ℕ) → list_all (λ x. is_first p (behind_first x.0)) xs ≡ true → is_first p (behind_first cs) ≡ false → None ≡ longest xs cs
  unfolding longest
  none_goes_on p [] cs h none = refl
  none_goes_on p (x ∷ xs) cs h none =
      none_goes_on p xs cs (and_parts _ _ h).1 none ∙ sym (cond-false _ _ _ (apart_at_second p x.0 cs (and_parts _ _ h).0 none))

  -- what the first table finds is found
  pub longest_found : (xs ys : List (List ℕ × A)) (cs : List ℕ) (found : A × ℕ) → Some found ≡ longest xs cs → Some found ≡ longest (xs ++ ys) cs
  unfolding longest
  longest_found [] ys cs found e = absurd_some e
    where
      absurd_some : Some found ≡ None → Some found ≡ longest ys cs
      absurd_some e = cc
  longest_found (x ∷ xs) ys cs found e = ⊎_elim
      (λ yes. e ∙ cond-true _ _ _ yes ∙ sym (cond-true _ _ _ yes))
      (λ other. longest_found xs ys cs found (e ∙ cond-false _ _ _ other) ∙ sym (cond-false _ _ _ other))
      (cases_Bool (starts_with nat_eq cs x.0))

  -- where the first table finds nothing, the second decides
  pub longest_missed : (xs ys : List (List ℕ × A)) (cs : List ℕ) → None ≡ longest xs cs → longest ys cs ≡ longest (xs ++ ys) cs
  unfolding longest
  longest_missed [] ys cs e = refl
  longest_missed (x ∷ xs) ys cs e = ⊎_elim
      (λ yes. let both : None ≡ Some (x.1, length x.0) = e ∙ cond-true _ _ _ yes in cc)
      (λ other. longest_missed xs ys cs (e ∙ cond-false _ _ _ other) ∙ sym (cond-false _ _ _ other))
      (cases_Bool (starts_with nat_eq cs x.0))

  -- no text of the table is empty
  abbrev pub is_filled : List (List ℕ × A) → Type 0
  is_filled xs = list_all (λ x. nat_lt 0 (length x.0)) xs ≡ true

  pub record Fits (cs : List ℕ) (found : A × ℕ) : Type 0 where
    pub within : found.1 ≤ length cs
    pub moves : 0 < found.1

  -- what is found is in the text, and no empty text is
  pub longest_fits : (xs : List (List ℕ × A)) (cs : List ℕ) (found : A × ℕ) → is_filled xs → Some found ≡ longest xs cs → Fits cs found
  unfolding longest
  longest_fits [] cs found f e = cc
  longest_fits (x ∷ xs) cs found f e = ⊎_elim
      (λ yes.
      let same : Some found ≡ Some (x.1, length x.0) = e ∙ cond-true _ _ _ yes in
      let is : found ≡ (x.1, length x.0) = cc in
      let front = (starts_is Decides-eqb cs x.0 (starts_with nat_eq cs x.0) refl).0 yes in
      let count : found.1 ≡ length x.0 = ap (λ (p : A × ℕ). p.1) is in
      let some = ltb-true 0 (length x.0) (and_parts _ _ f).0 in
      record { within = omega (arith, ap length front, length-append x.0 (drop (length x.0) cs)); moves = omega arith })
      (λ other. longest_fits xs cs found (and_parts _ _ f).1 (e ∙ cond-false _ _ _ other))
      (cases_Bool (starts_with nat_eq cs x.0))

  pub all_within : (xs : List (List ℕ × A)) (cs : List ℕ) (r : Option (A × ℕ)) → is_filled xs → r ≡ longest xs cs → IfSome r (λ found. found.1 ≤ length cs)
  all_within xs cs None f e = tt
  all_within xs cs (Some found) f e = (longest_fits xs cs found f e).within

  pub all_move : (xs : List (List ℕ × A)) (cs : List ℕ) (r : Option (A × ℕ)) → is_filled xs → r ≡ longest xs cs → IfSome r (λ found. 0 < found.1)
  all_move xs cs None f e = tt
  all_move xs cs (Some found) f e = (longest_fits xs cs found f e).moves
