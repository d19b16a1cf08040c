-- A stable sort by numbers is the one list in that order.
use Rattle.std.proofs.Common.{◌≡◌, ℕ, suc, ◌<◌, ◌≤◌, ◌==◌, Bool, true, false, not, ◌&&◌, cond, ◌⊎◌, inl, inr, List, [], ◌∷◌, length, get_or, map, Option, Some, None, refl, sym, ap, ap₂, ◌∙◌, subst, nat_lt, arith}
use Rattle.std.proofs.Math.Path.{fun_ext}
use Rattle.std.proofs.lemmas.Bool.{cases_order}
use Rattle.std.proofs.lemmas.Bool.Decides.{nat_tests}
use Rattle.std.proofs.lemmas.Option.{same_Some}
use Rattle.std.specs.List.{cons_option, filter, filter_map}
use Rattle.std.specs.List.Sorted.{IsNonDecreasingBy, IsStableByKey}
use Rattle.std.specs.Ordering.{nat_cmp, is_lt}
use Rattle.sh_runs.specs.Sites.{Site, placed, by_number}

-- each has at least this number
abbrev pub Above : {A : Type 0} → (A → ℕ) → ℕ → List A → Type 0
Above number n [] = Unit {0}
Above number n (x ∷ xs) = (n ≤ number x) × Above number n xs

abbrev pub Rises : {A : Type 0} → (A → ℕ) → List A → Type 0
Rises number [] = Unit {0}
Rises number (x ∷ xs) = Above number (number x) xs × Rises number xs

-- those with a number
abbrev numbered : {A : Type 0} → (A → ℕ) → ℕ → List A → List A
numbered number n xs = filter (λ x. number x == n) xs

-- one list rises and has these of each number

module _ {A : Type 0} (number : A → ℕ) where
  none_below : (n m : ℕ) (xs : List A) → n < m → Above number m xs → numbered number n xs ≡ []
  none_below n m [] h a = refl
  none_below n m (x ∷ xs) h a =
      let at_least = a.0 in
      let other : (number x == n) ≡ false = grind (arith, nat_tests) in
      rw (other, none_below n m xs h a.1) refl

  itself : (x : A) → (number x == number x) ≡ true
  itself x = grind (arith, nat_tests)

  numbered_first : (x : A) (xs : List A) → numbered number (number x) (x ∷ xs) ≡ x ∷ numbered number (number x) xs
  numbered_first x xs = rw (itself x) refl

  only_one : (xs ys : List A) → Rises number xs → Rises number ys → ((n : ℕ) → numbered number n xs ≡ numbered number n ys) → xs ≡ ys
  only_one [] [] a b h = refl
  only_one [] (y ∷ ys) a b h = let e : [] ≡ y ∷ numbered number (number y) ys = h (number y) ∙ numbered_first y ys in cc
  only_one (x ∷ xs) [] a b h = let e : x ∷ numbered number (number x) xs ≡ [] = sym (numbered_first x xs) ∙ h (number x) in cc
  only_one (x ∷ xs) (y ∷ ys) a b h = go (only_one xs ys a.1 b.1) (cases_order (number x) (number y))
    where
      same_first : number x ≡ number y → x ∷ numbered number (number x) xs ≡ y ∷ numbered number (number y) ys
      same_first e =
          let itself_too : (number y == number x) ≡ true = grind (arith, nat_tests) in
          sym (numbered_first x xs) ∙ h (number x) ∙ rw (itself_too) (ap (λ n. y ∷ numbered number n ys) e)

      rest : (e : number x ≡ number y) (n : ℕ) (t : Bool) → (number x == n) ≡ t → numbered number n xs ≡ numbered number n ys
      rest e n true t =
          let same : number x ≡ n = grind (arith, nat_tests) in
          let both = same_first e in
          let tails : numbered number (number x) xs ≡ numbered number (number y) ys = cc in
          subst (λ m. numbered number m xs ≡ numbered number m ys) same (tails ∙ ap (λ m. numbered number m ys) (sym e))
      rest e n false t =
          let other : (number y == n) ≡ false = grind (arith, nat_tests) in
          let whole = h n in
          let shown : cond (number x == n) (x ∷ numbered number n xs) (numbered number n xs) ≡ cond (number y == n) (y ∷ numbered number n ys) (numbered number n ys) = whole in
          rw (t, other) at shown

      go : (((n : ℕ) → numbered number n xs ≡ numbered number n ys) → xs ≡ ys) → (number x ≡ number y) ⊎ ((number x < number y) ⊎ (number y < number x)) → x ∷ xs ≡ y ∷ ys
      go more (inl e) =
          let both = same_first e in
          let first : x ≡ y = cc in
          ap₂ (λ z zs. z ∷ zs) first (more (λ n. rest e n (number x == n) refl))
      go more (inr (inl l)) =
          let e : x ∷ numbered number (number x) xs ≡ [] = sym (numbered_first x xs) ∙ h (number x) ∙ none_below (number x) (number y) (y ∷ ys) l (omega arith, b.0) in cc
      go more (inr (inr l)) =
          let e : [] ≡ y ∷ numbered number (number y) ys = sym (none_below (number y) (number x) (x ∷ xs) l (omega arith, a.0)) ∙ h (number y) ∙ numbered_first y ys in cc

-- the list of the definition

abbrev pub number_of : Site → ℕ
number_of s = s.number

lower : (m n : ℕ) (ss : List Site) → m ≤ n → Above number_of n ss → Above number_of m ss
lower m n [] h a = tt
lower m n (s ∷ ss) h a = (omega (arith, a.0), lower m n ss h a.1)

above_placed : (n : ℕ) (s : Site) (ss : List Site) → n ≤ s.number → Above number_of n ss → Above number_of n (placed s ss)
unfolding placed
above_placed n s [] h a = (h, tt)
above_placed n s (x ∷ xs) h a = go (above_placed n s xs h a.1) (nat_lt x.number s.number)
  where
    go : Above number_of n (placed s xs) → (t : Bool) → Above number_of n (cond t (x ∷ placed s xs) (s ∷ x ∷ xs))
    go more true = (a.0, more)
    go more false = (h, a)

placed_rises : (s : Site) (ss : List Site) → Rises number_of ss → Rises number_of (placed s ss)
unfolding placed
placed_rises s [] r = (tt, tt)
placed_rises s (x ∷ xs) r = go (placed_rises s xs r.1) (nat_lt x.number s.number) refl
  where
    go : Rises number_of (placed s xs) → (t : Bool) → nat_lt x.number s.number ≡ t → Rises number_of (cond t (x ∷ placed s xs) (s ∷ x ∷ xs))
    go more true e = let less : x.number < s.number = grind (arith, nat_tests) in (above_placed x.number s xs (omega (arith, less)) r.0, more)
    go more false e = let least : s.number ≤ x.number = grind (arith, nat_tests) in ((least, lower s.number x.number xs least r.0), r)

pub rises_by_number : (ss : List Site) → Rises number_of (by_number ss)
unfolding by_number
rises_by_number [] = tt
rises_by_number (s ∷ ss) = placed_rises s (by_number ss) (rises_by_number ss)

numbered_placed : (n : ℕ) (s : Site) (ss : List Site) → numbered number_of n (placed s ss) ≡ numbered number_of n (s ∷ ss)
unfolding placed
numbered_placed n s [] = refl
numbered_placed n s (x ∷ xs) = go (numbered_placed n s xs) (nat_lt x.number s.number) refl (s.number == n) refl (x.number == n) refl
  where
    go : numbered number_of n (placed s xs) ≡ numbered number_of n (s ∷ xs) → (t : Bool) → nat_lt x.number s.number ≡ t → (u : Bool) → (s.number == n) ≡ u → (v : Bool) → (x.number == n) ≡ v
        → numbered number_of n (cond t (x ∷ placed s xs) (s ∷ x ∷ xs)) ≡ cond u (s ∷ numbered number_of n (x ∷ xs)) (numbered number_of n (x ∷ xs))
    go more true l true e true d = grind (arith, nat_tests)
    go more true l true e false d = rw (d, more, e) refl
    go more true l false e true d = rw (d, more, e) refl
    go more true l false e false d = rw (d, more, e) refl
    go more false l u e v d = rw (e) refl

numbered_by_number : (n : ℕ) (ss : List Site) → numbered number_of n (by_number ss) ≡ numbered number_of n ss
unfolding by_number
numbered_by_number n [] = refl
numbered_by_number n (s ∷ ss) = numbered_placed n s (by_number ss) ∙ ap (λ l. cond (s.number == n) (s ∷ l) l) (numbered_by_number n ss)

-- what is made of some commands, under their numbers

module _ {A : Type 0} (number : A → ℕ) (make : Site → Option A) (same : (s : Site) (x : A) → make s ≡ Some x → number x ≡ s.number) where
  above_made : (n : ℕ) (ss : List Site) → Above number_of n ss → Above number n (filter_map make ss)
  above_made n [] a = tt
  above_made n (s ∷ ss) a = go (above_made n ss a.1) (make s) refl
    where
      go : Above number n (filter_map make ss) → (o : Option A) → make s ≡ o → Above number n (cons_option o (filter_map make ss))
      go more None e = more
      go more (Some x) e =
          let equal : number x ≡ s.number = same s x e in
          let least = a.0 in
          (omega (arith, equal, least), more)

  rises_made : (ss : List Site) → Rises number_of ss → Rises number (filter_map make ss)
  rises_made [] r = tt
  rises_made (s ∷ ss) r = go (rises_made ss r.1) (make s) refl
    where
      go : Rises number (filter_map make ss) → (o : Option A) → make s ≡ o → Rises number (cons_option o (filter_map make ss))
      go more None e = more
      go more (Some x) e = (rw (same s x e) (above_made s.number ss r.0), more)

  numbered_made : (n : ℕ) (ss : List Site) → numbered number n (filter_map make ss) ≡ filter_map make (numbered number_of n ss)
  numbered_made n [] = refl
  numbered_made n (s ∷ ss) = go (numbered_made n ss) (make s) refl (s.number == n) refl
    where
      go : numbered number n (filter_map make ss) ≡ filter_map make (numbered number_of n ss) → (o : Option A) → make s ≡ o → (t : Bool) → (s.number == n) ≡ t
          → numbered number n (cons_option o (filter_map make ss)) ≡ filter_map make (cond t (s ∷ numbered number_of n ss) (numbered number_of n ss))
      go more None e true h = more ∙ ap (λ o. cons_option o (filter_map make (numbered number_of n ss))) (sym e)
      go more None e false h = more
      go more (Some x) e true h =
          let test : (number x == n) ≡ true = ap (λ m. m == n) (same s x e) ∙ h in
          rw test (ap (λ l. x ∷ l) more ∙ ap (λ o. cons_option o (filter_map make (numbered number_of n ss))) (sym e))
      go more (Some x) e false h =
          let test : (number x == n) ≡ false = ap (λ m. m == n) (same s x e) ∙ h in
          rw test more

  numbered_sorted : (n : ℕ) (ss : List Site) → numbered number n (filter_map make ss) ≡ numbered number n (filter_map make (by_number ss))
  numbered_sorted n ss = numbered_made n ss ∙ ap (filter_map make) (sym (numbered_by_number n ss)) ∙ sym (numbered_made n (by_number ss))

-- what is made of all of them
made_all : {A : Type 0} (make : Site → A) (ss : List Site) → filter_map (λ s. Some (make s)) ss ≡ map make ss
made_all make [] = refl
made_all make (s ∷ ss) = ap (λ xs. make s ∷ xs) (made_all make ss)

-- what a sort by the numbers gives

tie : (m n : ℕ) → (not (is_lt (nat_cmp n m)) && not (is_lt (nat_cmp m n))) ≡ (m == n)
tie m n = go (cases_order m n)
  where
    go : (m ≡ n) ⊎ ((m < n) ⊎ (n < m)) → (not (is_lt (nat_cmp n m)) && not (is_lt (nat_cmp m n))) ≡ (m == n)
    go (inl e) =
        let one : nat_lt n m ≡ false = grind (arith, nat_tests) in
        let two : nat_lt m n ≡ false = grind (arith, nat_tests) in
        let three : (m == n) ≡ true = grind (arith, nat_tests) in
        let four : (n == m) ≡ true = grind (arith, nat_tests) in rw (one, two, three, four) refl
    go (inr (inl l)) =
        let two : nat_lt m n ≡ true = grind (arith, nat_tests) in
        let three : (m == n) ≡ false = grind (arith, nat_tests) in
        let one : nat_lt n m ≡ false = grind (arith, nat_tests) in
        let four : (n == m) ≡ false = grind (arith, nat_tests) in rw (one, two, three, four) refl
    go (inr (inr l)) =
        let one : nat_lt n m ≡ true = grind (arith, nat_tests) in
        let three : (m == n) ≡ false = grind (arith, nat_tests) in rw (one, three) refl

module _ {T : Type 0} (key : T → ℕ) where
  has_number : (n : ℕ) (xs : List T) (x : T) (rest : List T) → numbered key n xs ≡ x ∷ rest → key x ≡ n
  has_number n [] x rest e = cc
  has_number n (y ∷ ys) x rest e = go (has_number n ys x rest) (key y == n) refl e
    where
      go : (numbered key n ys ≡ x ∷ rest → key x ≡ n) → (t : Bool) → (key y == n) ≡ t → cond t (y ∷ numbered key n ys) (numbered key n ys) ≡ x ∷ rest → key x ≡ n
      go more true h f =
          let first : y ≡ x = cc in
          let here : key y ≡ n = grind (arith, nat_tests) in
          subst (λ z. key z ≡ n) first here
      go more false h f = more f

  numbered_with : (n : ℕ) (xs ys : List T) → IsStableByKey key nat_cmp xs ys → (x : T) → key x ≡ n → numbered key n ys ≡ numbered key n xs
  numbered_with n xs ys h x e =
      let tests : (λ (y : T). not (is_lt (nat_cmp (key x) (key y))) && not (is_lt (nat_cmp (key y) (key x)))) ≡ (λ (y : T). key y == key x) = fun_ext (λ y. tie (key y) (key x)) in
      let here : filter (λ (y : T). key y == key x) ys ≡ filter (λ (y : T). key y == key x) xs = rw tests at (h x) in
      subst (λ k. numbered key k ys ≡ numbered key k xs) e here

  numbered_alike : (n : ℕ) (xs ys : List T) → IsStableByKey key nat_cmp xs ys → numbered key n ys ≡ numbered key n xs
  numbered_alike n xs ys h = go (numbered key n ys) (numbered key n xs) refl refl
    where
      go : (us vs : List T) → numbered key n ys ≡ us → numbered key n xs ≡ vs → us ≡ vs
      go [] [] e f = refl
      go (u ∷ us) vs e f = sym e ∙ numbered_with n xs ys h u (has_number n ys u us e) ∙ f
      go [] (v ∷ vs) e f = sym e ∙ numbered_with n xs ys h v (has_number n xs v vs f) ∙ f

module _ {T A : Type 0} (key : T → ℕ) (view : T → A) (number : A → ℕ) (same : (x : T) → number (view x) ≡ key x) where
  above_from : (n : ℕ) (xs : List T) → ((j : ℕ) (d : T) → j < length xs → n ≤ key (get_or xs j d)) → Above number n (map view xs)
  above_from n [] h = tt
  above_from n (x ∷ xs) h =
      let equal = same x in
      let least : n ≤ key x = h 0 x (omega arith) in
      (omega (arith, equal, least), above_from n xs (λ j d l. h (suc j) d (omega (arith, l))))

  rises_from : (xs : List T) → IsNonDecreasingBy key xs → Rises number (map view xs)
  rises_from [] h = tt
  rises_from (x ∷ xs) h =
      (rw (same x) (above_from (key x) xs (λ j d l. h 0 (suc j) d (omega arith) (omega (arith, l)))), rises_from xs (λ i j d k l. h (suc i) (suc j) d (omega (arith, k)) (omega (arith, l))))

  numbered_seen : (n : ℕ) (xs : List T) → numbered number n (map view xs) ≡ map view (numbered key n xs)
  numbered_seen n [] = refl
  numbered_seen n (x ∷ xs) = rw (same x) (go (numbered_seen n xs) (key x == n))
    where
      go : numbered number n (map view xs) ≡ map view (numbered key n xs) → (t : Bool)
          → cond t (view x ∷ numbered number n (map view xs)) (numbered number n (map view xs)) ≡ map view (cond t (x ∷ numbered key n xs) (numbered key n xs))
      go more true = ap (λ l. view x ∷ l) more
      go more false = more

  sorted_is : (xs ys : List T) (whole : List A) → IsNonDecreasingBy key ys → IsStableByKey key nat_cmp xs ys → Rises number whole
      → ((n : ℕ) → numbered number n (map view xs) ≡ numbered number n whole) → map view ys ≡ whole
  sorted_is xs ys whole up stable rises alike =
      only_one number (map view ys) whole (rises_from ys up) rises
      (λ n. numbered_seen n ys ∙ ap (map view) (numbered_alike key n xs ys stable) ∙ sym (numbered_seen n xs) ∙ alike n)

  -- what was made of commands, so sorted, is what is made of the sorted commands
  pub made_in_order : (make : Site → Option A) → ((s : Site) (x : A) → make s ≡ Some x → number x ≡ s.number) → (xs ys : List T) (ss : List Site) → IsNonDecreasingBy key ys
      → IsStableByKey key nat_cmp xs ys → map view xs ≡ filter_map make ss → map view ys ≡ filter_map make (by_number ss)
  made_in_order make keyed xs ys ss up stable e =
      sorted_is xs ys (filter_map make (by_number ss)) up stable (rises_made number make keyed (by_number ss) (rises_by_number ss))
      (λ n. ap (numbered number n) e ∙ numbered_sorted number make keyed n ss)

  pub all_made_in_order : (make : Site → A) → ((s : Site) → number (make s) ≡ s.number) → (xs ys : List T) (ss : List Site) → IsNonDecreasingBy key ys → IsStableByKey key nat_cmp xs ys
      → map view xs ≡ map make ss → map view ys ≡ map make (by_number ss)
  all_made_in_order make keyed xs ys ss up stable e =
      made_in_order (λ s. Some (make s)) (λ s x h. subst (λ y. number y ≡ s.number) (same_Some _ _ h) (keyed s)) xs ys ss up stable (e ∙ sym (made_all make ss))
      ∙ made_all make (by_number ss)
