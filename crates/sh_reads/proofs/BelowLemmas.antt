-- How often a spot occurs in what is read, against how far the reading comes.
use Rattle.std.proofs.Common.{◌≡◌, ℕ, ◌+◌, ◌<◌, ◌≤◌, ◌==◌, Bool, true, false, ◌&&◌, min, max, [], ◌∷◌, nat_lt, refl, ◌∙◌, ⊎_elim, arith}
use Rattle.std.proofs.lemmas.Bool.{cases_Bool, ltb-true, lt-ltb, eqb-true, le-ltb}
use Rattle.sh_tree.specs.declared.place.Place.{Place}
use Rattle.sh_reads.specs.Spots.{OfCommand, OfWord}
use Rattle.sh_reads.proofs.HitLemmas.{one, is_of_command, hits, hits_of_word, hits_of_command}

module _ (q : Place) where
  -- one if the place is before the offset n in so many bytes
  pub below : ℕ → ℕ → ℕ
  below long n = one (nat_lt q.at (min n long))

  below_at : (at m n : ℕ) → m ≤ n → one (nat_lt at m) ≤ one (nat_lt at n)
  below_at at m n h = ⊎_elim
      (λ t. let before : at < m = ltb-true at m t in let then : nat_lt at n ≡ true = lt-ltb at n (omega arith) in rw (t, then) (omega arith))
      (λ t. rw t (omega arith))
      (cases_Bool (nat_lt at m))

  pub below_grows : (long m n : ℕ) → m ≤ n → below long m ≤ below long n
  unfolding below
  below_grows long m n h = below_at q.at (min m long) (min n long) (omega arith)

  -- in a front of the bytes
  pub below_front : (long k m n : ℕ) → k ≤ n → below (min k long) m ≤ below long n
  unfolding below
  below_front long k m n h = below_at q.at (min m (min k long)) (min n long) (omega arith)

  pub below_short : (long k n : ℕ) → below (min k long) n ≤ below long n
  unfolding below
  below_short long k n = below_at q.at (min n (min k long)) (min n long) (omega arith)

  pub below_same : (long k m : ℕ) → m ≤ k → below long m ≤ below (min k long) m
  unfolding below
  below_same long k m h = below_at q.at (min m long) (min m (min k long)) (omega arith)

  pub below_most : (long n : ℕ) → below long n ≤ 1
  unfolding below
  below_most long n = go (nat_lt q.at (min n long))
    where
      go : (t : Bool) → one t ≤ 1
      go true = omega arith
      go false = omega arith

  -- and then it is before their end
  pub below_inside : (long n : ℕ) → 0 < below long n → q.at < long
  unfolding below
  below_inside long n h = ⊎_elim
      (λ t. let before : q.at < min n long = ltb-true q.at (min n long) t in let less : q.at < long = omega arith in less)
      (λ t. let none : one (nat_lt q.at (min n long)) ≡ 0 = rw t refl in absurd (omega arith))
      (cases_Bool (nat_lt q.at (min n long)))

  own_below : (long i e : ℕ) → i < long → i < e → one (q.at == i) + below long i ≤ below long e
  unfolding below
  own_below long i e inside more = ⊎_elim
      (λ is.
      let same : q.at ≡ i = eqb-true q.at i is in
      let none : nat_lt q.at (min i long) ≡ false = le-ltb q.at (min i long) (omega arith) in
      let some : nat_lt q.at (min e long) ≡ true = lt-ltb q.at (min e long) (omega arith) in
      rw (is, none, some) (omega arith))
      (λ other. let grows = below_at q.at (min i long) (min e long) (omega arith) in rw other (omega arith))
      (cases_Bool (q.at == i))

  -- what is at the start of a command is no spot of its words
  abbrev pub slack : ℕ
  slack = one (is_of_command q.code)

  -- in what is read from i to j the spot occurs h times; in the here-documents of c and c'
  -- operators it occurs k more or fewer times
  pub record Spans (long i j h c c' : ℕ) : Type 0 where
    pub moves : i ≤ j
    pub bound : (m : ℕ) → m ≤ i + slack → h + c + below long m ≤ c' + below long (max m j)

  pub spans_is : {long i j h h' c c' : ℕ} → h' ≡ h → Spans long i j h c c' → Spans long i j h' c c'
  spans_is e s = record { moves = s.moves; bound = λ m k. let b = s.bound m k in omega arith }

  pub spans_none : {long i j c : ℕ} → i ≤ j → Spans long i j 0 c c
  spans_none {long = long} {j = j} h = record { moves = h; bound = λ m k. let grows = below_grows long m (max m j) (omega arith) in omega arith }

  pub spans_wider : {long i j i' j' h c c' : ℕ} → i' ≤ i → j ≤ j' → Spans long i j h c c' → Spans long i' j' h c c'
  spans_wider {long = long} {j = j} {j' = j'} h k s = record {
    moves = (let m = s.moves in omega arith);
    bound = λ m l. let b = s.bound m (omega arith) in let grows = below_grows long (max m j) (max m j') (omega arith) in omega arith;
  }

  pub spans_then : {long i j n h h' c c' c'' : ℕ} → Spans long i j h c c' → Spans long j n h' c' c'' → Spans long i n (h + h') c c''
  spans_then {long = long} {j = j} {n = n} s t = record {
    moves = (let a = s.moves in let b = t.moves in omega arith);
    bound = λ m l.
        let first = s.bound m l in
        let moved = s.moves in
        let second = t.bound (max m j) (omega arith) in
        let grows = below_grows long (max (max m j) n) (max m n) (let on = t.moves in omega arith) in
        omega arith;
  }

  none_both : (t : Bool) → one (t && false) ≡ 0
  none_both true = refl
  none_both false = refl

  all_both : (t : Bool) → one (t && true) ≡ one t
  all_both true = refl
  all_both false = refl

  pub spans_own : {long i e c : ℕ} → i < long → i < e → Spans long i e (hits q (OfWord i ∷ [])) c c
  spans_own {long = long} {i = i} {e = e} {c = c} inside more = record { moves = omega arith; bound = λ m k. go (is_of_command q.code) refl m k }
    where
      go : (t : Bool) → is_of_command q.code ≡ t → (m : ℕ) → m ≤ i + slack → hits q (OfWord i ∷ []) + c + below long m ≤ c + below long (max m e)
      go true is m k =
          let none : hits q (OfWord i ∷ []) ≡ 0 = hits_of_word q i ∙ rw is (none_both (q.at == i)) in
          let grows = below_grows long m (max m e) (omega arith) in
          omega arith
      go false is m k =
          let first : hits q (OfWord i ∷ []) ≡ one (q.at == i) = hits_of_word q i ∙ rw is (all_both (q.at == i)) in
          let tight : slack ≡ 0 = rw is refl in
          let own = own_below long i e inside more in
          let before = below_grows long m i (omega arith) in
          let grows = below_grows long e (max m e) (omega arith) in
          omega arith

  -- let the here-documents that come have the spot ku - ks times, and those of the operators cu -
  -- cs times; in what is read from i to j it occurs h times
  pub record Step (long i j h ks cs ku cu : ℕ) : Type 0 where
    pub moves : i ≤ j
    pub bound : h + ku + cs + below long i ≤ ks + cu + below long j

  pub step_is : {long i j h h' ks cs ku cu : ℕ} → h' ≡ h → Step long i j h ks cs ku cu → Step long i j h' ks cs ku cu
  step_is e s = record { moves = s.moves; bound = (let b = s.bound in omega arith) }

  pub step_none : {long i j ks cs : ℕ} → i ≤ j → Step long i j 0 ks cs ks cs
  step_none {long = long} {i = i} {j = j} h = record { moves = h; bound = (let grows = below_grows long i j h in omega arith) }

  pub step_wider : {long i j i' j' h ks cs ku cu : ℕ} → i' ≤ i → j ≤ j' → Step long i j h ks cs ku cu → Step long i' j' h ks cs ku cu
  step_wider {long = long} {i = i} {j = j} {i' = i'} {j' = j'} h k s = record {
    moves = (let m = s.moves in omega arith);
    bound = (let b = s.bound in let front = below_grows long i' i h in let back = below_grows long j j' k in omega arith);
  }

  pub step_then : {long i j j' n h h' ks cs kv cv ku cu : ℕ} → Step long i j h ks cs kv cv → j ≤ j' → Step long j' n h' kv cv ku cu → Step long i n (h + h') ks cs ku cu
  step_then {long = long} {j = j} {j' = j'} s k t = record {
    moves = (let a = s.moves in let b = t.moves in omega arith);
    bound = (let a = s.bound in let b = t.bound in let grows = below_grows long j j' k in omega arith);
  }

  pub step_spans : {long i j h c c' ks : ℕ} → Spans long i j h c c' → Step long i j h ks c ks c'
  step_spans {long = long} {i = i} {j = j} s = record {
    moves = s.moves;
    bound = (let moved = s.moves in let b = s.bound i (omega arith) in let grows = below_grows long (max i j) j (omega arith) in omega arith);
  }

  own_most : (i : ℕ) → hits q (OfCommand i ∷ []) ≤ one (q.at == i)
  own_most i = go (q.at == i) (is_of_command q.code) (hits_of_command q i)
    where
      go : (s t : Bool) → hits q (OfCommand i ∷ []) ≡ one (s && t) → hits q (OfCommand i ∷ []) ≤ one s
      go true true e = omega arith
      go true false e = omega arith
      go false t e = omega arith

  -- a command before what is in it
  pub step_own : {long i j n h ks cs ku cu : ℕ} → i < long → i < j → Step long j n h ks cs ku cu → Step long i n (hits q (OfCommand i ∷ []) + h) ks cs ku cu
  step_own {long = long} {i = i} {j = j} inside more s = record {
    moves = (let m = s.moves in omega arith);
    bound = (let b = s.bound in let own = own_below long i j inside more in let most = own_most i in omega arith);
  }

  -- a simple command, whose first word is where it is
  pub step_simple : {long i n h c c' ks : ℕ} → i < long → i < n → Spans long i n h c c' → Step long i n (hits q (OfCommand i ∷ []) + h) ks c ks c'
  step_simple {long = long} {i = i} {n = n} {h = h} {c = c} {c' = c'} {ks = ks} inside more s = record { moves = s.moves; bound = go (is_of_command q.code) refl }
    where
      go : (t : Bool) → is_of_command q.code ≡ t → hits q (OfCommand i ∷ []) + h + ks + c + below long i ≤ ks + c' + below long n
      go true is =
          let loose : slack ≡ 1 = rw is refl in
          let b = s.bound (i + 1) (omega arith) in
          let own = own_below long i (i + 1) inside (omega arith) in
          let most = own_most i in
          let grows = below_grows long (max (i + 1) n) n (omega arith) in
          omega arith
      go false is =
          let none : hits q (OfCommand i ∷ []) ≡ 0 = hits_of_command q i ∙ rw is (none_both (q.at == i)) in
          let b = s.bound i (omega arith) in
          let grows = below_grows long (max i n) n (omega arith) in
          omega arith

  -- the commands of a substitution, after its first bytes
  pub spans_inner : {long i j n c : ℕ} (h : ℕ) → i < long → i < j → j ≤ n → h + below long j ≤ below long n → Spans long i (n + 1) (hits q (OfWord i ∷ []) + h) c c
  spans_inner {long = long} {i = i} {j = j} {n = n} {c = c} h inside more moves inner = record { moves = omega arith; bound = λ m k. go (is_of_command q.code) refl m k }
    where
      go : (t : Bool) → is_of_command q.code ≡ t → (m : ℕ) → m ≤ i + slack → hits q (OfWord i ∷ []) + h + c + below long m ≤ c + below long (max m (n + 1))
      go true is m k =
          let none : hits q (OfWord i ∷ []) ≡ 0 = hits_of_word q i ∙ rw is (none_both (q.at == i)) in
          let loose : slack ≡ 1 = rw is refl in
          let before = below_grows long m j (omega arith) in
          let grows = below_grows long n (max m (n + 1)) (omega arith) in
          omega arith
      go false is m k =
          let first : hits q (OfWord i ∷ []) ≡ one (q.at == i) = hits_of_word q i ∙ rw is (all_both (q.at == i)) in
          let tight : slack ≡ 0 = rw is refl in
          let own = own_below long i j inside more in
          let before = below_grows long m i (omega arith) in
          let grows = below_grows long n (max m (n + 1)) (omega arith) in
          omega arith
