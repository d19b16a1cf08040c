-- How often the spot of a place occurs in a list, and that it occurs once.
use Rattle.std.proofs.Common.{◌≡◌, ℕ, zero, suc, ◌+◌, ◌<◌, ◌≤◌, ◌==◌, Bool, true, false, not, ◌&&◌, cond, nat_lt, List, [], ◌∷◌, ◌++◌, length, get_or, ◌⊎◌, inl, inr, refl, sym, ◌∙◌, ap, subst, arith, eqb-true, eq-eqb, true≢false}
use Rattle.std.specs.List.{Contains, list_all}
use Rattle.std.proofs.lemmas.Bool.{and_from, and_parts, cases_Bool, lt-ltb}
use Rattle.std.proofs.lemmas.Bool.Decides.{nat_tests}
use Rattle.sh_tree.specs.declared.place.Code.{Code}
use Rattle.sh_tree.specs.declared.place.Code.TheVariants.{P1, P2, U1}
use Rattle.sh_tree.specs.declared.place.Place.{Place}
use Rattle.sh_reads.specs.Spots.{Spot, OfCommand, OfWord, EachOnce, offset_of}

-- one if it is so
abbrev pub one : Bool → ℕ
one b = cond b 1 0

unfoldable pub is_of_command : Code → Bool
is_of_command P1 = true
is_of_command P2 = true
is_of_command _ = false

-- where the place is reported
spot_of_place : ℕ → Bool → Spot
spot_of_place at true = OfCommand at
spot_of_place at false = OfWord at

unfoldable pub is_there : ℕ → Bool → Spot → Bool
is_there at b (OfCommand k) = (at == k) && b
is_there at true (OfWord k) = false
is_there at false (OfWord k) = at == k

-- how often the place's spot occurs in the list
unfoldable pub hits : Place → List Spot → ℕ
hits q [] = 0
hits q (s ∷ ss) = one (is_there q.at (is_of_command q.code) s) + hits q ss

pub hits_join : (q : Place) (xs ys : List Spot) → hits q (xs ++ ys) ≡ hits q xs + hits q ys
unfolding hits
hits_join q [] ys = omega arith
hits_join q (x ∷ xs) ys = let rest = hits_join q xs ys in omega arith

pub hits_cons : (q : Place) (s : Spot) (ss : List Spot) → hits q (s ∷ ss) ≡ hits q (s ∷ []) + hits q ss
unfolding hits
hits_cons q s ss = omega arith

pub hits_none : (q : Place) → hits q [] ≡ 0
unfolding hits
hits_none q = refl

pub hits_of_word : (q : Place) (i : ℕ) → hits q (OfWord i ∷ []) ≡ one ((q.at == i) && not (is_of_command q.code))
unfolding hits is_there
hits_of_word q i = go (is_of_command q.code) (q.at == i)
  where
    go : (b t : Bool) → one (is_there q.at b (OfWord i)) + 0 ≡ one ((q.at == i) && not b)
    go true t = grind (arith, nat_tests)
    go false t = grind (arith, nat_tests)

pub hits_of_command : (q : Place) (i : ℕ) → hits q (OfCommand i ∷ []) ≡ one ((q.at == i) && is_of_command q.code)
unfolding hits is_there
hits_of_command q i = omega arith

-- a place that would be reported at the spot
place_at : Spot → Place
place_at (OfCommand i) = record { at = i; code = P1; subject = [] }
place_at (OfWord i) = record { at = i; code = U1; subject = [] }

spot_itself : (s : Spot) → one (is_there (place_at s).at (is_of_command (place_at s).code) s) ≡ 1
unfolding place_at is_there is_of_command
spot_itself (OfCommand i) = rw (eq-eqb i i refl) refl
spot_itself (OfWord i) = rw (eq-eqb i i refl) refl

hits_some : (s : Spot) (ss : List Spot) → Contains ss s → 0 < hits (place_at s) ss
unfolding hits
hits_some s ss h = go ss h.0 h.1 h.2
  where
    go : (ss : List Spot) (k : ℕ) → k < length ss → get_or ss k s ≡ s → 0 < hits (place_at s) ss
    go [] k l e = absurd (omega arith)
    go (z ∷ zs) zero l e =
        let here : one (is_there (place_at s).at (is_of_command (place_at s).code) z) ≡ 1 =
        ap (λ y. one (is_there (place_at s).at (is_of_command (place_at s).code) y)) e ∙ spot_itself s in
        omega arith
    go (z ∷ zs) (suc k) l e = let there = go zs k (omega arith) e in omega arith

-- if no spot is counted twice, each occurs once
pub spots_from_hits : (ss : List Spot) → ((q : Place) → hits q ss ≤ 1) → EachOnce ss
unfolding EachOnce hits
spots_from_hits [] h = tt
spots_from_hits (s ∷ ss) h = (
  (λ k. let here = spot_itself s in let more = hits_some s ss k in let most = h (place_at s) in absurd (omega arith)),
  spots_from_hits ss (λ q. let most = h q in omega arith),
)

at_offset : (s : Spot) → (place_at s).at ≡ offset_of s
unfolding place_at offset_of
at_offset (OfCommand i) = refl
at_offset (OfWord i) = refl

-- where each place that is counted is before an offset, so is each spot
pub spots_inside : (long : ℕ) (ss : List Spot) → ((q : Place) → 0 < hits q ss → q.at < long) → list_all (λ s. nat_lt (offset_of s) long) ss ≡ true
unfolding hits
spots_inside long [] h = refl
spots_inside long (s ∷ ss) h =
    let here = spot_itself s in
    let inside : (place_at s).at < long = h (place_at s) (omega arith) in
    let same = at_offset s in
    let first : nat_lt (offset_of s) long ≡ true = lt-ltb (offset_of s) long (omega arith) in
    and_from (nat_lt (offset_of s) long) (list_all (λ z. nat_lt (offset_of z) long) ss) first (spots_inside long ss (λ q k. h q (omega arith)))

there_is : (at : ℕ) (b : Bool) (s : Spot) → is_there at b s ≡ true → s ≡ spot_of_place at b
unfolding is_there spot_of_place
there_is at true (OfCommand k) e = let same = eqb-true at k (and_parts (at == k) true e).0 in ap OfCommand (sym same)
there_is at false (OfCommand k) e = absurd (true≢false (sym (and_parts (at == k) false e).1))
there_is at true (OfWord k) e = absurd (true≢false (sym e))
there_is at false (OfWord k) e = ap OfWord (sym (eqb-true at k e))

hits_one : (at : ℕ) (b : Bool) (q : Place) (ss : List Spot) → q.at ≡ at → is_of_command q.code ≡ b → 0 < hits q ss → Contains ss (spot_of_place at b)
unfolding hits
hits_one at b q [] e f h = absurd (omega arith)
hits_one at b q (s ∷ ss) e f h = elim (cases_Bool (is_there at b s)) [
  | inl t ↦ (0, omega arith, there_is at b s t)
  | inr t ↦
      let none : one (is_there q.at (is_of_command q.code) s) ≡ 0 = rw (e, f, t) refl in
      let rest = hits_one at b q ss e f (omega arith) in
      let less : rest.0 < length ss = rest.1 in
      (suc rest.0, omega arith, rest.2)
]

-- if each spot occurs once, that of a place is counted once
pub spots_once : (q : Place) (ss : List Spot) → EachOnce ss → hits q ss ≤ 1
unfolding EachOnce hits
spots_once q [] h = omega arith
spots_once q (s ∷ ss) h = elim (cases_Bool (is_there q.at (is_of_command q.code) s)) [
  | inl t ↦
      let here = there_is q.at (is_of_command q.code) s t in
      elim (cases_none (hits q ss)) [
        | inl z ↦ let first : one (is_there q.at (is_of_command q.code) s) ≡ 1 = ap one t in omega arith
        | inr z ↦ absurd (h.0 (subst (Contains ss) (sym here) (hits_one q.at (is_of_command q.code) q ss refl refl z)))
      ]
  | inr t ↦ let first : one (is_there q.at (is_of_command q.code) s) ≡ 0 = ap one t in let rest = spots_once q ss h.1 in omega arith
]
  where
    cases_none : (n : ℕ) → (n ≡ 0) ⊎ (0 < n)
    cases_none zero = inl refl
    cases_none (suc n) = inr (omega arith)
