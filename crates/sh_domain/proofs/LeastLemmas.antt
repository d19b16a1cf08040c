-- The least fault.
use Rattle.std.proofs.Common.{◌≡◌, ℕ, zero, suc, ◌<◌, ◌⊎◌, inl, inr, Bool, true, false, ◌&&◌, ◌||◌, ◌==◌, ltb, Option, Some, None, MatchOption, List, [], ◌∷◌, length, get_or, refl, sym, ◌∙◌, ap, subst, arith}
use Rattle.std.specs.List.{Contains, fold}
use Rattle.std.proofs.lemmas.Bool.Decides.{nat_tests}
use Rattle.sh_domain.specs.declared.rule.FlowRule.{FlowRule}
use Rattle.sh_domain.specs.declared.rule.FlowRule.TheVariants.{F1, F2, F3, F4, F5, F6, F7, F8, F9, F10, F11, F12, F13, F14, F15}
use Rattle.sh_domain.specs.Faults.{Fault, rank, precedes, lesser, least}
use Rattle.sh_domain.specs.LeastFault.{IsLeast, LeastIsTold}

-- The order of faults, by their numbers and ranks

along_numbers : (k r j s i t : ℕ) → (ltb k j || ((k == j) && ltb r s)) ≡ false → (ltb j i || ((j == i) && ltb s t)) ≡ false → (ltb k i || ((k == i) && ltb r t)) ≡ false
along_numbers k r j s i t h g = grind (arith, nat_tests)

not_both_numbers : (k r j s : ℕ) → (ltb k j || ((k == j) && ltb r s)) ≡ true → (ltb j k || ((j == k) && ltb s r)) ≡ false
not_both_numbers k r j s h = grind (arith, nat_tests)

itself_numbers : (k r : ℕ) → (ltb k k || ((k == k) && ltb r r)) ≡ false
itself_numbers k r = grind (arith, nat_tests)

same_numbers : (k r j s : ℕ) → (ltb k j || ((k == j) && ltb r s)) ≡ false → (ltb j k || ((j == k) && ltb s r)) ≡ false → (k ≡ j) × (r ≡ s)
same_numbers k r j s h g = (grind (arith, nat_tests), grind (arith, nat_tests))

-- one that does not precede a second, which does not precede a third
along : (a b d : Fault) → precedes a b ≡ false → precedes b d ≡ false → precedes a d ≡ false
unfolding precedes
along a b d h g = along_numbers a.number (rank a.rule) b.number (rank b.rule) d.number (rank d.rule) h g

not_both : (a b : Fault) → precedes a b ≡ true → precedes b a ≡ false
unfolding precedes
not_both a b h = not_both_numbers a.number (rank a.rule) b.number (rank b.rule) h

not_itself : (a : Fault) → precedes a a ≡ false
unfolding precedes
not_itself a = itself_numbers a.number (rank a.rule)

-- What is in a list

here : (x : Fault) (xs : List Fault) → Contains (x ∷ xs) x
here x xs = (0, omega arith, refl)

there : (x y : Fault) (xs : List Fault) → Contains xs y → Contains (x ∷ xs) y
there x y xs h = let l : h.0 < length xs = h.1 in (suc (h.0), omega arith, h.2)

cases : (x y : Fault) (xs : List Fault) → Contains (x ∷ xs) y → (x ≡ y) ⊎ Contains xs y
cases x y xs h = go (h.0) (h.1) (h.2)
  where
    go : (k : ℕ) → k < length (x ∷ xs) → get_or (x ∷ xs) k y ≡ y → (x ≡ y) ⊎ Contains xs y
    go zero l e = inl e
    go (suc k) l e = inr (k, omega arith, e)

-- The fold

-- the lesser of two is one of them, and neither precedes it
record Lesser (a x : Fault) : Type 0 where
  lesser_one : Fault
  found : lesser (Some a) x ≡ Some lesser_one
  after_first : precedes a lesser_one ≡ false
  after_second : precedes x lesser_one ≡ false
  one_of : (lesser_one ≡ a) ⊎ (lesser_one ≡ x)

the_lesser : (a x : Fault) → Lesser a x
unfolding lesser
the_lesser a x = go (precedes x a) refl
  where
    go : (b : Bool) → precedes x a ≡ b → Lesser a x
    go true e = record { lesser_one = x; found = rw e refl; after_first = not_both x a e; after_second = not_itself x; one_of = inr refl }
    go false e = record { lesser_one = a; found = rw e refl; after_first = not_itself a; after_second = e; one_of = inl refl }

record Found (a f : Fault) (xs : List Fault) : Type 0 where
  one_of : (f ≡ a) ⊎ Contains xs f
  first : precedes a f ≡ false
  others : (g : Fault) → Contains xs g → precedes g f ≡ false

found : (a f : Fault) (xs : List Fault) → fold lesser (Some a) xs ≡ Some f → Found a f xs
found a f [] e = let s : a ≡ f = cc in record { one_of = inl (sym s); first = subst (λ y. precedes a y ≡ false) s (not_itself a); others = λ g h. absurd (omega arith) }
found a f (x ∷ xs) e =
    let m = the_lesser a x in
    let r = found m.lesser_one f xs (ap (λ o. fold lesser o xs) (sym m.found) ∙ e) in
    record {
      one_of = elim r.one_of [ inl s ↦ elim m.one_of [ inl t ↦ inl (s ∙ t) | inr t ↦ inr (subst (Contains (x ∷ xs)) (sym (s ∙ t)) (here x xs)) ] | inr h ↦ inr (there x f xs h) ];
      first = along a m.lesser_one f m.after_first r.first;
      others = λ g h. elim (cases x g xs h) [ inl s ↦ subst (λ y. precedes y f ≡ false) s (along x m.lesser_one f m.after_second r.first) | inr k ↦ r.others g k ];
    }

least_is : (xs : List Fault) (f : Fault) → least xs ≡ Some f → IsLeast f xs
unfolding least lesser
least_is [] f e = cc
least_is (x ∷ xs) f e =
    let r = found x f xs e in
    record {
      told = elim r.one_of [ inl s ↦ subst (Contains (x ∷ xs)) (sym s) (here x xs) | inr h ↦ there x f xs h ];
      first = λ g h. elim (cases x g xs h) [ inl s ↦ subst (λ y. precedes y f ≡ false) s r.first | inr k ↦ r.others g k ];
    }

-- one that is found stays
some_stays : (a : Fault) (xs : List Fault) → fold lesser (Some a) xs ≡ None → ⊥
some_stays a [] e = cc
some_stays a (x ∷ xs) e = let m = the_lesser a x in some_stays m.lesser_one xs (ap (λ o. fold lesser o xs) (sym m.found) ∙ e)

pub none_least : (xs : List Fault) → least xs ≡ None → xs ≡ []
unfolding least lesser
none_least [] e = refl
none_least (x ∷ xs) e = absurd (some_stays x xs e)

least_or_none : (fs : List Fault) → MatchOption (least fs) (fs ≡ []) (λ f. IsLeast f fs)
least_or_none fs = go (least fs) refl
  where
    go : (o : Option Fault) → least fs ≡ o → MatchOption o (fs ≡ []) (λ f. IsLeast f fs)
    go None e = none_least fs e
    go (Some f) e = least_is fs f e

-- There is one

-- the rule of a rank
rule_at : ℕ → FlowRule
rule_at n = get_or (F1 ∷ F1 ∷ F2 ∷ F3 ∷ F4 ∷ F5 ∷ F6 ∷ F7 ∷ F8 ∷ F9 ∷ F10 ∷ F11 ∷ F12 ∷ F13 ∷ F14 ∷ []) n F15

rule_back : (r : FlowRule) → rule_at (rank r) ≡ r
unfolding rank rule_at
rule_back F1 = refl
rule_back F2 = refl
rule_back F3 = refl
rule_back F4 = refl
rule_back F5 = refl
rule_back F6 = refl
rule_back F7 = refl
rule_back F8 = refl
rule_back F9 = refl
rule_back F10 = refl
rule_back F11 = refl
rule_back F12 = refl
rule_back F13 = refl
rule_back F14 = refl
rule_back F15 = refl

fault : ℕ → FlowRule → Fault
fault n rule = record { number = n; rule = rule }

made : (k j : ℕ) (r s : FlowRule) → k ≡ j → r ≡ s → fault k r ≡ fault j s
made k j r s e d = cc

least_one : (fs : List Fault) (f g : Fault) → IsLeast f fs → IsLeast g fs → f ≡ g
unfolding precedes fault
least_one fs f g a b =
    let e = same_numbers f.number (rank f.rule) g.number (rank g.rule) (b.first f a.told) (a.first g b.told) in
    let r : f.rule ≡ g.rule = sym (rule_back f.rule) ∙ ap rule_at (e.1) ∙ rule_back g.rule in
    made f.number g.number f.rule g.rule (e.0) r

pub least_is_told : LeastIsTold
least_is_told = record { told = least_or_none; one = least_one }
