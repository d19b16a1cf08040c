-- Facts by the numbers of names: their order, their meet, how much they claim, and the rows that
-- they name.
use Rattle.std.proofs.Common.{◌≡◌, ℕ, ◌≤◌, Bool, true, false, List, [], ◌∷◌, refl, sym, arith, le-leb, leb-true, true≢false, zero, suc, ◌+◌, ◌<◌, cond, ◌⊎◌, inl, inr, ap, subst, length, get_or, slice_get, ◌∙◌, IsTrue, ◌↔◌}
use Rattle.std.proofs.lemmas.Bool.{and_parts, cases_lt}
use Rattle.sh_drafts.specs.Facts.{Facts, NotReached, Known, Nowhere, Variable, Function, Parameters, claims, IsWithin, meet}
use Rattle.sh_drafts.specs.Ranks.{most, count, rank, IsNumbered}
use Rattle.std.specs.Prelude.{nat_le}
use Rattle.std.proofs.Math.Path.{fun_ext}
use Rattle.std.proofs.lemmas.Option.{slice_get-get_or, slice_get_within}
use Rattle.sh_rows.specs.declared.bits.BitRow.{BitRow}
use Rattle.sh_domain.specs.declared.rows.RowId.{RowId}
use Rattle.sh_domain.specs.declared.certificate.Facts as value
use Rattle.sh_domain.specs.declared.certificate.Facts.TheVariants as value_kind
use Rattle.sh_domain.specs.KeptRows.{Stay, bits_in, holds_at}
use Rattle.sh_domain.specs.NumberSets.{numbers_of}
use Rattle.sh_drafts.specs.declared.sight.Sight.{Sight}
use Rattle.sh_drafts.specs.Kept.{sight_facts, fact_of, IsPlaced, IsNamed}

pub known_within : (v w f g : ℕ → Bool) (a b : ℕ) → ((x : ℕ) → v x ≡ true → w x ≡ true) → ((x : ℕ) → f x ≡ true → g x ≡ true) → a ≤ b → IsWithin (Known v f a) (Known w g b)
unfolding claims
known_within v w f g a b h k l = record { claimed = λ x. by_atom x }
  where
    by_atom : (x : _) → claims (Known v f a) x ≡ true → claims (Known w g b) x ≡ true
    by_atom Nowhere e = e
    by_atom (Variable x) e = h x e
    by_atom (Function x) e = k x e
    by_atom (Parameters n) e = let m : n ≤ a = leb-true n a e in le-leb n b (omega arith)

pub record Parts (v w f g : ℕ → Bool) (a b : ℕ) : Type 0 where
  pub vars : (x : ℕ) → v x ≡ true → w x ≡ true
  pub functions : (x : ℕ) → f x ≡ true → g x ≡ true
  pub args : a ≤ b

pub known_parts : (v w f g : ℕ → Bool) (a b : ℕ) → IsWithin (Known v f a) (Known w g b) → Parts v w f g a b
unfolding claims
known_parts v w f g a b h = record {
  vars = λ x. h.claimed (Variable x);
  functions = λ x. h.claimed (Function x);
  args = leb-true a b (h.claimed (Parameters a) (le-leb a a (omega arith)));
}

pub within_nowhere : (f : Facts) → IsWithin f NotReached
unfolding claims
within_nowhere f = record { claimed = λ x e. refl }

pub nowhere_known : (v f : ℕ → Bool) (a : ℕ) → IsWithin NotReached (Known v f a) → ⊥
unfolding claims
nowhere_known v f a h = true≢false (sym (h.claimed Nowhere refl))

pub within_itself : (f : Facts) → IsWithin f f
within_itself f = record { claimed = λ x e. e }

pub within_through : (f g h : Facts) → IsWithin f g → IsWithin g h → IsWithin f h
within_through f g h p q = record { claimed = λ x e. q.claimed x (p.claimed x e) }

pub meet_first : (f g : Facts) → IsWithin (meet f g) f
unfolding meet
meet_first NotReached g = within_nowhere g
meet_first (Known v f a) NotReached = within_itself _
meet_first (Known v f a) (Known w g b) = known_within _ _ _ _ _ _ (λ x e. (and_parts (v x) (w x) e).0) (λ x e. (and_parts (f x) (g x) e).0) (omega arith)

pub meet_second : (f g : Facts) → IsWithin (meet f g) g
unfolding meet
meet_second NotReached g = within_itself g
meet_second (Known v f a) NotReached = within_nowhere _
meet_second (Known v f a) (Known w g b) = known_within _ _ _ _ _ _ (λ x e. (and_parts (v x) (w x) e).1) (λ x e. (and_parts (f x) (g x) e).1) (omega arith)

one_le : (p q : Bool) → (p ≡ true → q ≡ true) → cond p 1 0 ≤ cond q 1 0
one_le true q h = rw (h refl) (omega arith)
one_le false q h = omega arith

count_le : (n : ℕ) (p q : ℕ → Bool) → ((i : ℕ) → p i ≡ true → q i ≡ true) → count n p ≤ count n q
unfolding count
count_le zero p q h = omega arith
count_le (suc n) p q h = let a : count n p ≤ count n q = count_le n p q h in let b = one_le (p n) (q n) (h n) in omega arith

count_most : (n : ℕ) (p : ℕ → Bool) → count n p ≤ n
unfolding count
count_most zero p = omega arith
count_most (suc n) p = let a = count_most n p in let b = one_le (p n) true (λ e. refl) in omega arith

one_same : (p q : Bool) → cond q 1 0 ≤ cond p 1 0 → q ≡ true → p ≡ true
one_same true q h e = refl
one_same false q h e = absurd (too_much q h e)
  where
    too_much : (q : Bool) → cond q 1 0 ≤ 0 → q ≡ true → ⊥
    too_much true h e = omega (arith, h)
    too_much false h e = true≢false (sym e)

less_than : (i n : ℕ) → i < suc n → (i ≡ n) ⊎ (i < n)
less_than i n h = elim (cases_lt i n) [ inl l ↦ inr l | inr l ↦ inl (omega arith) ]

-- what passes a test that as many pass passes both
count_same : (n : ℕ) (p q : ℕ → Bool) → ((i : ℕ) → p i ≡ true → q i ≡ true) → count n q ≤ count n p → (i : ℕ) → i < n → q i ≡ true → p i ≡ true
unfolding count
count_same zero p q h l i m e = absurd (omega arith)
count_same (suc n) p q h l i m e =
    let a : count n p ≤ count n q = count_le n p q h in
    let b : cond (p n) 1 0 ≤ cond (q n) 1 0 = one_le (p n) (q n) (h n) in
    elim (less_than i n m) [
      | inl s ↦ let c : cond (q n) 1 0 ≤ cond (p n) 1 0 = omega arith in subst (λ j. p j ≡ true) (sym s) (one_same (p n) (q n) c (subst (λ j. q j ≡ true) s e))
      | inr t ↦ let c : count n q ≤ count n p = omega arith in count_same n p q h c i t e
    ]

-- facts within others that are not within them claim less
pub rank_less : (names : ℕ) (f g : Facts) → IsWithin f g → ¬ (IsWithin g f) → IsNumbered names f → IsNumbered names g → rank names f < rank names g
unfolding rank IsNumbered
rank_less names NotReached NotReached h k m n = absurd (k h)
rank_less names NotReached (Known w g b) h k m n = absurd (nowhere_known w g b h)
rank_less names (Known v f a) NotReached h k m n = let x = count_most names v in let y = count_most names f in let z : a ≤ most = m.args in omega (arith, x, y, z)
rank_less names (Known v f a) (Known w g b) h k m n =
    let parts = known_parts v w f g a b h in
    let x : count names v ≤ count names w = count_le names v w parts.vars in
    let y : count names f ≤ count names g = count_le names f g parts.functions in
    let z : a ≤ b = parts.args in
    elim (cases_lt (count names v + count names f + a) (count names w + count names g + b)) [
      | inl l ↦ l
      | inr l ↦
          let s : count names w ≤ count names v = omega arith in
          let t : count names g ≤ count names f = omega arith in
          let u : b ≤ a = omega arith in
          absurd (k (known_within w v g f b a (λ i e. count_same names v w parts.vars s i (n.vars i e) e) (λ i e. count_same names f g parts.functions t i (n.functions i e) e) u))
    ]

-- Rows

-- a row that was there is there
pub stays_there : (old new : List BitRow) (i : ℕ) → Stay old new → i < length old → i < length new
stays_there old new i s l = go old s l
  where
    go : (rows : List BitRow) → Stay rows new → i < length rows → i < length new
    go [] t m = absurd (omega (arith, m))
    go (r ∷ rows) t m = slice_get_within new i (get_or (r ∷ rows) i r) (t i m ∙ slice_get-get_or (r ∷ rows) i r m)

-- and so are facts
pub stays_placed : (old new : List BitRow) (f : value.Facts) → Stay old new → IsPlaced (length old) f → IsPlaced (length new) f
unfolding IsPlaced
stays_placed old new value_kind.NotReached s p = tt
stays_placed old new (value_kind.Known v f a) s p = (stays_there old new v.index s p.0, stays_there old new f.index s p.1)

-- and they claim the same
pub stays_same : (old new : List BitRow) (f : value.Facts) → Stay old new → IsPlaced (length old) f → fact_of new f ≡ fact_of old f
unfolding IsPlaced fact_of
stays_same old new value_kind.NotReached s p = refl
stays_same old new (value_kind.Known v f a) s p =
    let vars : bits_in (slice_get new v.index) ≡ bits_in (slice_get old v.index) = ap bits_in (s v.index p.0) in
    let functions : bits_in (slice_get new f.index) ≡ bits_in (slice_get old f.index) = ap bits_in (s f.index p.1) in
    cc

pub stay_through : (old mid new : List BitRow) → Stay old mid → Stay mid new → Stay old new
stay_through old mid new s t i l = t i (stays_there old mid i s l) ∙ s i l

-- facts whose rows were added one after the other
pub placed_both : (mid new : List BitRow) (v f : RowId) (a : ℕ) → Stay mid new → v.index < length mid → f.index < length new → IsPlaced (length new) (value_kind.Known v f a)
unfolding IsPlaced
placed_both mid new v f a s l m = (stays_there mid new v.index s l, m)

pub facts_both : (mid new : List BitRow) (v f : RowId) (s : Sight) → Stay mid new → v.index < length mid → ((k : ℕ) → holds_at mid v.index k ≡ numbers_of s.vars k)
    → ((k : ℕ) → holds_at new f.index k ≡ numbers_of s.functions k) → fact_of new (value_kind.Known v f s.args) ≡ sight_facts s
unfolding fact_of
facts_both mid new v f s t l h k =
    let vars : holds_at new v.index ≡ numbers_of s.vars = ap bits_in (t v.index l) ∙ fun_ext h in
    let functions : holds_at new f.index ≡ numbers_of s.functions = fun_ext k in
    cc

pub nowhere_within : (s : Sight) → IsTrue false ↔ IsWithin NotReached (sight_facts s)
nowhere_within s = (λ e. absurd (true≢false (sym e)), λ h. absurd (nowhere_known _ _ _ h))

-- the test of facts, one part after the other
module _ (rows : List BitRow) (fact : value.Facts) (v f : RowId) (a : ℕ) (s : Sight) (is : fact ≡ value_kind.Known v f a) where
  pub vars_fail : (x : Bool) → (IsTrue x ↔ ((k : ℕ) → holds_at rows v.index k ≡ true → numbers_of s.vars k ≡ true)) → x ≡ false → (IsTrue false ↔ IsWithin (fact_of rows fact) (sight_facts s))
  unfolding fact_of
  vars_fail x t e = rw is (λ z. absurd (true≢false (sym z)), λ h. rw e at (t.1 (known_parts _ _ _ _ _ _ h).vars))

  pub functions_fail : (x : Bool) → (IsTrue x ↔ ((k : ℕ) → holds_at rows f.index k ≡ true → numbers_of s.functions k ≡ true)) → x ≡ false → (IsTrue false ↔ IsWithin (fact_of rows fact) (sight_facts s))
  unfolding fact_of
  functions_fail x t e = rw is (λ z. absurd (true≢false (sym z)), λ h. rw e at (t.1 (known_parts _ _ _ _ _ _ h).functions))

  pub args_decide : (x y : Bool) → (IsTrue x ↔ ((k : ℕ) → holds_at rows v.index k ≡ true → numbers_of s.vars k ≡ true)) → x ≡ true
      → (IsTrue y ↔ ((k : ℕ) → holds_at rows f.index k ≡ true → numbers_of s.functions k ≡ true)) → y ≡ true → (IsTrue (nat_le a s.args) ↔ IsWithin (fact_of rows fact) (sight_facts s))
  unfolding fact_of
  args_decide x y t e u d = rw is (λ z. known_within _ _ _ _ _ _ (t.0 e) (u.0 d) (leb-true a s.args z), λ h. le-leb a s.args (known_parts _ _ _ _ _ _ h).args)

pub meet_numbered : (names : ℕ) (f g : Facts) → IsNumbered names f → IsNumbered names g → IsNumbered names (meet f g)
unfolding IsNumbered meet
meet_numbered names NotReached g h k = k
meet_numbered names (Known v f a) NotReached h k = h
meet_numbered names (Known v f a) (Known w g b) h k = record {
  vars = λ x e. h.vars x (and_parts (v x) (w x) e).0;
  functions = λ x e. h.functions x (and_parts (f x) (g x) e).0;
  args = omega (arith, h.args);
}

pub sight_numbered : (names : ℕ) (s : Sight) → IsNamed names (sight_facts s) → IsNumbered names (sight_facts s)
unfolding IsNumbered IsNamed
sight_numbered names s n = record { vars = n.vars; functions = n.functions; args = s.bounded }

-- what is left of a sight
pub met_named : (names : ℕ) (f : Facts) (s : Sight) → IsNamed names (sight_facts s) → IsNamed names (meet f (sight_facts s))
unfolding IsNamed meet
met_named names NotReached s n = n
met_named names (Known v g a) s n = record {
  vars = λ x e. n.vars x (and_parts (v x) (numbers_of s.vars x) e).1;
  functions = λ x e. n.functions x (and_parts (g x) (numbers_of s.functions x) e).1;
}

pub vars_named : (names : ℕ) (s : Sight) → IsNamed names (sight_facts s) → (k : ℕ) → numbers_of s.vars k ≡ true → k < names
unfolding IsNamed
vars_named names s n = n.vars

pub functions_named : (names : ℕ) (s : Sight) → IsNamed names (sight_facts s) → (k : ℕ) → numbers_of s.functions k ≡ true → k < names
unfolding IsNamed
functions_named names s n = n.functions
