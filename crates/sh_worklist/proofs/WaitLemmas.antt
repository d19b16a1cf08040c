-- What waits after a loop has had some wait.
use Rattle.std.proofs.Common.{◌≡◌, ℕ, Bool, true, false, not, ◌&&◌, ◌||◌, List, [], ◌∷◌, ◌++◌, refl, sym, ap, ◌∙◌, eqb, eq-eqb, ⊎_elim}
use Rattle.std.specs.Prelude.{nat_lt}
use Rattle.std.proofs.lemmas.List.Folds.{list_any-append}
use Rattle.std.proofs.lemmas.Bool.{ne_eqb, cases_eq}
use Rattle.sh_rows.specs.Numbers.{has_number}
use Rattle.sh_worklist.specs.declared.units.Units.{Units}

-- no unit waits that did not, nor is one seen
pub record IsAsBefore (old new : Units) : Type 0 where
  pub waiting : new.waiting ≡ old.waiting
  pub unseen : new.unseen ≡ old.unseen

-- the numbers of the set, and those of the list below the limit
pub record AreAdded (old new : ℕ → Bool) (limit now : ℕ) (xs : List ℕ) : Type 0 where
  pub numbers : (k : ℕ) → new k ≡ ((has_number k xs && nat_lt k limit) || old k)
  pub bound : now ≡ limit

pub one_more : (k c limit : ℕ) (some before : Bool) → (eqb k c && nat_lt c limit) || ((some && nat_lt k limit) || before) ≡ ((some || eqb k c) && nat_lt k limit) || before
one_more k c limit some before =
    ⊎_elim
    (λ (e : k ≡ c). let test = eq-eqb k c e in let same : nat_lt c limit ≡ nat_lt k limit = ap (λ n. nat_lt n limit) (sym e) in rw (test, same) (yes some (nat_lt k limit) before))
    (λ (ne : k ≡ c → ⊥). let test = ne_eqb k c ne in rw test (none some (nat_lt k limit) before))
    (cases_eq k c)
  where
    yes : (a b d : Bool) → (true && b) || ((a && b) || d) ≡ ((a || true) && b) || d
    yes true true d = refl
    yes true false d = refl
    yes false true true = refl
    yes false true false = refl
    yes false false d = refl

    none : (a b d : Bool) → (false && b) || ((a && b) || d) ≡ ((a || false) && b) || d
    none true b d = refl
    none false b d = refl

-- and one number more
pub added : (start old new : ℕ → Bool) (limit was now c : ℕ) (xs : List ℕ) → AreAdded start old limit was xs
    → ((k : ℕ) → new k ≡ (eqb k c && nat_lt c was) || old k) → now ≡ was → AreAdded start new limit now (xs ++ c ∷ [])
added start old new limit was now c xs before more same = record {
  bound = same ∙ before.bound;
  numbers = λ k.
      more k
      ∙ ap (λ n. (eqb k c && nat_lt c n) || old k) before.bound
      ∙ ap (λ b. (eqb k c && nat_lt c limit) || b) (before.numbers k)
      ∙ one_more k c limit (has_number k xs) (start k)
      ∙ ap (λ b. (b && nat_lt k limit) || start k) (sym (list_any-append (λ x. eqb k x) xs (c ∷ []) ∙ ap (λ b. has_number k xs || b) (last (eqb k c))));
}
  where
    last : (b : Bool) → b || false ≡ b
    last true = refl
    last false = refl

-- the unit of a command waits unless the command waited
