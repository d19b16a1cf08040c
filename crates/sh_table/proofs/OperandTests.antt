-- Tests of operands, as they are computed.
use Rattle.std.proofs.Common.{◌≡◌, ℕ, suc, ◌+◌, ◌*◌, ◌-◌, ◌<◌, ◌==◌, nat_lt, Bool, true, false, ◌&&◌, ◌||◌, List, [], ◌∷◌, length, take, get_or, map, Some, refl, sym, ap, ◌∙◌, arith}
use Rattle.std.specs.List.{list_all, list_any}
use Rattle.std.proofs.lemmas.Bool.Decides.{nat_tests}
use Rattle.sh_tree.specs.standard.language.Bytes.{decimal}
use Rattle.sh_tree.specs.standard.program.Syntax.{Text}
use Rattle.sh_runs.specs.Profile.{has_inner_o}
use Rattle.sh_runs.specs.standard.runs.Numbers.{is_number, number_in}
use Rattle.sh_runs.specs.standard.runs.Operands.{ends_in_o}
use Rattle.sh_runs.specs.standard.runs.Rows.{is_count}

-- a test of each of a row
pub all_in : {A B : Type 0} (p : B → Bool) (f : A → B) (xs : List A) → list_all (λ x. p (f x)) xs ≡ list_all p (map f xs)
all_in p f [] = refl
all_in p f (x ∷ xs) = ap (λ t. p (f x) && t) (all_in p f xs)

-- a numeral is not zero if a digit is not

decimal_positive : (n : ℕ) (t : Text) → (nat_lt 0 n || list_any (λ c. nat_lt 48 c) t) ≡ nat_lt 0 (decimal n t)
unfolding decimal
decimal_positive n [] = go (nat_lt 0 n)
  where
    go : (b : Bool) → (b || false) ≡ b
    go true = refl
    go false = refl
decimal_positive n (c ∷ cs) = go (nat_lt 0 n) refl (nat_lt 48 c) refl ∙ decimal_positive (n * 10 + (c - 48)) cs
  where
    go : (b : Bool) → nat_lt 0 n ≡ b → (d : Bool) → nat_lt 48 c ≡ d → (b || (d || list_any (λ x. nat_lt 48 x) cs)) ≡ (nat_lt 0 (n * 10 + (c - 48)) || list_any (λ x. nat_lt 48 x) cs)
    go true e d f = let more : nat_lt 0 (n * 10 + (c - 48)) ≡ true = grind (arith, nat_tests) in rw more refl
    go false e true f = let more : nat_lt 0 (n * 10 + (c - 48)) ≡ true = grind (arith, nat_tests) in rw more refl
    go false e false f = let none : nat_lt 0 (n * 10 + (c - 48)) ≡ false = grind (arith, nat_tests) in rw none refl

pub count_text : (t : Text) → (is_number t && list_any (λ c. nat_lt 48 c) t) ≡ is_count (Some t)
unfolding is_count number_in
count_text t = go (is_number t) refl
  where
    go : (b : Bool) → is_number t ≡ b → (b && list_any (λ c. nat_lt 48 c) t) ≡ is_count (Some t)
    go true e = rw e (decimal_positive 0 t)
    go false e = rw e refl

pub count_then : (t : Text) (n p : Bool) → n ≡ is_number t → n ≡ true → p ≡ list_any (λ c. nat_lt 48 c) t → p ≡ is_count (Some t)
count_then t n p e h f = f ∙ ap (λ b. b && list_any (λ c. nat_lt 48 c) t) (sym h ∙ e) ∙ count_text t

pub count_else : (t : Text) (n : Bool) → n ≡ is_number t → n ≡ false → n ≡ is_count (Some t)
count_else t n e h = h ∙ ap (λ b. b && list_any (λ c. nat_lt 48 c) t) (sym h ∙ e) ∙ count_text t

-- letters of options

pub inner_o : (t : Text) → list_any (λ c. c == 111) (take (length t - 1) t) ≡ has_inner_o t
unfolding has_inner_o
inner_o [] = refl
inner_o (c ∷ []) = refl
inner_o (c ∷ d ∷ cs) =
    let shorter : length (c ∷ d ∷ cs) - 1 ≡ suc (length (d ∷ cs) - 1) = omega arith in
    rw shorter (ap (λ b. (c == 111) || b) (inner_o (d ∷ cs)))

pub last_o : (t : Text) (d : ℕ) → 0 < length t → (get_or t (length t - 1) d == 111) ≡ ends_in_o t
unfolding ends_in_o
last_o [] d h = absurd (omega (arith, h))
last_o (c ∷ []) d h = refl
last_o (c ∷ e ∷ cs) d h =
    let shorter : length (c ∷ e ∷ cs) - 1 ≡ suc (length (e ∷ cs) - 1) = omega arith in
    rw shorter (last_o (e ∷ cs) d (omega arith))

pub no_inner_o : (t : Text) → length t < 1 → false ≡ has_inner_o t
unfolding has_inner_o
no_inner_o [] h = refl
no_inner_o (c ∷ cs) h = absurd (omega (arith, h))

pub no_last_o : (t : Text) → length t < 1 → false ≡ ends_in_o t
unfolding ends_in_o
no_last_o [] h = refl
no_last_o (c ∷ cs) h = absurd (omega (arith, h))
