-- The decimal numeral of a number is what `{}` writes of it.
use Rattle.std.proofs.Common.{◌≡◌, ℕ, zero, suc, ◌/◌, ◌%◌, ◌^◌, ◌+◌, ◌<◌, ◌≤◌, nat_lt, true, false, [], ◌∷◌, ◌++◌, refl, sym, ap, arith}
use Rattle.std.specs.Fmt.{decimal}
use Rattle.std.proofs.lemmas.Bool.Decides.{nat_tests}
use Rattle.std.proofs.lemmas.Fmt.{decimal_by_steps}
use Rattle.sh_tree.specs.standard.program.Syntax.{Text}
use Rattle.sh_runs.specs.standard.runs.Numbers.{last_digits, digits}

less : (n : ℕ) → 10 ≤ n → nat_lt n 10 ≡ false
less n h = grind (arith, nat_tests)

small : (n : ℕ) → n < 10 → nat_lt n 10 ≡ true
small n h = grind (arith, nat_tests)

one_digit : (n : ℕ) → n < 10 → (k : ℕ) → n ≤ k → last_digits k n ≡ (48 + n) ∷ []
unfolding last_digits
one_digit n few zero le = ap (λ (d : ℕ). (48 + d) ∷ []) (omega (arith, few))
one_digit n few (suc k) le = rw (small n few) refl

one_more : (n : ℕ) (front : Text) → 10 ≤ n → ((k : ℕ) → n / 10 ≤ k → last_digits k (n / 10) ≡ front) → (k : ℕ) → n ≤ k → last_digits k n ≡ front ++ (48 + n % 10) ∷ []
unfolding last_digits
one_more n front many before zero le = absurd (omega (arith, many, le))
one_more n front many before (suc k) le = rw (less n many) (ap (λ (t : Text). t ++ (48 + n % 10) ∷ []) (before k (omega (arith, le))))

pub numeral : (n : ℕ) → n < 2 ^ 64 → decimal n ≡ digits n
numeral n h = sym (decimal_by_steps (λ m t. (k : ℕ) → m ≤ k → last_digits k m ≡ t) one_digit one_more n h n (omega arith))
