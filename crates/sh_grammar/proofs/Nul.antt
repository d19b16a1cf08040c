-- Where the first NUL is, and that there is none.
use Rattle.std.proofs.Common.{◌≡◌, ℕ, ◌+◌, ◌<◌, ◌≤◌, ◌==◌, Bool, true, false, not, ◌||◌, List, [], ◌∷◌, length, nat_lt, Some, None, cond, refl, ap, ◌∙◌, ⊎_elim, arith}
use Rattle.std.specs.List.{list_any, position_or_len}
use Rattle.std.proofs.lemmas.Bool.{cases_lt, lt-ltb, false_from_ne_true}
use Rattle.std.proofs.lemmas.Bool.Decides.{nat_tests}
use Rattle.std.proofs.lemmas.List.Sums.{position_or_len_is}
use Rattle.memchr.specs.Find.{IsFirstByte, is_byte}
use Rattle.sh_tree.specs.Answers.{first_nul}

pub no_nul : (b : List ℕ) → IsFirstByte (is_byte 0) b None → first_nul b ≡ None
no_nul b none =
    let n : position_or_len (λ c. c == 0) b ≡ length b =
    position_or_len_is (λ c. c == 0) b (length b) 0 (omega arith) (λ k below. false_from_ne_true _ (none k (omega arith) below)) (λ below. absurd (omega arith)) in
    let at_end : nat_lt (position_or_len (λ c. c == 0) b) (length b) ≡ false = grind (arith, nat_tests) in
    ap (λ v. cond v (Some (position_or_len (λ c. c == 0) b)) None) at_end

pub nul_at : (b : List ℕ) (k : ℕ) → IsFirstByte (is_byte 0) b (Some k) → first_nul b ≡ Some k
nul_at b k found =
    let first = found.0 in
    let n : position_or_len (λ c. c == 0) b ≡ k =
    position_or_len_is (λ c. c == 0) b k 0 (let h : k < length b = first.high in omega arith) (λ j below. false_from_ne_true _ (first.before j (omega arith) below)) (λ below. found.1) in
    let inside : nat_lt (position_or_len (λ c. c == 0) b) (length b) ≡ true = lt-ltb _ _ (let h : k < length b = first.high in omega arith) in
    ap (λ v. cond v (Some (position_or_len (λ c. c == 0) b)) None) inside ∙ ap (λ v. Some v) n

step : (q : Bool) (n l : ℕ) (rest : Bool) → (l ≤ n → rest ≡ false) → l + 1 ≤ cond (not q) (1 + n) 0 → (q || rest) ≡ false
step true n l rest h far = absurd (omega arith)
step false n l rest h far = h (omega arith)

none_passes : (p : ℕ → Bool) (xs : List ℕ) → length xs ≤ position_or_len p xs → list_any p xs ≡ false
none_passes p [] h = refl
none_passes p (x ∷ xs) h = step (p x) (position_or_len p xs) (length xs) (list_any p xs) (none_passes p xs) (omega arith)

pub has_no_nul : (b : List ℕ) → first_nul b ≡ None → list_any (λ c. c == 0) b ≡ false
has_no_nul b none =
    ⊎_elim
    (λ below. let found = ap (λ v. cond v (Some (position_or_len (λ c. c == 0) b)) None) (lt-ltb (position_or_len (λ c. c == 0) b) (length b) below) in cc)
    (λ far. none_passes (λ c. c == 0) b far) (cases_lt (position_or_len (λ c. c == 0) b) (length b))
