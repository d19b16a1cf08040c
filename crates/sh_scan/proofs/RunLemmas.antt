-- How many bytes of a class are at the front.
use Rattle.std.proofs.Common.{◌≡◌, ℕ, ◌+◌, ◌<◌, ◌≤◌, ◌==◌, Bool, true, false, not, Some, None, List, [], ◌∷◌, ◌++◌, length, take_while, cond, refl, ap, ◌∙◌, sym, arith}
use Rattle.std.specs.List.{position_or_len}
use Rattle.std.proofs.lemmas.Bool.{false_from_ne_true}
use Rattle.std.proofs.lemmas.List.Folds.{length-prefix_len}
use Rattle.std.proofs.lemmas.List.Sums.{position_or_len_is, take_while-cons}
use Rattle.memchr.specs.Find.{IsFirstByte, is_byte}
use Rattle.sh_tree.specs.standard.language.Bytes.{run}

pub run_yes : (p : ℕ → Bool) (c : ℕ) (cs : List ℕ) → p c ≡ true → run p (c ∷ cs) ≡ run p cs + 1
run_yes p c cs h = ap length (take_while-cons p c cs ∙ ap (λ t. cond t (c ∷ take_while p cs) []) h) ∙ omega arith

pub run_no : (p : ℕ → Bool) (c : ℕ) (cs : List ℕ) → p c ≡ false → run p (c ∷ cs) ≡ 0
run_no p c cs h = ap length (take_while-cons p c cs ∙ ap (λ t. cond t (c ∷ take_while p cs) []) h)

-- a run that ends in the first piece
pub run_ends : (p : ℕ → Bool) (xs ys : List ℕ) → run p xs < length xs → run p (xs ++ ys) ≡ run p xs
run_ends p [] ys h = absurd (omega arith)
run_ends p (x ∷ xs) ys h = go (λ below. run_ends p xs ys below) (p x) refl
  where
    go : (run p xs < length xs → run p (xs ++ ys) ≡ run p xs) → (t : Bool) → p x ≡ t → run p (x ∷ (xs ++ ys)) ≡ run p (x ∷ xs)
    go shorter true is =
        let whole : run p (x ∷ xs) ≡ run p xs + 1 = run_yes p x xs is in
        let below : run p xs < length xs = omega arith in
        run_yes p x (xs ++ ys) is ∙ ap (λ n. n + 1) (shorter below) ∙ sym whole
    go shorter false is = run_no p x (xs ++ ys) is ∙ sym (run_no p x xs is)

-- a run over all of the first piece
pub run_over : (p : ℕ → Bool) (xs ys : List ℕ) → length xs ≤ run p xs → run p (xs ++ ys) ≡ run p xs + run p ys
run_over p [] ys h = let none : run p [] ≡ 0 = refl in let same : run p ([] ++ ys) ≡ run p ys = refl in omega arith
run_over p (x ∷ xs) ys h = go (λ full. run_over p xs ys full) (p x) refl
  where
    go : (length xs ≤ run p xs → run p (xs ++ ys) ≡ run p xs + run p ys) → (t : Bool) → p x ≡ t → run p (x ∷ (xs ++ ys)) ≡ run p (x ∷ xs) + run p ys
    go shorter true is =
        let whole : run p (x ∷ xs) ≡ run p xs + 1 = run_yes p x xs is in
        let full : length xs ≤ run p xs = omega arith in
        let rest : run p (xs ++ ys) ≡ run p xs + run p ys = shorter full in
        let more : run p (x ∷ (xs ++ ys)) ≡ run p (xs ++ ys) + 1 = run_yes p x (xs ++ ys) is in
        omega arith
    go shorter false is = let none : run p (x ∷ xs) ≡ 0 = run_no p x xs is in absurd (omega arith)

-- what a search of the byte d says of the bytes before it

pub run_without : (d : ℕ) (cs : List ℕ) → IsFirstByte (is_byte d) cs None → run (λ c. not (c == d)) cs ≡ length cs
run_without d cs none =
    let n : position_or_len (λ c. c == d) cs ≡ length cs =
    position_or_len_is (λ c. c == d) cs (length cs) 0 (omega arith) (λ k below. false_from_ne_true _ (none k (omega arith) below)) (λ below. absurd (omega arith)) in
    length-prefix_len (λ c. not (c == d)) cs ∙ n

pub run_before : (d : ℕ) (cs : List ℕ) (k : ℕ) → IsFirstByte (is_byte d) cs (Some k) → run (λ c. not (c == d)) cs ≡ k
run_before d cs k found =
    let first = found.0 in
    let n : position_or_len (λ c. c == d) cs ≡ k =
    position_or_len_is (λ c. c == d) cs k 0 (let h : k < length cs = first.high in omega arith) (λ j below. false_from_ne_true _ (first.before j (omega arith) below)) (λ below. found.1) in
    length-prefix_len (λ c. not (c == d)) cs ∙ n
