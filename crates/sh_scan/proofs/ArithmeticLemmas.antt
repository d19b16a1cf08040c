-- Tokens of arithmetic.
use Rattle.std.proofs.Common.{◌≡◌, ℕ, ◌+◌, ◌<◌, ◌≤◌, Bool, true, false, not, ◌&&◌, ◌==◌, List, [], ◌∷◌, length, drop, codes, cond, refl, ap, sym, ◌∙◌, arith}
use Rattle.std.proofs.lemmas.Bool.Decides.{nat_tests}
use Rattle.std.proofs.lemmas.Bool.{false≢true, and_parts}
use Rattle.sh_tree.specs.declared.token.arithmetic.Figure.{Figure}
use Rattle.std.specs.Prelude.{IfSome, Some, nat_eq}
use Rattle.std.specs.List.{starts_with}
use Rattle.sh_tree.specs.standard.language.Bytes.{is_in, is_first, is_digit, is_octal, is_hexadecimal, run, longest}
use Rattle.sh_tree.specs.standard.language.Arithmetic.{constant_length, operator_table}
use Rattle.sh_scan.proofs.RunLemmas.{run_yes, run_no}

-- a run that is not empty begins
pub run_begins : (p : ℕ → Bool) (cs : List ℕ) → is_first p cs ≡ not (run p cs == 0)
unfolding is_first
run_begins p [] = refl
run_begins p (c ∷ cs) = go (p c) refl
  where
    some : (n : ℕ) → true ≡ not (n + 1 == 0)
    some n = let h : (n + 1 == 0) ≡ false = grind (arith, nat_tests) in sym (ap (λ t. not t) h)

    go : (t : Bool) → p c ≡ t → p c ≡ not (run p (c ∷ cs) == 0)
    go true is = is ∙ some (run p cs) ∙ ap (λ n. not (n == 0)) (sym (run_yes p c cs is))
    go false is = is ∙ ap (λ n. not (n == 0)) (sym (run_no p c cs is))

-- the constant that begins with the digit c
pub constant_is : (c : ℕ) (cs : List ℕ) → is_digit c ≡ true → constant_length (c ∷ cs) ≡
    cond (not (c == 48)) (run is_digit cs + 1) (cond (is_first (is_in (codes "xX")) cs && not (run is_hexadecimal (drop 1 cs) == 0)) (run is_hexadecimal (drop 1 cs) + 2) (run is_octal cs + 1))
unfolding constant_length is_first
constant_is c cs h =
    ap (λ n. cond (not (c == 48)) n (cond (is_first (is_in (codes "xX")) cs && is_first is_hexadecimal (drop 1 cs)) (run is_hexadecimal (drop 1 cs) + 2) (run is_octal cs + 1))) (run_yes is_digit c cs h)
    ∙ ap (λ t. cond (not (c == 48)) (run is_digit cs + 1) (cond (is_first (is_in (codes "xX")) cs && t) (run is_hexadecimal (drop 1 cs) + 2) (run is_octal cs + 1))) (run_begins is_hexadecimal (drop 1 cs))

-- no text of a table is empty
abbrev some_texts : List (List ℕ × Figure) → Bool
some_texts [] = true
some_texts (x ∷ xs) = not (length x.0 == 0) && some_texts xs

some : (n : ℕ) (b : Bool) → (not (n == 0) && b) ≡ true → (0 < n) × (b ≡ true)
some n true h = (grind (arith, nat_tests), refl)
some n false h = absurd (neither (not (n == 0)) h)
  where
    neither : (a : Bool) → (a && false) ≡ true → ⊥
    neither true e = false≢true e
    neither false e = false≢true e

longest_moves : (table : List (List ℕ × Figure)) (cs : List ℕ) → some_texts table ≡ true → IfSome (longest table cs) (λ found. 0 < found.1)
unfolding longest
longest_moves [] cs h = tt
longest_moves (x ∷ xs) cs h = go (starts_with nat_eq cs x.0) (some (length x.0) (some_texts xs) h).0 (longest_moves xs cs (some (length x.0) (some_texts xs) h).1)
  where
    go : (t : Bool) → 0 < length x.0 → IfSome (longest xs cs) (λ found. 0 < found.1) → IfSome (cond t (Some (x.1, length x.0)) (longest xs cs)) (λ found. 0 < found.1)
    go true first rest = first
    go false first rest = rest

pub operator_moves : (cs : List ℕ) → IfSome (longest operator_table cs) (λ found. 0 < found.1)
operator_moves cs = longest_moves operator_table cs refl

-- what begins with a text is no shorter
pub begun_within : (cs t : List ℕ) → starts_with nat_eq cs t ≡ true → length t ≤ length cs
begun_within cs [] h = omega arith
begun_within [] (c ∷ t) h = absurd (false≢true h)
begun_within (d ∷ cs) (c ∷ t) h = let shorter : length t ≤ length cs = begun_within cs t (and_parts (nat_eq c d) _ h).1 in omega arith
