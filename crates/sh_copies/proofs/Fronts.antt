-- What is some bytes after the front of a text, before a byte that closes something.
use Rattle.std.proofs.Common.{◌≡◌, ℕ, zero, suc, ◌+◌, ◌≤◌, Bool, true, false, List, [], ◌∷◌, ◌++◌, length, drop, take, refl, sym, ap, ◌∙◌, arith, append_assoc, length-drop}
use Rattle.std.proofs.lemmas.Bool.{true≢false}
use Rattle.std.proofs.lemmas.List.{drop-append-le, take-append-le}
use Rattle.sh_tree.specs.standard.language.Bytes.{is_first, run, joined_length, behind_joined, joined_at}
use Rattle.sh_copies.proofs.AlikeBytes.{Alike, is_closer, closer_plain, joined_moves, run_moves, first_alike}

-- alike texts after n bytes before the closer
pub alike_behind : (n : ℕ) (w : List ℕ) (c : ℕ) (r r' : List ℕ) → is_closer c ≡ true → n ≤ length w → Alike (drop n (w ++ c ∷ r)) (drop n (w ++ c ∷ r'))
alike_behind n w c r r' h l = record { w = drop n w; c = c; r = r; r' = r'; closes = h; there = drop-append-le n w (c ∷ r) l; here = drop-append-le n w (c ∷ r') l }

pub whole : (w : List ℕ) (c : ℕ) (r r' : List ℕ) → is_closer c ≡ true → Alike (w ++ c ∷ r) (w ++ c ∷ r')
whole w c r r' h = record { w = w; c = c; r = r; r' = r'; closes = h; there = refl; here = refl }

-- a run after n bytes
pub run_behind : (p : ℕ → Bool) (n : ℕ) (w : List ℕ) (c : ℕ) (r r' : List ℕ) → is_closer c ≡ true → p c ≡ false → n ≤ length w
    → (run p (drop n (w ++ c ∷ r')) ≡ run p (drop n (w ++ c ∷ r))) × (run p (drop n (w ++ c ∷ r)) + n ≤ length w)
run_behind p n w c r r' h k l =
    let there : drop n (w ++ c ∷ r) ≡ drop n w ++ c ∷ r = drop-append-le n w (c ∷ r) l in
    let here : drop n (w ++ c ∷ r') ≡ drop n w ++ c ∷ r' = drop-append-le n w (c ∷ r') l in
    let m = run_moves p (drop n w) c r r' k in
    let size : run p (drop n (w ++ c ∷ r)) ≡ run p (drop n w ++ c ∷ r) = ap (run p) there in
    let long = length-drop n w in
    let within = m.1 in
    (ap (run p) here ∙ m.0 ∙ sym size, omega arith)

-- if a class that holds no closer begins a text, a byte precedes the closer
pub first_before : (p : ℕ → Bool) (n : ℕ) (w : List ℕ) (c : ℕ) (r : List ℕ) → p c ≡ false → n ≤ length w → is_first p (drop n (w ++ c ∷ r)) ≡ true → n + 1 ≤ length w
unfolding is_first
first_before p n [] c r k l h = absurd (true≢false (sym h ∙ go n (omega arith)))
  where
    go : (n : ℕ) → n ≡ 0 → is_first p (drop n (c ∷ r)) ≡ false
    go zero e = k
    go (suc n) e = absurd (omega arith)
first_before p zero (a ∷ w) c r k l h = omega arith
first_before p (suc n) (a ∷ w) c r k l h = let rest = first_before p n w c r k (omega arith) h in omega arith

pub first_same : (p : ℕ → Bool) (n : ℕ) (w : List ℕ) (c : ℕ) (r r' : List ℕ) → is_closer c ≡ true → n ≤ length w → is_first p (drop n (w ++ c ∷ r')) ≡ is_first p (drop n (w ++ c ∷ r))
first_same p n w c r r' h l = first_alike p _ _ (alike_behind n w c r r' h l)

-- a text without the continuations after its first n bytes
pub joined_at_is : (n : ℕ) (w : List ℕ) (c : ℕ) (r r' : List ℕ) → is_closer c ≡ true → n ≤ length w → (v : List ℕ) × (joined_at n (w ++ c ∷ r) ≡ v ++ c ∷ r) × (joined_at n (w ++ c ∷ r') ≡ v ++ c ∷ r')
joined_at_is n w c r r' h l =
    let plain = closer_plain c h in
    let v = drop n w in
    let j = joined_moves v c r r' plain.backslash plain.newline in
    let k = joined_length (v ++ c ∷ r) in
    let text : (x : List ℕ) → joined_length (v ++ c ∷ x) ≡ k → joined_at n (w ++ c ∷ x) ≡ (take n w ++ drop k v) ++ c ∷ x =
    (λ x e. ap (λ t. t ++ behind_joined (drop n (w ++ c ∷ x))) (take-append-le n w (c ∷ x) l)
    ∙ ap (λ t. take n w ++ behind_joined t) (drop-append-le n w (c ∷ x) l)
    ∙ ap (λ m. take n w ++ drop m (v ++ c ∷ x)) e
    ∙ ap (λ t. take n w ++ t) (drop-append-le k v (c ∷ x) j.1)
    ∙ sym (append_assoc (take n w) (drop k v) (c ∷ x))) in
    (take n w ++ drop k v, text r refl, text r' j.0)
