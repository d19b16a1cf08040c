-- What the bodies of here-documents come to in sum.
use Rattle.std.proofs.Common.{◌≡◌, ℕ, zero, suc, ◌+◌, false, List, [], ◌∷◌, ◌++◌, refl, length, arith}
use Rattle.std.proofs.lemmas.Bool.{true≢false}
use Rattle.sh_tree.specs.standard.language.HereDocuments.{Mark}
use Rattle.sh_tree.specs.standard.language.States.{Document, nth, waits}

pub none_wait : (ms : List Mark) → waits ms ≡ false → length ms ≡ 0
unfolding waits
none_wait [] h = refl
none_wait (m ∷ ms) h = absurd (true≢false h)

module _ (in_body : Document → ℕ) where
  -- in the bodies that have come
  pub in_bodies : List Document → ℕ
  in_bodies [] = 0
  in_bodies (d ∷ ds) = in_body d + in_bodies ds

  -- in those of the first m operators
  pub of_operators : (ℕ → Document) → ℕ → ℕ
  of_operators body zero = 0
  of_operators body (suc m) = of_operators body m + in_body (body m)

  pub bodies_push : (ds : List Document) (d : Document) → in_bodies (ds ++ d ∷ []) ≡ in_bodies ds + in_body d
  unfolding in_bodies
  bodies_push [] d = omega arith
  bodies_push (c ∷ ds) d = let rest = bodies_push ds d in omega arith

  pub operators_push : (body : ℕ → Document) (k m : ℕ) → m ≡ k + 1 → of_operators body m ≡ of_operators body k + in_body (body k)
  unfolding of_operators
  operators_push body k m e = let same : m ≡ suc k = omega arith in rw same refl

  nth_operators : (d : Document) (ds : List Document) (m : ℕ) → of_operators (nth (d ∷ ds)) (suc m) ≡ in_body d + of_operators (nth ds) m
  unfolding of_operators nth
  nth_operators d ds zero = omega arith
  nth_operators d ds (suc m) = let rest = nth_operators d ds m in omega arith

  -- if each has come they are the same
  pub all_operators : (ds : List Document) → of_operators (nth ds) (length ds) ≡ in_bodies ds
  unfolding of_operators in_bodies
  all_operators [] = refl
  all_operators (d ∷ ds) = let first = nth_operators d ds (length ds) in let rest = all_operators ds in omega arith

  pub no_operators : (body : ℕ → Document) → of_operators body 0 ≡ 0
  unfolding of_operators
  no_operators body = refl

  pub no_bodies : in_bodies [] ≡ 0
  unfolding in_bodies
  no_bodies = refl
