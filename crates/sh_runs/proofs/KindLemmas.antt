-- Names in the table of kinds, by their length.
use Rattle.std.proofs.Common.{◌≡◌, ℕ, ◌==◌, Bool, true, false, cond, [], ◌∷◌, length, refl, sym, ap, ◌∙◌, arith}
use Rattle.std.specs.List.{filter}
use Rattle.std.specs.Str.{bytes_eq}
use Rattle.std.proofs.lemmas.Bool.Decides.{nat_tests}
use Rattle.std.proofs.lemmas.Slice.Eq.{bytes_eq-Decides}
use Rattle.sh_tree.specs.standard.program.Syntax.{Text}
use Rattle.sh_runs.specs.standard.Kinds.{Table, look_up, all_names, kind_of, of_length}

-- equal texts have one length
other_length : (s t : Text) → (length s == length t) ≡ false → bytes_eq s t ≡ false
other_length s t h = go (bytes_eq s t) refl
  where
    go : (b : Bool) → bytes_eq s t ≡ b → b ≡ false
    go false e = refl
    go true e = let same : s ≡ t = (bytes_eq-Decides s t).0 e in let one : (length t == length t) ≡ true = grind (arith, nat_tests) in let other : (length t == length t) ≡ false = ap (λ u. length u == length t) (sym same) ∙ h in sym one ∙ other

-- a name is looked up among those of its length
among_length : (x : Table) (t : Text) → look_up x t ≡ look_up (filter (λ r. length r.0 == length t) x) t
unfolding look_up
among_length [] t = refl
among_length (r ∷ rs) t = go (among_length rs t) (length r.0 == length t) refl
  where
    go : look_up rs t ≡ look_up (filter (λ q. length q.0 == length t) rs) t → (b : Bool) → (length r.0 == length t) ≡ b
        → cond (bytes_eq r.0 t) r.1 (look_up rs t) ≡ look_up (cond b (r ∷ filter (λ q. length q.0 == length t) rs) (filter (λ q. length q.0 == length t) rs)) t
    go more true e = ap (cond (bytes_eq r.0 t) r.1) more
    go more false e = rw (other_length r.0 t e) more

pub by_length : (t : Text) → kind_of t ≡ look_up (of_length (length t)) t
unfolding kind_of of_length
by_length t = among_length all_names t

flipped : (n k : ℕ) → (n == k) ≡ false → (k == n) ≡ false
flipped n k h = grind (arith, nat_tests)

-- no name is longer than nine bytes, or empty
pub none_of_length : (n : ℕ) → (n == 1) ≡ false → (n == 2) ≡ false → (n == 3) ≡ false → (n == 4) ≡ false → (n == 5) ≡ false → (n == 6) ≡ false → (n == 7) ≡ false → (n == 8) ≡ false → (n == 9) ≡ false
    → [] ≡ of_length n
unfolding of_length
none_of_length n a b c d e f g h i =
    rw (flipped n 1 a, flipped n 2 b, flipped n 3 c, flipped n 4 d, flipped n 5 e, flipped n 6 f, flipped n 7 g, flipped n 8 h, flipped n 9 i) refl
