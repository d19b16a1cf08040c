-- A function that a command calls is one of the script (XCU 2.9.1.4).
use Rattle.std.proofs.Common.{◌≡◌, ℕ, ◌+◌, ◌<◌, ◌≤◌, Bool, true, false, if◌then◌else◌, Some, None, List, [], ◌∷◌, length, arith}
use Rattle.std.specs.List.{position_from}
use Rattle.std.specs.Str.{bytes_eq}
use Rattle.sh_tree.specs.standard.program.Syntax.{Text}
use Rattle.sh_runs.specs.Calls.{Table, callee_at, called, text_at}
use Rattle.sh_runs.specs.Profile.{Static}
use Rattle.sh_runs.specs.standard.Kinds.{kind_of, is_special}

position_some : {A : Type 0} (p : A → Bool) (k : ℕ) (xs : List A) (f : ℕ) → position_from p k xs ≡ Some f → (k ≤ f) × (f < k + length xs)
position_some p k [] f e = cc
position_some p k (x ∷ xs) f e = go (p x) (position_some p (k + 1) xs f) e
  where
    go : (b : Bool) → (position_from p (k + 1) xs ≡ Some f → (k + 1 ≤ f) × (f < k + 1 + length xs)) → (if b then Some k else position_from p (k + 1) xs) ≡ Some f → (k ≤ f) × (f < k + length (x ∷ xs))
    go true others e = let same : k ≡ f = cc in (omega (arith, same), omega (arith, same))
    go false others e = let rest = others e in (omega (arith, rest.0), omega (arith, rest.1))

called_some : (names : List Text) (o : Static) (f : ℕ) → called names o ≡ Some f → (0 < f) × (f ≤ length names)
unfolding called
called_some names None f e = cc
called_some names (Some t) f e = go (is_special (kind_of t)) e
  where
    go : (b : Bool) → (if b then None else position_from (λ name. bytes_eq name t) 1 names) ≡ Some f → (0 < f) × (f ≤ length names)
    go true e = cc
    go false e = let found = position_some (λ name. bytes_eq name t) 1 names f e in (omega (arith, found.0), omega (arith, found.1))

pub callee_some : (t : Table) (n f : ℕ) → callee_at t n ≡ Some f → (0 < f) × (f ≤ length t.functions.names)
unfolding callee_at
callee_some t n f e = called_some t.functions.names (text_at t n 0) f e
