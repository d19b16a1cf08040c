-- A number that is written is the digits one after the other.
use Rattle.std.proofs.Common.{◌≡◌, ℕ, ◌+◌, ◌*◌, ◌-◌, ◌≤◌, nat_le, true, List, [], ◌∷◌, Option, Some, None, option_map, fold, refl, sym, ap, ◌∙◌, arith}
use Rattle.std.proofs.lemmas.Bool.Decides.{nat_tests}
use Rattle.std.proofs.lemmas.Option.{same_Some}
use Rattle.sh_tree.specs.standard.language.Bytes.{decimal}
use Rattle.sh_runs.specs.Profile.{is_at_most}
use Rattle.sh_table.specs.Numerals.{capped, with_digit}

one_digit : (n c : ℕ) → with_digit (capped n) c ≡ capped (n * 10 + (c - 48))
unfolding with_digit
one_digit n c = omega arith

from : (n : ℕ) (cs : List ℕ) → fold with_digit (capped n) cs ≡ capped (decimal n cs)
unfolding decimal
from n [] = refl
from n (c ∷ cs) = ap (λ m. fold with_digit m cs) (one_digit n c) ∙ from (n * 10 + (c - 48)) cs

-- a capped number is at most a lesser one exactly if the number is

pub enough_none : (most : ℕ) (o : Option ℕ) → option_map capped o ≡ None → true ≡ is_at_most most o
unfolding is_at_most
enough_none most None h = refl
enough_none most (Some n) h = cc

pub enough_some : (most k : ℕ) (o : Option ℕ) → most ≤ 255 → option_map capped o ≡ Some k → nat_le k most ≡ is_at_most most o
unfolding is_at_most
enough_some most k None l h = cc
enough_some most k (Some n) l h =
    let is : capped n ≡ k = same_Some (capped n) k h in
    let same : nat_le (capped n) most ≡ nat_le n most = grind (arith, nat_tests) in
    rw (sym is) same

pub written : (cs : List ℕ) → fold with_digit 0 cs ≡ capped (decimal 0 cs)
written cs = from 0 cs
