-- The first byte of a text.
use Rattle.std.proofs.Common.{◌≡◌, ℕ, suc, ◌<◌, Bool, true, List, [], ◌∷◌, length, sym, ap, ◌∙◌, arith}
use Rattle.std.specs.List.{take_while}
use Rattle.std.proofs.lemmas.Bool.{cond-true, true≢false, or_left}
use Rattle.std.proofs.lemmas.List.Sums.{take_while-cons}
use Rattle.sh_tree.specs.standard.language.Bytes.{is_first, run, is_name_start, is_name_byte}

pub first_some : (p : ℕ → Bool) (cs : List ℕ) → is_first p cs ≡ true → 0 < length cs
unfolding is_first
first_some p [] h = absurd (true≢false (sym h))
first_some p (c ∷ cs) h = omega arith

-- what a name begins with is a byte of it
pub name_some : (cs : List ℕ) → is_first is_name_start cs ≡ true → 0 < run is_name_byte cs
unfolding is_first
name_some [] h = absurd (true≢false (sym h))
name_some (c ∷ cs) h =
    let more : take_while is_name_byte (c ∷ cs) ≡ c ∷ take_while is_name_byte cs = take_while-cons is_name_byte c cs ∙ cond-true _ _ _ (or_left _ _ h) in
    let long : run is_name_byte (c ∷ cs) ≡ suc (run is_name_byte cs) = ap length more in
    omega arith
