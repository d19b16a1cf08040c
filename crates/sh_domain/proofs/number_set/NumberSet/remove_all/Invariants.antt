use Rattle.std.proofs.Common.{◌≡◌, ℕ, ◌&&◌, not, take}
use Rattle.sh_rows.specs.Numbers.{has_number}
use Rattle.sh_domain.specs.NumberSets.{numbers_of}
use Rattle.sh_domain.proofs.number_set.NumberSet.remove_all.Given as goal

abbrev pub invariant-loop-n : goal.invariant-loop-n
invariant-loop-n l = (k : ℕ) → numbers_of l.self k ≡ (not (has_number k (take l.n-index l.numbers)) && numbers_of l.initial.self k)
