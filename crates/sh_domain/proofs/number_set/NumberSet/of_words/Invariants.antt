use Rattle.std.proofs.Common.{◌≡◌, ◌*◌, ℕ, length, nat_lt}
use Rattle.sh_domain.specs.NumberSets.{numbers_of}
use Rattle.sh_domain.proofs.number_set.NumberSet.of_words.Given as goal

abbrev pub invariant-loop-at : goal.invariant-loop-at
invariant-loop-at l = record {
  sized : length l.set.words ≡ 64;
  below : (k : ℕ) → numbers_of l.set k ≡ nat_lt k (64 * l.at);
}
