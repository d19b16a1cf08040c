use Rattle.std.proofs.Common.{arith, ◌∙◌}
use Rattle.std.proofs.lemmas.List.{length-set}
use Rattle.sh_domain.proofs.NumberSetLemmas.{full_word}
use Rattle.sh_domain.proofs.number_set.NumberSet.of_words.Goals as goal

pub loop-at-preserved : goal.loop-at-preserved
loop-at-preserved c = record {
  sized = length-set c.loop-at.set.words c.loop-at.at 18446744073709551615 ∙ c.loop-at.invariant.sized;
  below = full_word c.loop-at.set.words c.loop-at.at (omega (arith, c.loop-at-test.true, c.requires, c.loop-at.invariant.sized)) c.loop-at.invariant.below;
}
