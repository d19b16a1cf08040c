use Rattle.std.proofs.Common.{◌≡◌, ℕ, List, subst, arith}
use Rattle.sh_rows.specs.Numbers.{has_number}
use Rattle.sh_domain.specs.declared.number_set.NumberSet.{NumberSet}
use Rattle.sh_domain.specs.NumberSets.{numbers_of}
use Rattle.sh_demands.specs.Blocks.{block_of}
use Rattle.sh_demands.proofs.BlockLemmas.{one_more_put}
use Rattle.sh_demands.proofs.blocks.sets_of.Goals as goal

pub loop-index-preserved : goal.loop-index-preserved
loop-index-preserved c =
    one_more_put (λ i (s : NumberSet). (k : ℕ) → numbers_of s k ≡ has_number k (block_of i c.args.numbers.now)) c.loop-index.sets c.loop-index.index c.of.result c.loop-index.invariant
    (subst (λ (ks : List ℕ). (k : ℕ) → numbers_of c.of.result k ≡ has_number k ks) c.block.ensures c.of.ensures)

pub returns : goal.returns
returns c = λ i small. c.loop-index.invariant i (omega arith)
