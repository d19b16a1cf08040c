use Rattle.std.proofs.Common.{◌+◌, ◌-◌, ◌/◌, ◌<◌, ℕ, [], arith, ap, ◌∙◌, get_or, length}
use Rattle.std.proofs.lemmas.Bool.{both_ways}
use Rattle.sh_rows.specs.Words.{without}
use Rattle.sh_rows.proofs.WordLemmas.{AllWithin-more, block_word}
use Rattle.sh_rows.proofs.kernels.blocks_within.Goals as goal

pub loop-block-preserved : goal.loop-block-preserved
loop-block-preserved c =
    let other = c.args.other.now in
    let blocks = c.as_chunks.result.0.now in
    let i = c.loop-block.block-index in
    let at = c.loop-block.at in
    let inside : i < length other / 4 = omega arith in
    record {
      place = omega arith;
      within = AllWithin-more c.args.words.now (λ (k : ℕ). get_or other k 0) (λ (k : ℕ). get_or (get_or blocks i []) (k - at) 0) 0 at (at + 4) c.loop-block.invariant.within
          (c.is_block_within.ensures.0 c.if-is_block_within.true)
          (λ k le less. block_word other blocks at i k c.loop-block.invariant.place inside c.as_chunks.ensures.front le less);
    }

pub returns-else-is_block_within-clause-none : goal.returns-else-is_block_within-clause-none
returns-else-is_block_within-clause-none c all =
    let words = c.args.words.now in
    let other = c.args.other.now in
    let blocks = c.as_chunks.result.0.now in
    let i = c.loop-block.block-index in
    let at = c.loop-block.at in
    let inside : i < length other / 4 = omega arith in
    both_ways _ c.if-is_block_within.false
    (c.is_block_within.ensures.1
    (λ k le less.
    ap (without (get_or words k 0)) (block_word other blocks at i k c.loop-block.invariant.place inside c.as_chunks.ensures.front le less)
    ∙ all k (omega arith) (omega arith)))
