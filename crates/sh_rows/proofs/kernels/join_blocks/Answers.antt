use Rattle.std.proofs.Common.{arith, refl}
use Rattle.std.proofs.Common.{bit_or}
use Rattle.sh_rows.proofs.WordLemmas.{IsMixed-none, IsMixed-block}
use Rattle.sh_rows.proofs.kernels.join_blocks.Goals as goal

pub loop-block-init : goal.loop-block-init
loop-block-init c = record { place = refl; mixed = IsMixed-none bit_or c.args.words.now _ 0 }

pub loop-block-preserved : goal.loop-block-preserved
loop-block-preserved c = record {
  place = omega arith;
  mixed = IsMixed-block bit_or c.args.words.now c.loop-block.words c.join_block.new.words c.args.other.now c.as_chunks.result.0.now
      c.loop-block.at c.loop-block.block-index c.loop-block.invariant.place (omega arith) c.as_chunks.ensures.front c.loop-block.invariant.mixed c.join_block.ensures;
}
