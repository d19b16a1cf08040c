use Rattle.std.proofs.Common.{◌≡◌, ◌*◌, get_or}
use Rattle.std.proofs.Common.{bit_or}
use Rattle.sh_rows.specs.Words.{IsMixed}
use Rattle.sh_rows.proofs.kernels.join_blocks.Given as goal

abbrev pub invariant-loop-block : goal.invariant-loop-block
invariant-loop-block l = record {
  place : l.at ≡ 4 * l.block-index;
  mixed : IsMixed bit_or l.fn.words l.words (λ k. get_or l.other k 0) 0 l.at;
}
