use Rattle.std.proofs.Common.{◌≡◌, ◌*◌, get_or}
use Rattle.sh_rows.specs.Words.{AllWithin}
use Rattle.sh_rows.proofs.kernels.blocks_within.Given as goal

abbrev pub invariant-loop-block : goal.invariant-loop-block
invariant-loop-block l = record {
  place : l.at ≡ 4 * l.block-index;
  within : AllWithin l.words (λ k. get_or l.other k 0) 0 l.at;
}
