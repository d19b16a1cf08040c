use Rattle.std.proofs.Common.{arith, bit_or}
use Rattle.sh_rows.proofs.WordLemmas.{mixed_lanes}
use Rattle.sh_rows.proofs.kernels.join_block.Goals as goal

pub returns : goal.returns
returns c = mixed_lanes bit_or c.args.words.now c.args.block.now c.args.at c.requires (omega arith)
