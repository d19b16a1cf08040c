use Rattle.std.proofs.Common.{arith, bit_and}
use Rattle.sh_rows.proofs.WordLemmas.{mixed_lanes}
use Rattle.sh_rows.proofs.kernels.meet_block.Goals as goal

pub returns : goal.returns
returns c = mixed_lanes bit_and c.args.words.now c.args.block.now c.args.at c.requires (omega arith)
