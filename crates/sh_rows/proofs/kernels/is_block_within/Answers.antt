use Rattle.std.proofs.Common.{arith}
use Rattle.sh_rows.proofs.WordLemmas.{within_lanes}
use Rattle.sh_rows.proofs.kernels.is_block_within.Goals as goal

pub returns : goal.returns
returns c = within_lanes c.args.words.now c.args.block.now c.args.at c.requires (omega arith)
