use Rattle.sh_demands.proofs.BlockLemmas.{block_is}
use Rattle.sh_demands.proofs.blocks.block.Goals as goal

pub returns : goal.returns
returns c = block_is c.args.numbers.now c.args.index c.min-start.result c.min-end.result c.min-start.ensures c.min-end.ensures
