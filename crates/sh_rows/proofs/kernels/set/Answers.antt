use Rattle.sh_rows.proofs.WordLemmas.{has_bit-set}
use Rattle.sh_rows.proofs.kernels.set.Goals as goal

pub returns : goal.returns
returns c k = has_bit-set c.args.words.now c.args.n k c.requires
