use Rattle.sh_rows.proofs.WordLemmas.{has_bit-unset}
use Rattle.sh_rows.proofs.kernels.unset.Goals as goal

pub returns : goal.returns
returns c k = has_bit-unset c.args.words.now c.args.n k c.requires
