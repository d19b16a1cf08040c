use Rattle.sh_rows.proofs.WordLemmas.{has_bit-tested}
use Rattle.sh_rows.proofs.kernels.is_set.Goals as goal

pub returns : goal.returns
returns c = has_bit-tested c.args.words.now c.args.n
