use Rattle.sh_rows.proofs.WordLemmas.{all_met, has_bit-met}
use Rattle.sh_rows.proofs.kernels.meet_sets.Goals as goal

pub returns : goal.returns
returns c = has_bit-met c.args.words.now _ c.args.other.now (all_met c.args.words.now c.args.other.now c.requires.0 c.requires.1)
