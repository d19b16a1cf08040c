use Rattle.sh_rows.proofs.WordLemmas.{all_within, bits_within}
use Rattle.sh_rows.proofs.kernels.is_set_within.Goals as goal

pub returns : goal.returns
returns c =
    bits_within c.args.words.now c.args.other.now _ (λ k. (c.type_inv.words k).fits) (λ k. (c.type_inv.other k).fits) (all_within c.args.words.now c.args.other.now c.requires.0 c.requires.1)
