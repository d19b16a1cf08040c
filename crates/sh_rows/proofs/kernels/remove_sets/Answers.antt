use Rattle.sh_rows.proofs.WordLemmas.{all_removed, has_bit-removed}
use Rattle.sh_rows.proofs.kernels.remove_sets.Goals as goal

pub returns : goal.returns
returns c =
    has_bit-removed c.args.words.now _ c.args.other.now (λ k. (c.type_inv.other k).fits) (all_removed c.args.words.now c.args.other.now c.requires.0 c.requires.1)
