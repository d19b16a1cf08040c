use Rattle.std.proofs.Common.{◌≤◌, ℕ, arith, bit_or, get_or, length, refl}
use Rattle.sh_rows.proofs.WordLemmas.{IsMixed-more}
use Rattle.sh_rows.proofs.kernels.join_front.Goals as goal

pub returns : goal.returns
returns c =
    let beside = λ (k : ℕ). get_or c.args.other.now k 0 in
    let at = c.join_blocks-at.result in
    let within : at ≤ length c.args.other.now = c.join_blocks-at.ensures.count in
    IsMixed-more bit_or c.args.words.now c.join_blocks-at.new.words c.join_rest.new.words beside beside 0 at (length c.args.other.now) (omega arith) within
    c.join_blocks-at.ensures.words c.join_rest.ensures (λ k le lt. refl)
