use Rattle.std.proofs.Common.{◌+◌, get_or, arith, refl, ℕ, length, set}
use Rattle.std.proofs.Common.{bit_or}
use Rattle.sh_rows.proofs.WordLemmas.{IsMixed-none, IsMixed-more, IsMixed-one, IsMixed-end}
use Rattle.sh_rows.proofs.kernels.join_rest.Goals as goal

pub loop-at-init : goal.loop-at-init
loop-at-init c = IsMixed-none bit_or c.args.words.now _ c.args.from

pub loop-at-preserved : goal.loop-at-preserved
loop-at-preserved c =
    let beside = λ (k : ℕ). get_or c.args.other.now k 0 in
    let words = c.loop-at.words in
    let at = c.loop-at.at in
    let made = bit_or (get_or words at 0) (get_or c.args.other.now at 0) in
    IsMixed-more bit_or c.args.words.now words (set words at made) beside beside c.args.from at (at + 1) (omega arith) (omega arith)
    c.loop-at.invariant (IsMixed-one bit_or words beside at made (omega arith) refl) (λ k le lt. refl)

pub returns : goal.returns
returns c = IsMixed-end bit_or c.args.words.now c.loop-at.words _ c.args.from c.loop-at.at (length c.args.other.now) c.loop-at.invariant (omega arith)
