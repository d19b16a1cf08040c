use Rattle.std.proofs.Common.{bit_and, arith, get_or, ℕ, ◌+◌, sym, set, refl, length}
use Rattle.sh_rows.proofs.WordLemmas.{IsMixed-none, IsMixed-more, IsMixed-one, IsMixed-end, and_zero}
use Rattle.sh_rows.proofs.kernels.zero_rest.Goals as goal

pub loop-at-init : goal.loop-at-init
loop-at-init c = IsMixed-none bit_and c.args.words.now _ c.args.from

pub loop-at-preserved : goal.loop-at-preserved
loop-at-preserved c =
    let none : ℕ → ℕ = λ k. 0 in
    let words = c.loop-at.words in
    let at = c.loop-at.at in
    IsMixed-more bit_and c.args.words.now words (set words at 0) none none c.args.from at (at + 1) (omega arith) (omega arith)
    c.loop-at.invariant (IsMixed-one bit_and words none at 0 (omega arith) (sym (and_zero (get_or words at 0)))) (λ k le lt. refl)

pub returns : goal.returns
returns c = IsMixed-end bit_and c.args.words.now c.loop-at.words _ c.args.from c.loop-at.at (length c.args.words.now) c.loop-at.invariant (omega arith)
