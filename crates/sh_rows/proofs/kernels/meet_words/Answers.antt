use Rattle.std.proofs.Common.{◌≤◌, ℕ, arith, bit_and, get_or, length, refl, take}
use Rattle.sh_rows.proofs.WordLemmas.{IsMixed-more, beside_front, met_whole, has_bit-met}
use Rattle.sh_rows.proofs.kernels.meet_words.Goals as goal

pub returns-clause-words : goal.returns-clause-words
returns-clause-words c =
    let old = c.args.words.now in
    let other = c.args.other.now in
    let shared = c.min-shared.result in
    let front = take shared other in
    let is = beside_front old other shared c.min-shared.ensures in
    let beside = λ (k : ℕ). get_or front k 0 in
    let at = c.meet_blocks-at.result in
    let within : at ≤ length front = c.meet_blocks-at.ensures.count in
    let met = IsMixed-more bit_and old c.meet_blocks-at.new.words c.meet_rest.new.words beside beside 0 at (length front) (omega arith) within
    c.meet_blocks-at.ensures.words c.meet_rest.ensures (λ k le lt. refl) in
    met_whole old c.meet_rest.new.words c.zero_rest.new.words other front shared is met c.zero_rest.ensures (omega arith)

pub returns-clause-bits : goal.returns-clause-bits
returns-clause-bits c = has_bit-met c.args.words.now c.zero_rest.new.words c.args.other.now (returns-clause-words c)
