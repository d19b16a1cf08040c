use Rattle.std.proofs.Common.{◌≤◌, ℕ, arith, get_or, length, refl, take}
use Rattle.sh_rows.specs.Words.{without}
use Rattle.sh_rows.proofs.WordLemmas.{IsMixed-more, beside_front, removed_whole, has_bit-removed}
use Rattle.sh_rows.proofs.kernels.remove_words.Goals as goal

pub returns-clause-words : goal.returns-clause-words
returns-clause-words c =
    let old = c.args.words.now in
    let other = c.args.other.now in
    let shared = c.min-shared.result in
    let front = take shared other in
    let is = beside_front old other shared c.min-shared.ensures in
    let beside = λ (k : ℕ). get_or front k 0 in
    let at = c.remove_blocks-at.result in
    let within : at ≤ length front = c.remove_blocks-at.ensures.count in
    let removed = IsMixed-more without old c.remove_blocks-at.new.words c.remove_rest.new.words beside beside 0 at (length front) (omega arith) within
    c.remove_blocks-at.ensures.words c.remove_rest.ensures (λ k le lt. refl) in
    removed_whole old c.remove_rest.new.words other front shared is removed (λ k. (c.type_inv.words k).fits)

pub returns-clause-bits : goal.returns-clause-bits
returns-clause-bits c =
    has_bit-removed c.args.words.now c.remove_rest.new.words c.args.other.now (λ k. (c.type_inv.other k).fits) (returns-clause-words c)
