use Rattle.std.proofs.Common.{take}
use Rattle.sh_rows.proofs.WordLemmas.{beside_front, joined_whole, has_bit-joined}
use Rattle.sh_rows.proofs.kernels.join_words.Goals as goal

pub returns-clause-words : goal.returns-clause-words
returns-clause-words c =
    let old = c.args.words.now in
    let other = c.args.other.now in
    let shared = c.min-shared.result in
    joined_whole old c.join_front.new.words other (take shared other) shared (beside_front old other shared c.min-shared.ensures) c.join_front.ensures

pub returns-clause-bits : goal.returns-clause-bits
returns-clause-bits c = has_bit-joined c.args.words.now c.join_front.new.words c.args.other.now (returns-clause-words c)
