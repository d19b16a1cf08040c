use Rattle.std.proofs.Common.{◌++◌, bit_and, length, drop, subst}
use Rattle.sh_rows.specs.Words.{IsMixed}
use Rattle.sh_rows.proofs.WordLemmas.{copied_whole, copied_past, has_bit-copied}
use Rattle.sh_rows.proofs.kernels.copy_words.Goals as goal

pub returns-clause-words : goal.returns-clause-words
returns-clause-words c =
    let old = c.args.words.now in
    let shared = c.min-shared.result in
    copied_whole old c.zero_rest.new.words c.args.other.now shared c.min-shared.ensures
    (subst (λ front. IsMixed bit_and (front ++ drop shared old) c.zero_rest.new.words (λ _. 0) shared (length (front ++ drop shared old))) c.copy_from_slice.ensures.after c.zero_rest.ensures)

pub returns-clause-bits : goal.returns-clause-bits
returns-clause-bits c =
    let old = c.args.words.now in
    let shared = c.min-shared.result in
    has_bit-copied old c.zero_rest.new.words c.args.other.now (returns-clause-words c)
    (copied_past old c.zero_rest.new.words c.args.other.now shared c.min-shared.ensures
    (subst (λ front. IsMixed bit_and (front ++ drop shared old) c.zero_rest.new.words (λ _. 0) shared (length (front ++ drop shared old))) c.copy_from_slice.ensures.after c.zero_rest.ensures))
