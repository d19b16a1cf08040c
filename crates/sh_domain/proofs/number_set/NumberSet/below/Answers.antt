use Rattle.std.proofs.Common.{◌-◌, ◌/◌, ◌%◌, arith, ap, nat_lt, slice_set, ◌∙◌}
use Rattle.std.proofs.lemmas.Nat.{one_shl}
use Rattle.sh_rows.specs.Numbers.{has_bit}
use Rattle.sh_domain.proofs.NumberSetLemmas.{front_word}
use Rattle.sh_domain.proofs.number_set.NumberSet.below.Goals as goal

pub returns-then-full-lt64 : goal.returns-then-full-lt64
returns-then-full-lt64 c k =
    let words = c.of_words-set.result.words in
    let bits = c.args.count % 64 in
    ap (λ w. has_bit k (slice_set words (c.args.count / 64) (w - 1))) (one_shl bits 64 (omega arith))
    ∙ front_word words (c.args.count / 64) bits (omega arith) (omega arith) c.of_words-set.ensures k
    ∙ ap (nat_lt k) (omega arith)
