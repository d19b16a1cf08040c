use Rattle.std.proofs.Common.{◌≡◌, ◌*◌, ◌∙◌, ap, length, arith}
use Rattle.std.specs.Prelude.{nat_lt}
use Rattle.sh_worklist.proofs.FlagLemmas.{all_ones}
use Rattle.sh_worklist.proofs.flags.set_all.Goals as goal

pub returns : goal.returns
returns c k =
    let same : length c.loop-word.word-items ≡ length c.args.words.now = omega arith in
    all_ones c.loop-word.word-items (λ i lt. c.loop-word.invariant i (omega arith)) k ∙ ap (λ n. nat_lt k (64 * n)) same
