use Rattle.std.proofs.Common.{ap, ◌∙◌}
use Rattle.sh_rows.specs.Numbers.{has_bit}
use Rattle.sh_rows.proofs.WordLemmas.{has_bit-zeros}
use Rattle.sh_worklist.proofs.flags.Flags.none.Goals as goal

pub returns-clause-none : goal.returns-clause-none
returns-clause-none c k = ap (has_bit k) (c.in_ok-words.ensures.items_if_clones_equal (λ y e. e)) ∙ has_bit-zeros _ k
