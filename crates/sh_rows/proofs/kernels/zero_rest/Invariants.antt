use Rattle.std.proofs.Common.{bit_and}
use Rattle.sh_rows.specs.Words.{IsMixed}
use Rattle.sh_rows.proofs.kernels.zero_rest.Given as goal

abbrev pub invariant-loop-at : goal.invariant-loop-at
invariant-loop-at l = IsMixed bit_and l.fn.words l.words (λ _. 0) l.from l.at
