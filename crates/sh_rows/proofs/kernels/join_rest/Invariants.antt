use Rattle.std.proofs.Common.{get_or}
use Rattle.std.proofs.Common.{bit_or}
use Rattle.sh_rows.specs.Words.{IsMixed}
use Rattle.sh_rows.proofs.kernels.join_rest.Given as goal

abbrev pub invariant-loop-at : goal.invariant-loop-at
invariant-loop-at l = IsMixed bit_or l.fn.words l.words (λ k. get_or l.other k 0) l.from l.at
