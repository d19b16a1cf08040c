use Rattle.std.proofs.Common.{get_or}
use Rattle.sh_rows.specs.Words.{AllWithin}
use Rattle.sh_rows.proofs.kernels.is_rest_within.Given as goal

abbrev pub invariant-loop-at : goal.invariant-loop-at
invariant-loop-at l = AllWithin l.words (λ k. get_or l.other k 0) l.from l.at
