use Rattle.std.proofs.Common.{◌-◌, length}
use Rattle.sh_scan.specs.Steps.{quoted_length}
use Rattle.sh_scan.proofs.StepLemmas.{Behind}
use Rattle.sh_scan.proofs.words.escapes.quoted_length.Given as goal

abbrev pub invariant-loop-length : goal.invariant-loop-length
invariant-loop-length l = Behind quoted_length l.rest l.length

abbrev pub decreases-loop-length : goal.decreases-loop-length
decreases-loop-length l = length l.rest - l.length
