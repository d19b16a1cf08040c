use Rattle.std.proofs.Common.{◌-◌, length}
use Rattle.sh_tree.specs.standard.language.Bytes.{joined_length}
use Rattle.sh_scan.proofs.StepLemmas.{Behind}
use Rattle.sh_scan.proofs.front.joined_length.Given as goal

abbrev pub invariant-loop-length : goal.invariant-loop-length
invariant-loop-length l = Behind joined_length l.rest l.length

abbrev pub decreases-loop-length : goal.decreases-loop-length
decreases-loop-length l = length l.rest - l.length
