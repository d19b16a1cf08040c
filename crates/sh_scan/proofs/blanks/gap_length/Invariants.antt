use Rattle.std.proofs.Common.{◌-◌, length}
use Rattle.sh_tree.specs.standard.language.Commands.{gap_length}
use Rattle.sh_scan.proofs.StepLemmas.{Behind}
use Rattle.sh_scan.proofs.blanks.gap_length.Given as goal

abbrev pub invariant-loop-length : goal.invariant-loop-length
invariant-loop-length l = Behind gap_length l.rest l.length

abbrev pub decreases-loop-length : goal.decreases-loop-length
decreases-loop-length l = length l.rest - l.length
