use Rattle.std.proofs.Common.{◌-◌, length}
use Rattle.sh_tree.specs.standard.language.HereDocuments.{line_length}
use Rattle.sh_scan.proofs.StepLemmas.{Behind}
use Rattle.sh_scan.proofs.here_document.line_length.Given as goal

abbrev pub invariant-loop-joins : goal.invariant-loop-joins
invariant-loop-joins l = Behind (line_length l.joins) l.rest l.length

abbrev pub decreases-loop-joins : goal.decreases-loop-joins
decreases-loop-joins l = length l.rest - l.length
