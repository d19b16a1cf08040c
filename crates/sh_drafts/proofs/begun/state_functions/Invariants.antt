use Rattle.std.proofs.Common.{◌≡◌, ℕ, List, Bool, length}
use Rattle.sh_drafts.specs.Begun.{IsBegunAt, functions_below}
use Rattle.sh_drafts.specs.Working.{IsWorking}
use Rattle.sh_drafts.proofs.begun.state_functions.Given as goal

abbrev pub invariant-loop-index : goal.invariant-loop-index
invariant-loop-index l = record {
  begun : IsBegunAt l.subject.compact.now (functions_below l.index) l.index l.certificate;
  working : (loops : List Bool) (functions : ℕ) → IsWorking l.subject.names.now loops functions l.initial.certificate → IsWorking l.subject.names.now loops functions l.certificate;
  probed : l.probe.count ≡ length l.subject.names.now;
}
