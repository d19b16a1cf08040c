use Rattle.sh_drafts.specs.Ready.{IsSwept}
use Rattle.sh_passes.proofs.bodies.sweep_waiting.Given as goal

abbrev pub invariant-loop-unit : goal.invariant-loop-unit
invariant-loop-unit l = record { swept : IsSwept l.subject l.initial.draft.certificate l.draft.certificate l.draft.probe.count }
