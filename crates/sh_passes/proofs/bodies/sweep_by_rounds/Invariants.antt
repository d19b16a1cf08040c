use Rattle.sh_drafts.specs.Ready.{IsSwept}
use Rattle.sh_passes.proofs.bodies.sweep_by_rounds.Given as goal

abbrev pub invariant-loop-round : goal.invariant-loop-round
invariant-loop-round l = record { swept : IsSwept l.subject l.initial.draft.certificate l.draft.certificate l.draft.probe.count }
