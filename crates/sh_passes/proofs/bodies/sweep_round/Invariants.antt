use Rattle.sh_drafts.specs.Ready.{IsSwept}
use Rattle.sh_passes.proofs.bodies.sweep_round.Given as goal

abbrev pub invariant-loop-command : goal.invariant-loop-command
invariant-loop-command l = record { swept : IsSwept l.subject l.initial.draft.certificate l.draft.certificate l.draft.probe.count }
