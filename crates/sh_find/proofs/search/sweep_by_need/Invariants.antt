use Rattle.sh_drafts.specs.Ready.{IsSwept}
use Rattle.sh_find.proofs.search.sweep_by_need.Given as goal

abbrev pub invariant-loop-time : goal.invariant-loop-time
invariant-loop-time l = record { swept : IsSwept l.subject l.initial.draft.certificate l.draft.certificate l.draft.probe.count }
