use Rattle.sh_find.proofs.GreatestLemmas.{left, IsTurned}
use Rattle.sh_find.proofs.search.settle.Given as goal

abbrev pub invariant-turns : goal.invariant-turns
invariant-turns l = record { turned : IsTurned l.subject l.initial.draft.certificate l.draft.certificate l.draft.probe.count l.kept }

abbrev pub decreases-turns : goal.decreases-turns
decreases-turns l = left l.subject.names.now l.draft.certificate l.kept
