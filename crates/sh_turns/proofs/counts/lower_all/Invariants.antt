use Rattle.sh_drafts.specs.Ready.{IsSwept}
use Rattle.sh_turns.proofs.counts.lower_all.Given as goal

abbrev pub invariant-loop-count : goal.invariant-loop-count
invariant-loop-count l = record { swept : IsSwept l.subject l.initial.draft.certificate l.draft.certificate l.draft.probe.count }
