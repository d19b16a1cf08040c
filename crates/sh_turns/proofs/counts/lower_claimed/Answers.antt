use Rattle.std.proofs.Common.{Some, subst, sym, ◌∙◌}
use Rattle.sh_domain.specs.Facts.{facts}
use Rattle.sh_counts.specs.Equations.{worth}
use Rattle.sh_tally.specs.Counts.{HasAtMost}
use Rattle.sh_turns.specs.Counts.{HasAtMostThere}
use Rattle.sh_drafts.specs.Places.{claim_there}
use Rattle.sh_turns.proofs.counts.lower_claimed.Goals as goal

pub lower_count-requires-clause-over : goal.lower_count-requires-clause-over
lower_count-requires-clause-over c = λ other keeps slot at.
    subst (λ n. HasAtMost n (facts (claim_there other (Some c.in-Some-place_of_count.place)))) (sym c.solved_at-args.ensures)
    (subst (HasAtMostThere c.args.subject.now (worth c.args.counts.now c.args.count)) (sym c.in-Some-place_of_count.ensures) (c.requires.over c.in-Some.most (sym c.claim_at.ensures ∙ c.in-Some.is)) other keeps slot at)
