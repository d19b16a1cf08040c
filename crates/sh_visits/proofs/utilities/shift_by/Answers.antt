use Rattle.sh_rules.specs.Walks.{facts_in}
use Rattle.sh_rules.proofs.UtilityLemmas.{shift_some}
use Rattle.std.proofs.Common.{sym, ◌∙◌}
use Rattle.sh_visits.proofs.utilities.shift_by.Goals as goal

pub returns-in-Some : goal.returns-in-Some
returns-in-Some c =
    λ x n e. shift_some x c.in-Some.count n (facts_in x c.args.known.now) (facts_in x c.shift.new.known) (sym c.in-Some.is ∙ e) (λ k. c.shift.ensures x k)
