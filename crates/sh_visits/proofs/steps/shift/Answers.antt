use Rattle.std.proofs.Common.{sym, ◌∙◌}
use Rattle.sh_rules.proofs.StepLemmas.{all_shifted, some_shifted}
use Rattle.sh_visits.proofs.steps.shift.Goals as goal

pub returns-then-count-eq4294967295 : goal.returns-then-count-eq4294967295
returns-then-count-eq4294967295 c =
    λ x n e. all_shifted x n c.args.known.now c.shift_all.new.self (sym c.if-count-eq4294967295.true ∙ e) c.shift_all.ensures

pub returns-else-count-eq4294967295 : goal.returns-else-count-eq4294967295
returns-else-count-eq4294967295 c =
    λ x n e. some_shifted x c.args.count n c.args.known.now c.shift.new.self c.if-count-eq4294967295.false e c.shift.ensures
