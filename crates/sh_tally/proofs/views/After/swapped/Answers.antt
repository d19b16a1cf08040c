use Rattle.std.proofs.Common.{sym, subst}
use Rattle.sh_domain.specs.Views as views
use Rattle.sh_tally.specs.Views.{SeeAfter}
use Rattle.sh_tally.proofs.ViewLemmas.{see_kept, see_swapped}
use Rattle.sh_tally.proofs.views.After.swapped.Goals as goal

pub returns-then-is_negated : goal.returns-then-is_negated
returns-then-is_negated c = λ functions o s. subst (λ b. SeeAfter functions (views.swapped b o) (record { zero = c.args.self.nonzero; nonzero = c.args.self.zero })) (sym c.if-is_negated.true) (see_swapped functions o c.args.self s)

pub returns-else-is_negated : goal.returns-else-is_negated
returns-else-is_negated c = λ functions o s. subst (λ b. SeeAfter functions (views.swapped b o) c.args.self) (sym c.if-is_negated.false) (see_kept functions o c.args.self s)
