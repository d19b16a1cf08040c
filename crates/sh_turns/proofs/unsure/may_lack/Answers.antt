use Rattle.std.proofs.Common.{ℕ, Option, not, sym, ap, ◌∙◌}
use Rattle.sh_domain.specs.KeptRows.{holds_at}
use Rattle.sh_domain.specs.Knowledge.{at_number}
use Rattle.sh_turns.specs.Counts.{may_lack}
use Rattle.sh_turns.proofs.unsure.may_lack.Goals as goal

pub returns-in-Some : goal.returns-in-Some
unfolding may_lack at_number
returns-in-Some c =
    ap not c.has.ensures
    ∙ ap (λ (o : Option ℕ). not (at_number (holds_at c.args.certificate.now.rows.rows c.in-Known.functions.index) o)) (sym c.in-Some.is ∙ c.number.ensures.number)
    ∙ ap (may_lack c.args.names.now c.args.certificate.now c.args.function.now) (sym c.in-Known.is)

pub returns-in-None : goal.returns-in-None
unfolding may_lack at_number
returns-in-None c =
    ap (λ (o : Option ℕ). not (at_number (holds_at c.args.certificate.now.rows.rows c.in-Known.functions.index) o)) (sym c.in-None.is ∙ c.number.ensures.number)
    ∙ ap (may_lack c.args.names.now c.args.certificate.now c.args.function.now) (sym c.in-Known.is)
