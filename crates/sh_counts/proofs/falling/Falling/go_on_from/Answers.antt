use Rattle.std.proofs.Common.{ℕ, sym, subst}
use Rattle.sh_counts.specs.Falls.{Leads}
use Rattle.sh_counts.proofs.falling.Falling.go_on_from.Goals as goal

pub returns-then-not-meet-clause-led : goal.returns-then-not-meet-clause-led
returns-then-not-meet-clause-led c es follow leads led = c.meet.ensures.stay es led

pub returns-clause-led : goal.returns-clause-led
returns-clause-led c es follow leads led =
    let here = subst (λ (h : ℕ). Leads es c.args.from.way c.args.from.index h) (sym c.meet.ensures.head) leads in
    c.in_ok-go_on_each.ensures.led es follow here (c.meet.ensures.stay es led)
