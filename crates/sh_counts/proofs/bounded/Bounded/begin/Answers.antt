use Rattle.sh_counts.proofs.FallLemmas.{led_self, none_led}
use Rattle.sh_counts.proofs.bounded.Bounded.begin.Goals as goal

pub returns-clause-led : goal.returns-clause-led
returns-clause-led c es = c.in_ok-add.ensures.led es (led_self es c.of.result c.args.head c.of.ensures) (none_led es c.args.head _ c.clear.ensures.items)
