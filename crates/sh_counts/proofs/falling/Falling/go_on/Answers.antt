use Rattle.std.proofs.Common.{rules, ◌≡◌}
use Rattle.sh_counts.proofs.FallLemmas.{led_on, led_round}
use Rattle.sh_counts.proofs.falling.Falling.go_on.Goals as goal

pub returns-then-index-head-clause-sound : goal.returns-then-index-head-clause-sound
returns-then-index-head-clause-sound c es follows leads sound =
    let same : c.args.equation.source ≡ c.args.from.index = search rules in
    let here : c.args.equation.count ≡ c.args.bounded.now.head = search rules in
    let on = led_on es c.args.from.way c.in-Some.way c.args.bounded.now.head c.args.from.index c.args.equation same leads follows c.in-Some.ensures in
    c.in_ok-lower_round.ensures.sound es (led_round es c.in-Some.way c.args.equation.count c.args.bounded.now.head here on) sound

pub returns-in_ok-add-clause-led : goal.returns-in_ok-add-clause-led
returns-in_ok-add-clause-led c es follows leads led =
    let same : c.args.equation.source ≡ c.args.from.index = search rules in
    let on = led_on es c.args.from.way c.in-Some.way c.args.bounded.now.head c.args.from.index c.args.equation same leads follows c.in-Some.ensures in
    c.in_ok-add.ensures.led es on led
