use Rattle.std.proofs.Common.{◌≡◌, ◌≤◌, ◌+◌, ◌*◌, ◌∙◌, arith, rules}
use Rattle.sh_counts.specs.Ways.{made_by}
use Rattle.sh_counts.proofs.WayLemmas.{behind_is}
use Rattle.sh_counts.proofs.circles.Way.then.Goals as goal

pub returns : goal.returns
returns c n =
    let f = c.args.self in
    let s = c.of-last.result in
    let times : c.in_ok-times.times ≡ s.times * f.times = search rules in
    let plus : c.in_ok-plus.plus ≡ s.times * f.plus + s.plus = search rules in
    let minus : c.in_ok-minus.minus ≡ s.times * f.minus + s.minus = search rules in
    let ordered = f.ordered in
    let bounded = f.bounded in
    let few : made_by f.times f.plus f.minus f.least f.most n ≤ 65535 = omega arith in
    behind_is s.times s.plus s.minus s.least s.most f.times f.plus f.minus f.least f.most c.in_ok-times.times c.in_ok-plus.plus c.in_ok-minus.minus c.made-least.result c.made-most.result n s.ordered f.ordered times plus minus c.made-least.ensures c.made-most.ensures
    ∙ c.of-last.ensures (made_by f.times f.plus f.minus f.least f.most n) few
