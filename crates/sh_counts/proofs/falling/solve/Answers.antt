use Rattle.std.proofs.Common.{◌≡◌, ◌<◌, true, false, sum, arith, rules}
use Rattle.sh_counts.proofs.FallLemmas.{greatest_found, sum_fell}
use Rattle.sh_counts.proofs.falling.solve.Goals as goal

pub loop-falling-smaller : goal.loop-falling-smaller
loop-falling-smaller c =
    let has_fallen : c.in_ok-lower_twice.field-0 ≡ true = search rules in
    let less = c.in_ok-lower_twice.ensures.less has_fallen in
    let later = sum_fell c.lower_twice.new.self.counts.items c.lower_rest.new.self.counts.items c.in_ok-lower_rest.ensures.fell in
    let is : sum c.lower_rest.new.self.counts.items < sum c.loop-falling.falling.counts.items = omega arith in
    is

pub returns : goal.returns
returns c =
    let none : c.in_ok-lower_twice.field-0 ≡ false = search rules in
    greatest_found c.args.equations.now c.loop-falling.falling.counts.items c.lower_twice.new.self.counts.items c.all.result.now c.all.ensures
    c.loop-falling.invariant.fell c.loop-falling.invariant.sound (c.in_ok-lower_twice.ensures.sound c.args.equations.now) c.in_ok-lower_twice.ensures.fell (c.in_ok-lower_twice.ensures.settled none)
