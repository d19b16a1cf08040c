use Rattle.std.proofs.Common.{arith}
use Rattle.sh_facts.proofs.LengthLemmas.{few_digits, one_digit, more_digits}
use Rattle.sh_facts.proofs.length.digits_of.Goals as goal

pub overflow_add-digits : goal.overflow_add-digits
overflow_add-digits c = omega (arith, c.loop-rest.invariant, few_digits c.args.number c.ranges.number.fits)

pub loop-rest-preserved : goal.loop-rest-preserved
loop-rest-preserved c = omega (arith, c.loop-rest.invariant, more_digits c.loop-rest.rest c.loop-rest-test.true c.loop-rest.auto.rest-fits.fits)

pub returns-clause-value : goal.returns-clause-value
returns-clause-value c = omega (arith, c.loop-rest.invariant, one_digit c.loop-rest.rest c.loop-rest-test.false)

pub returns-clause-few : goal.returns-clause-few
returns-clause-few c = omega (arith, c.loop-rest.invariant, one_digit c.loop-rest.rest c.loop-rest-test.false, few_digits c.args.number c.ranges.number.fits)
