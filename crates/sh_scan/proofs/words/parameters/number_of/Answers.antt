use Rattle.std.proofs.Common.{arith}
use Rattle.sh_scan.proofs.WordLemmas.{decimal_goes, decimal_done, decimal_large}
use Rattle.sh_scan.proofs.words.parameters.number_of.Goals as goal

pub returns-then-next-gt65535 : goal.returns-then-next-gt65535
returns-then-next-gt65535 c =
    decimal_large c.args.digits.now _ _ (decimal_goes c.args.digits.now c.loop-digit.number c.loop-digit.digit-index _ (omega arith) c.loop-digit.invariant.whole (omega arith)) c.if-next-gt65535.true

pub loop-digit-preserved : goal.loop-digit-preserved
loop-digit-preserved c = record {
  small = omega arith;
  whole = decimal_goes c.args.digits.now c.loop-digit.number c.loop-digit.digit-index _ (omega arith) c.loop-digit.invariant.whole (omega arith);
}

pub returns : goal.returns
returns c = decimal_done c.args.digits.now c.loop-digit.number c.loop-digit.digit-index (omega arith) c.loop-digit.invariant.whole c.loop-digit.invariant.small
