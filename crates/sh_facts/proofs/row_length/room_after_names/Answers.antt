use Rattle.std.proofs.Common.{arith}
use Rattle.sh_facts.proofs.RowLengthLemmas.{past_names}
use Rattle.sh_facts.proofs.row_length.room_after_names.Goals as goal

pub returns : goal.returns
returns c = omega (arith, c.loop-from.invariant.left, past_names c.args.rows.now c.args.row c.args.names.now c.loop-from.from (omega (arith, c.count-count.ensures.count, c.loop-from-test.false)))
