use Rattle.sh_table.proofs.OperandTests.{count_then, count_else}
use Rattle.sh_table.proofs.operands.is_count.Goals as goal

pub returns-then-is_number : goal.returns-then-is_number
returns-then-is_number c = count_then c.args.text.now _ _ c.is_number.ensures c.if-is_number.true c.is_not_zero.ensures

pub returns-else-is_number : goal.returns-else-is_number
returns-else-is_number c = count_else c.args.text.now _ c.is_number.ensures c.if-is_number.false
