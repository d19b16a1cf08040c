use Rattle.std.proofs.Common.{◌∙◌}
use Rattle.sh_table.proofs.OperandTests.{no_inner_o, inner_o}
use Rattle.sh_table.proofs.operands.has_inner_o.Goals as goal

pub returns-in-empty : goal.returns-in-empty
returns-in-empty c = no_inner_o c.args.text.now c.in-empty.len_below

pub returns-in-len1-up : goal.returns-in-len1-up
returns-in-len1-up c = c.contains.ensures.value ∙ inner_o c.args.text.now
