use Rattle.std.proofs.Common.{◌∙◌}
use Rattle.std.specs.Prelude.{is_some}
use Rattle.sh_table.specs.WordTexts.{text_in}
use Rattle.sh_table.proofs.OperandTests.{all_in}
use Rattle.sh_table.proofs.operands.are_static.Goals as goal

pub returns : goal.returns
returns c = c.each_static.ensures ∙ all_in is_some (text_in c.args.script.now) c.args.words.now
