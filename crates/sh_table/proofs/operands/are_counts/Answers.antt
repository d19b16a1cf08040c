use Rattle.std.proofs.Common.{◌∙◌}
use Rattle.sh_runs.specs.standard.runs.Rows.{is_count}
use Rattle.sh_table.specs.WordTexts.{text_in}
use Rattle.sh_table.proofs.OperandTests.{all_in}
use Rattle.sh_table.proofs.operands.are_counts.Goals as goal

pub returns : goal.returns
returns c = c.each_counts.ensures ∙ all_in is_count (text_in c.args.script.now) c.args.words.now
