use Rattle.std.proofs.Common.{◌∙◌}
use Rattle.sh_table.proofs.WordTextLemmas.{plain_in}
use Rattle.sh_table.proofs.word_text.WordText.new.Goals as goal

pub returns-in-Some : goal.returns-in-Some
returns-in-Some c = c.plain.ensures ∙ plain_in c.args.script.now c.args.word.now.parts c.in-Some.span (rw c.as_slice.ensures at c.in-Some.ensures)
