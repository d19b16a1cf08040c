use Rattle.sh_table.proofs.WordTextLemmas.{texts_end}
use Rattle.sh_table.proofs.word_text.texts_of.Goals as goal

pub returns : goal.returns
returns c = texts_end c.args.script.now c.args.elements.now c.loop-element.element-index _ c.loop-element-test.false c.loop-element.invariant
