use Rattle.sh_table.proofs.WordTextLemmas.{double_some, escaped_some, single_some}
use Rattle.sh_table.proofs.word_text.part_span.Goals as goal

pub returns-in-Double : goal.returns-in-Double
returns-in-Double c = rw c.in-Double.is (double_some c.args.script.now _ c.in-Double.parts c.plain_span.result (rw c.as_slice.ensures at c.plain_span.ensures))

pub returns-in-Escaped : goal.returns-in-Escaped
returns-in-Escaped c = rw c.in-Escaped.is (escaped_some c.args.script.now c.in-Escaped.span c.behind_first.result (c.behind_first.ensures c.args.script.now))

pub returns-in-Single : goal.returns-in-Single
returns-in-Single c = rw c.in-Single.is (single_some c.args.script.now c.in-Single.style c.in-Single.span c.single_span.result c.single_span.ensures)
