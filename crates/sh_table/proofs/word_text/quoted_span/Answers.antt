use Rattle.sh_table.proofs.WordTextLemmas.{lone_whole}
use Rattle.sh_table.proofs.word_text.quoted_span.Goals as goal

pub returns : goal.returns
returns c = rw (lone_whole c.args.word.now.parts _ (rw c.as_slice.ensures at c.in_ok-lone_part.ensures)) c.part_span.ensures
