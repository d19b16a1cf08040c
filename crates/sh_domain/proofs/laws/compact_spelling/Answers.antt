use Rattle.std.proofs.Common.{sym, ap, ◌∙◌}
use Rattle.sh_domain.specs.CompactForms.{read_compact_sheet}
use Rattle.sh_domain.proofs.CompactSpellingLemmas.{compact_spelled, compact_is_sheet, compact_read_back}
use Rattle.sh_domain.proofs.WritableLemmas.{ok_same}
use Rattle.sh_domain.proofs.laws.compact_spelling.Goals as goal

pub returns : goal.returns
returns c = record {
  spelled = compact_spelled;
  one = λ t u s e f. sym (compact_spelled t s e) ∙ compact_spelled u s f;
  may_be_written = compact_is_sheet;
  read_back = compact_read_back;
  apart = λ s z h k e. ok_same (sym (compact_read_back s h) ∙ ap read_compact_sheet e ∙ compact_read_back z k);
}
