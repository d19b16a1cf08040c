use Rattle.std.proofs.Common.{sym, ap, ◌∙◌}
use Rattle.sh_domain.specs.Forms.{read_sheet}
use Rattle.sh_domain.proofs.ReadBackLemmas.{read_back}
use Rattle.sh_domain.proofs.RoundTripLemmas.{read_is_sheet}
use Rattle.sh_domain.proofs.SpellingLemmas.{spelled}
use Rattle.sh_domain.proofs.WritableLemmas.{ok_same}
use Rattle.sh_domain.proofs.laws.spelling.Goals as goal

pub returns : goal.returns
returns c = record {
  spelled = spelled;
  one = λ t u s e f. sym (spelled t s e) ∙ spelled u s f;
  may_be_written = read_is_sheet;
  read_back = read_back;
  apart = λ s z h k e. ok_same (sym (read_back s h) ∙ ap read_sheet e ∙ read_back z k);
}
