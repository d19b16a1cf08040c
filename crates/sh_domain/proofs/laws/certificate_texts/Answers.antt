use Rattle.sh_domain.proofs.TextLemmas.{written_as_expected, read_as_expected, faults_as_expected}
use Rattle.sh_domain.proofs.laws.certificate_texts.Goals as goal

pub returns : goal.returns
returns c = (written_as_expected, read_as_expected, faults_as_expected)
