use Rattle.sh_answers.proofs.CleanLemmas.{clean_is_pass}
use Rattle.sh_answers.proofs.laws.clean.Goals as goal

pub returns : goal.returns
returns c = clean_is_pass
