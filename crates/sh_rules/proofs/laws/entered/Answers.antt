use Rattle.sh_rules.proofs.MeaningLemmas.{walk_enters}
use Rattle.sh_rules.proofs.laws.entered.Goals as goal

pub returns : goal.returns
returns c = walk_enters
