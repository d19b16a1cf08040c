use Rattle.sh_copies.proofs.Copied.{words_are_copied}
use Rattle.sh_copies.proofs.laws.copies.Goals as goal

pub returns : goal.returns
returns c = words_are_copied
