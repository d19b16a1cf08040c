use Rattle.sh_accept.proofs.PrintedLemmas.{printed_is_read}
use Rattle.sh_accept.proofs.laws.printed.Goals as goal

pub returns : goal.returns
returns c = printed_is_read
