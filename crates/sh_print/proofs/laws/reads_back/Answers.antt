use Rattle.sh_print.proofs.RoundTrip.{read_back}
use Rattle.sh_print.proofs.laws.reads_back.Goals as goal

pub returns : goal.returns
returns c = read_back
