use Rattle.sh_accept.proofs.FillableLemmas.{read_is_fillable}
use Rattle.sh_accept.proofs.laws.fillable.Goals as goal

pub returns : goal.returns
returns c = read_is_fillable
