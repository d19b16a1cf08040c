use Rattle.sh_runs.proofs.OperandLemmas.{operands_count}
use Rattle.sh_runs.proofs.laws.operands.Goals as goal

pub returns : goal.returns
returns c = operands_count
