use Rattle.sh_reads.proofs.OnceLemmas.{read_spots_once}
use Rattle.sh_reads.proofs.laws.once.Goals as goal

pub returns : goal.returns
returns c = read_spots_once
