use Rattle.sh_reads.proofs.OnceLemmas.{read_spots_inside}
use Rattle.sh_reads.proofs.laws.inside.Goals as goal

pub returns : goal.returns
returns c = read_spots_inside
