use Rattle.sh_tally.proofs.CountLemmas.{views_bound_counts}
use Rattle.sh_tally.proofs.laws.views.Goals as goal

pub returns : goal.returns
returns c = views_bound_counts
