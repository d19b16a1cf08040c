use Rattle.sh_tally.proofs.ViewLemmas.{see_any}
use Rattle.sh_tally.proofs.views.After.in_any_case.Goals as goal

pub returns : goal.returns
returns c = λ functions. see_any functions c.args.self c.and.result (c.and.ensures functions)
