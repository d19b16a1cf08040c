use Rattle.std.proofs.Common.{◌∙◌}
use Rattle.sh_runs.proofs.PositionLemmas.{place_of_key}
use Rattle.sh_domain.proofs.name_set.NameSet.number.Goals as goal

pub returns-in_err-index-clause-number : goal.returns-in_err-index-clause-number
returns-in_err-index-clause-number c = rw (c.from_residual.ensures, ← c.self.view_is) (c.in_err-index.ensures.index ∙ place_of_key c.args.name.now c.self.inside.set.keys)

pub returns-clause-number : goal.returns-clause-number
returns-clause-number c = rw (← c.self.view_is) (c.in_ok-index.ensures.index ∙ place_of_key c.args.name.now c.self.inside.set.keys)
