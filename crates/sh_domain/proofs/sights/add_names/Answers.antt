use Rattle.std.proofs.lemmas.List.Folds.{flat_map-map}
use Rattle.sh_domain.specs.Sights as spec
use Rattle.sh_domain.specs.SightWalks.{as_sight}
use Rattle.sh_domain.proofs.sights.add_names.Goals as goal

pub returns : goal.returns
returns c = rw (flat_map-map spec.if_name as_sight c.args.seen.now) c.add_each_name.ensures
