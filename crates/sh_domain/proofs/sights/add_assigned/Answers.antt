use Rattle.std.proofs.Common.{Bor}
use Rattle.std.proofs.lemmas.List.Folds.{flat_map-map}
use Rattle.sh_tree.specs.declared.tree.Word.{Word}
use Rattle.sh_domain.specs.Sights as spec
use Rattle.sh_domain.proofs.sights.add_assigned.Goals as goal

pub returns : goal.returns
returns c = rw (flat_map-map (spec.assigned_sight c.args.script.now) (λ (w : Bor Word). w.now) c.args.operands.now) c.add_each_assigned.ensures
