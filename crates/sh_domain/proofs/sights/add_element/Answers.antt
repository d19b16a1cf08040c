use Rattle.std.proofs.Common.{ap, ◌∙◌}
use Rattle.sh_domain.specs.Sights as spec
use Rattle.sh_domain.proofs.SightLemmas.{both, in_element-Assignment}
use Rattle.sh_domain.proofs.sights.add_element.Goals as goal

pub returns-in_ok-add-in-Assignment : goal.returns-in_ok-add-in-Assignment
returns-in_ok-add-in-Assignment c =
    both c.add_word.result _ _ _ _ _ _ c.in_ok-add-in-Assignment.ensures
    (ap (spec.in_element c.args.script.now) c.in-Assignment.is ∙ in_element-Assignment c.args.script.now c.in-Assignment.name c.in-Assignment.value) c.add_word.ensures
