use Rattle.sh_rules.specs.Walks.{facts_in, setting}
use Rattle.sh_rules.proofs.UtilityLemmas.{all_declared}
use Rattle.sh_visits.proofs.utilities.gain_assigned_operands.Goals as goal

pub returns : goal.returns
returns c =
    let x = setting c.args.claims.now in
    all_declared x (facts_in x c.args.known.now) (facts_in x c.gain_each_declared.new.known) c.args.elements.now c.behind_name.result.now c.behind_name.ensures c.gain_each_declared.ensures
