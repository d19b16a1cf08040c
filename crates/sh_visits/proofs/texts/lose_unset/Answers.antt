use Rattle.std.proofs.Common.{map}
use Rattle.sh_table.specs.WordTexts.{text_in}
use Rattle.sh_rules.specs.Walks.{facts_in, setting}
use Rattle.sh_rules.proofs.OperandLemmas.{unset_lost}
use Rattle.sh_visits.proofs.texts.lose_unset.Goals as goal

pub returns : goal.returns
unfolding setting
returns c =
    let x = setting c.args.claims.now in
    unset_lost x (facts_in x c.args.known.now) (facts_in x c.lose_variables_where.new.known) (facts_in x c.lose_functions_where.new.known)
    (map (text_in x.script) c.args.texts.now) c.unset_operands.result.1.now c.unset_operands.result.0 c.takes_variables.result c.takes_functions.result
    c.unset_operands.ensures c.takes_variables.ensures c.takes_functions.ensures c.lose_variables_where.ensures c.lose_functions_where.ensures
