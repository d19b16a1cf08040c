use Rattle.std.proofs.Common.{map}
use Rattle.sh_tree.specs.standard.Tree.{text_of}
use Rattle.sh_table.specs.WordTexts.{text_in}
use Rattle.sh_rules.specs.Walks.{setting}
use Rattle.sh_rules.proofs.ReachedLemmas.{unset_told}
use Rattle.sh_visits.proofs.drops.drop_unset.Goals as goal

pub returns : goal.returns
unfolding setting
returns g c =
    let x = setting c.args.claims.now in
    unset_told g.A.Asked.asked x c.args.number (text_of x.script c.args.function) (map (text_in x.script) c.args.operands.now) c.unset_operands.result.1.now c.unset_operands.result.0
    c.takes_variables.result c.takes_functions.result (g.A.Asked.kept c.args.asked.now) (g.A.Asked.kept c.drop_variables_where.new.asked) (g.A.Asked.kept c.drop_functions_where.new.asked)
    c.unset_operands.ensures c.takes_variables.ensures c.takes_functions.ensures c.drop_variables_where.ensures c.drop_functions_where.ensures
