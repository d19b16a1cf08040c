use Rattle.std.proofs.Common.{refl, sym, ◌∙◌, ◌++◌}
use Rattle.sh_tree.specs.standard.language.Commands.{operator_of, long_operators, short_operators}
use Rattle.sh_scan.proofs.OperatorLemmas.{longest_found, longest_missed, longest_fits, all_within, all_move}
use Rattle.sh_scan.proofs.commands.operators.operator_over.Goals as goal

pub returns-in-Some-clause-value : goal.returns-in-Some-clause-value
unfolding operator_of
returns-in-Some-clause-value c = longest_found long_operators short_operators _ _ (sym c.in-Some.is ∙ c.long_operator.ensures)

pub returns-in-Some-clause-within : goal.returns-in-Some-clause-within
returns-in-Some-clause-within c = (longest_fits long_operators _ _ refl (sym c.in-Some.is ∙ c.long_operator.ensures)).within

pub returns-in-Some-clause-moves : goal.returns-in-Some-clause-moves
returns-in-Some-clause-moves c = (longest_fits long_operators (c.args.front.now ++ c.args.rest.now) _ refl (sym c.in-Some.is ∙ c.long_operator.ensures)).moves

pub returns-in-None-clause-value : goal.returns-in-None-clause-value
unfolding operator_of
returns-in-None-clause-value c = c.short_operator.ensures ∙ longest_missed long_operators short_operators _ (sym c.in-None.is ∙ c.long_operator.ensures)

pub returns-in-None-clause-within : goal.returns-in-None-clause-within
returns-in-None-clause-within c = all_within short_operators _ _ refl c.short_operator.ensures

pub returns-in-None-clause-moves : goal.returns-in-None-clause-moves
returns-in-None-clause-moves c = all_move short_operators (c.args.front.now ++ c.args.rest.now) _ refl c.short_operator.ensures
