use Rattle.std.proofs.Common.{ap, ◌∙◌}
use Rattle.sh_domain.specs.Sights as spec
use Rattle.sh_domain.specs.Sights.{in_row}
use Rattle.sh_domain.proofs.SightLemmas.{both, thrice, nothing_added, in_part-Param, in_operator-Value, in_operator-Length, in_expression-Chain, in_expression-Choice, in_expression-Assign}
use Rattle.sh_domain.proofs.sights.+walk.Goals as goal

pub add_operator-returns-in-Value : goal.add_operator-returns-in-Value
add_operator-returns-in-Value t c = nothing_added _ _ (ap (spec.in_operator c.args.script.now) c.in-Value.is ∙ in_operator-Value c.args.script.now)

pub add_operator-returns-in-Length : goal.add_operator-returns-in-Length
add_operator-returns-in-Length t c = nothing_added _ _ (ap (spec.in_operator c.args.script.now) c.in-Length.is ∙ in_operator-Length c.args.script.now)

pub add_part-returns-in_ok-add_subject-in-Param : goal.add_part-returns-in_ok-add_subject-in-Param
add_part-returns-in_ok-add_subject-in-Param t c =
    both c.add_operator.result _ _ _ _ _ _ c.in_ok-add_subject-in-Param.ensures (ap (spec.in_part c.args.script.now) c.in-Param.is ∙ in_part-Param c.args.script.now c.in-Param.param) c.add_operator.ensures

pub add_part-returns-in-Plain : goal.add_part-returns-in-Plain
unfolding in_row
add_part-returns-in-Plain t c = nothing_added _ _ (ap (spec.in_part c.args.script.now) c.in-Plain.is)

pub add_part-returns-in-Escaped : goal.add_part-returns-in-Escaped
unfolding in_row
add_part-returns-in-Escaped t c = nothing_added _ _ (ap (spec.in_part c.args.script.now) c.in-Escaped.is)

pub add_part-returns-in-Single : goal.add_part-returns-in-Single
unfolding in_row
add_part-returns-in-Single t c = nothing_added _ _ (ap (spec.in_part c.args.script.now) c.in-Single.is)

pub add_part-returns-in-Command : goal.add_part-returns-in-Command
unfolding in_row
add_part-returns-in-Command t c = nothing_added _ _ (ap (spec.in_part c.args.script.now) c.in-Command.is)

pub add_part-returns-in-Tilde : goal.add_part-returns-in-Tilde
unfolding in_row
add_part-returns-in-Tilde t c = nothing_added _ _ (ap (spec.in_part c.args.script.now) c.in-Tilde.is)

pub add_part-returns-in-Joined : goal.add_part-returns-in-Joined
unfolding in_row
add_part-returns-in-Joined t c = nothing_added _ _ (ap (spec.in_part c.args.script.now) c.in-Joined.is)

pub add_expression-returns-in-Constant : goal.add_expression-returns-in-Constant
unfolding in_row
add_expression-returns-in-Constant t c = nothing_added _ _ (ap (spec.in_expression c.args.script.now) c.in-Constant.is)

pub add_expression-returns-in_ok-add_expression-in-Chain : goal.add_expression-returns-in_ok-add_expression-in-Chain
add_expression-returns-in_ok-add_expression-in-Chain t c =
    both c.add_chain.result _ _ _ _ _ _ (rw c.get-in-Chain.ensures at c.in_ok-add_expression-in-Chain.ensures)
    (ap (spec.in_expression c.args.script.now) c.in-Chain.is ∙ in_expression-Chain c.args.script.now c.in-Chain.first c.in-Chain.rest) (rw c.as_slice.ensures at c.add_chain.ensures)

pub add_expression-returns-in_ok-add_expression-in-Choice-2 : goal.add_expression-returns-in_ok-add_expression-in-Choice-2
add_expression-returns-in_ok-add_expression-in-Choice-2 t c =
    thrice c.add_expression-in-Choice-3.result _ _ _ _ _ _ _ _ (rw c.get-in-Choice.ensures at c.in_ok-add_expression-in-Choice.ensures) (rw c.get-in-Choice-2.ensures at c.in_ok-add_expression-in-Choice-2.ensures)
    (ap (spec.in_expression c.args.script.now) c.in-Choice.is ∙ in_expression-Choice c.args.script.now c.in-Choice.condition c.in-Choice.yes c.in-Choice.no) (rw c.get-in-Choice-3.ensures at c.add_expression-in-Choice-3.ensures)

pub add_expression-returns-in_ok-add-in-Assign : goal.add_expression-returns-in_ok-add-in-Assign
add_expression-returns-in_ok-add-in-Assign t c =
    both c.add_expression-in-Assign.result _ _ _ _ _ _ c.in_ok-add-in-Assign.ensures
    (ap (spec.in_expression c.args.script.now) c.in-Assign.is ∙ in_expression-Assign c.args.script.now c.in-Assign.name _ c.in-Assign.value) (rw c.get-in-Assign.ensures at c.add_expression-in-Assign.ensures)
