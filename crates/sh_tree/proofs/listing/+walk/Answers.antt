use Rattle.std.proofs.Common.{refl, sym, ap, ◌∙◌}
use Rattle.std.specs.List.{flat_map}
use Rattle.sh_tree.proofs.CommandLemmas.{script_out, item_out, and_or_out, pipe_out, branch_out, clause_out, command_out, of_kind-Cond, of_kind-Loop, of_kind-For-None, of_kind-For-Some, of_kind-Branches, of_target-Here, of_operator-Value, of_operator-Length, of_expression-Chain, of_expression-Choice, joined, both, pushed, thrice, turned, ended, nothing_added}
use Rattle.sh_tree.specs.Commands as spec
use Rattle.sh_tree.specs.Commands.{of_script}
use Rattle.sh_tree.proofs.listing.+walk.Goals as goal

-- loops over a field

pub add_script-loop-item-preserved : goal.add_script-loop-item-preserved
add_script-loop-item-preserved t c =
    turned spec.of_item c.loop-item.item-index c.as_slice-item-items.result.now c.item-item.result _ _ _ _ c.loop-item-test.true c.item-item.is c.loop-item.invariant (item_out c.item-item.result)
    c.in_ok-add_and_or.ensures

pub add_script-returns : goal.add_script-returns
add_script-returns t c =
    ended spec.of_item c.loop-item.item-index c.as_slice-item-items.result.now _ _ _ c.loop-item-test.false c.loop-item.invariant
    (script_out c.args.script.now ∙ ap (flat_map spec.of_item) (sym c.as_slice-item-items.ensures))

pub add_and_or-returns : goal.add_and_or-returns
add_and_or-returns t c =
    joined _ _ _ _ _ _ c.in_ok-add_pipe.ensures (and_or_out c.args.list.now)
    (ended spec.of_link c.loop-link.link-index c.as_slice-link-items.result.now _ _ _ c.loop-link-test.false c.loop-link.invariant (ap (flat_map spec.of_link) (sym c.as_slice-link-items.ensures)))

pub add_pipe-returns : goal.add_pipe-returns
add_pipe-returns t c =
    ended spec.of_command c.loop-command.command-index c.as_slice-command-items.result.now _ _ _ c.loop-command-test.false c.loop-command.invariant
    (pipe_out c.args.pipe.now ∙ ap (flat_map spec.of_command) (sym c.as_slice-command-items.ensures))

pub add_command-returns : goal.add_command-returns
add_command-returns t c =
    pushed _ c.args.command _ _ _ _ _ c.in_ok-push.ensures.items c.in_ok-add_kind.ensures (command_out c.args.command.now)
    (ended spec.of_redirect c.loop-redirect.redirect-index c.as_slice-redirect-items.result.now _ _ _ c.loop-redirect-test.false c.loop-redirect.invariant
    (ap (flat_map spec.of_redirect) (sym c.as_slice-redirect-items.ensures)))

-- two pieces in a turn

pub add_branches-loop-branch-preserved : goal.add_branches-loop-branch-preserved
add_branches-loop-branch-preserved t c =
    turned spec.of_branch c.loop-branch.branch-index c.args.branches.now c.branch-item.result _ _ _ _ c.loop-branch-test.true c.branch-item.is c.loop-branch.invariant refl
    (joined _ _ _ _ _ _ c.in_ok-add_script.ensures (branch_out c.branch-item.result) c.in_ok-add_script-2.ensures)

pub add_clauses-loop-clause-preserved : goal.add_clauses-loop-clause-preserved
add_clauses-loop-clause-preserved t c =
    turned spec.of_clause c.loop-clause.clause-index c.args.clauses.now c.clause-item.result _ _ _ _ c.loop-clause-test.true c.clause-item.is c.loop-clause.invariant refl
    (joined _ _ _ _ _ _ (rw c.as_slice.ensures at c.in_ok-add_words.ensures) (clause_out c.clause-item.result) c.in_ok-add_script.ensures)

-- the rest

pub add_target-returns-in_ok-add_word-in-Here : goal.add_target-returns-in_ok-add_word-in-Here
add_target-returns-in_ok-add_word-in-Here t c =
    both c.add_word-in-Here-2.result _ _ _ _ _ _ c.in_ok-add_word-in-Here.ensures (ap spec.of_target c.in-Here.is ∙ of_target-Here c.in-Here.here) c.add_word-in-Here-2.ensures

pub add_operator-returns-in-Value : goal.add_operator-returns-in-Value
add_operator-returns-in-Value t c = nothing_added _ _ (ap spec.of_operator c.in-Value.is ∙ of_operator-Value)

pub add_operator-returns-in-Length : goal.add_operator-returns-in-Length
add_operator-returns-in-Length t c = nothing_added _ _ (ap spec.of_operator c.in-Length.is ∙ of_operator-Length)

pub add_kind-returns-in_ok-add_branches-in-Cond : goal.add_kind-returns-in_ok-add_branches-in-Cond
add_kind-returns-in_ok-add_branches-in-Cond t c =
    both c.add_otherwise.result _ _ _ _ _ _ (rw c.as_slice-in-Cond.ensures at c.in_ok-add_branches-in-Cond.ensures)
    (ap spec.of_kind c.in-Cond.is ∙ of_kind-Cond c.in-Cond.branches c.in-Cond.otherwise) c.add_otherwise.ensures

pub add_kind-returns-in_ok-add_script-in-Loop : goal.add_kind-returns-in_ok-add_script-in-Loop
add_kind-returns-in_ok-add_script-in-Loop t c =
    both c.add_script-in-Loop-2.result _ _ _ _ _ _ c.in_ok-add_script-in-Loop.ensures
    (ap spec.of_kind c.in-Loop.is ∙ of_kind-Loop c.in-Loop.kind c.in-Loop.condition c.in-Loop.body) c.add_script-in-Loop-2.ensures

pub add_kind-returns-in_ok-add_word-in-Branches : goal.add_kind-returns-in_ok-add_word-in-Branches
add_kind-returns-in_ok-add_word-in-Branches t c =
    both c.add_clauses.result _ _ _ _ _ _ c.in_ok-add_word-in-Branches.ensures (ap spec.of_kind c.in-Branches.is ∙ of_kind-Branches c.in-Branches.word c.in-Branches.clauses)
    (rw c.as_slice-in-Branches.ensures at c.add_clauses.ensures)

pub add_expression-returns-in-Constant : goal.add_expression-returns-in-Constant
unfolding of_script
add_expression-returns-in-Constant t c = nothing_added _ _ (ap spec.of_expression c.in-Constant.is)

pub add_expression-returns-in-Variable : goal.add_expression-returns-in-Variable
unfolding of_script
add_expression-returns-in-Variable t c = nothing_added _ _ (ap spec.of_expression c.in-Variable.is)

pub add_expression-returns-in_ok-add_expression-in-Chain : goal.add_expression-returns-in_ok-add_expression-in-Chain
add_expression-returns-in_ok-add_expression-in-Chain t c =
    both c.add_chain.result _ _ _ _ _ _ (rw c.get-in-Chain.ensures at c.in_ok-add_expression-in-Chain.ensures)
    (ap spec.of_expression c.in-Chain.is ∙ of_expression-Chain c.in-Chain.first c.in-Chain.rest) (rw c.as_slice.ensures at c.add_chain.ensures)

pub add_expression-returns-in_ok-add_expression-in-Choice-2 : goal.add_expression-returns-in_ok-add_expression-in-Choice-2
add_expression-returns-in_ok-add_expression-in-Choice-2 t c =
    thrice c.add_expression-in-Choice-3.result _ _ _ _ _ _ _ _ (rw c.get-in-Choice.ensures at c.in_ok-add_expression-in-Choice.ensures) (rw c.get-in-Choice-2.ensures at c.in_ok-add_expression-in-Choice-2.ensures)
    (ap spec.of_expression c.in-Choice.is ∙ of_expression-Choice c.in-Choice.condition c.in-Choice.yes c.in-Choice.no) (rw c.get-in-Choice-3.ensures at c.add_expression-in-Choice-3.ensures)

pub add_part-returns-in-Plain : goal.add_part-returns-in-Plain
unfolding of_script
add_part-returns-in-Plain t c = nothing_added _ _ (ap spec.of_part c.in-Plain.is)

pub add_part-returns-in-Escaped : goal.add_part-returns-in-Escaped
unfolding of_script
add_part-returns-in-Escaped t c = nothing_added _ _ (ap spec.of_part c.in-Escaped.is)

pub add_part-returns-in-Single : goal.add_part-returns-in-Single
unfolding of_script
add_part-returns-in-Single t c = nothing_added _ _ (ap spec.of_part c.in-Single.is)

pub add_part-returns-in-Tilde : goal.add_part-returns-in-Tilde
unfolding of_script
add_part-returns-in-Tilde t c = nothing_added _ _ (ap spec.of_part c.in-Tilde.is)

pub add_part-returns-in-Joined : goal.add_part-returns-in-Joined
unfolding of_script
add_part-returns-in-Joined t c = nothing_added _ _ (ap spec.of_part c.in-Joined.is)

pub add_kind-returns-in-None : goal.add_kind-returns-in-None
add_kind-returns-in-None t c = rw (of_kind-For-None c.args.kind.now c.in-For.name c.in-For.words c.in-For.body c.in-For.is c.in-None.is) c.add_script-in-None.ensures

pub add_kind-returns-in_ok-add_words-in-Some : goal.add_kind-returns-in_ok-add_words-in-Some
add_kind-returns-in_ok-add_words-in-Some t c =
    both c.add_script-in-Some.result _ _ _ _ _ _ (rw c.as_slice-in-Some.ensures at c.in_ok-add_words-in-Some.ensures)
    (of_kind-For-Some c.args.kind.now c.in-For.name c.in-For.words c.in-Some.words c.in-For.body c.in-For.is c.in-Some.is) c.add_script-in-Some.ensures
