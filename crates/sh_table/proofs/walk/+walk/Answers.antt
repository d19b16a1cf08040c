use Rattle.std.proofs.Common.{◌∷◌, refl, sym, ap, ◌∙◌}
use Rattle.std.specs.List.{flat_map}
use Rattle.sh_tree.specs.declared.tree.AndOr.{out-AndOr}
use Rattle.sh_tree.specs.declared.tree.Branch.{out-Branch}
use Rattle.sh_tree.specs.declared.tree.Clause.{out-Clause}
use Rattle.sh_tree.specs.declared.tree.Command.{out-Command}
use Rattle.sh_tree.specs.declared.tree.Item.{out-Item}
use Rattle.sh_table.proofs.WalkLemmas.{script_out, item_out, and_or_out, pipe_out, branch_out, clause_out, command_out, of_kind-Cond, of_kind-Loop, of_kind-For-None, of_kind-For-Some, of_kind-Branches, of_operator-Value, of_operator-Length, of_expression-Constant, of_expression-Variable, of_expression-Chain, of_expression-Choice, of_part-Plain, of_part-Escaped, of_part-Single, of_part-Tilde, of_part-Joined, joined, both, thrice, turned, ended, nothing_visited}
use Rattle.sh_table.specs.Walks as spec
use Rattle.sh_table.proofs.walk.+walk.Goals as goal

-- loops over a field

pub walk_script-loop-item-preserved : goal.walk_script-loop-item-preserved
walk_script-loop-item-preserved g t c = λ k h.
    turned (g.V.Visitor.keeps c.args.script.now _) _ (spec.of_item c.args.script.now c.args.around) c.loop-item.item-index c.as_slice-item-items.result.now c.item-item.result k _ c.loop-item-test.true c.item-item.is
    (item_out c.args.script.now c.args.around c.item-item.result ∙ ap (λ y. spec.of_and_or c.args.script.now y (out-Item c.item-item.result).list) (sym c.round_item.ensures))
    (c.in_ok-walk_and_or.ensures _ (c.loop-item.invariant k h))

pub walk_script-returns : goal.walk_script-returns
walk_script-returns g t c = λ k h.
    ended (g.V.Visitor.keeps c.args.script.now _) _ (spec.of_item c.args.script.now c.args.around) c.loop-item.item-index c.as_slice-item-items.result.now k _ c.loop-item-test.false
    (script_out c.args.script.now c.args.around c.args.list.now ∙ ap (flat_map (spec.of_item c.args.script.now c.args.around)) (sym c.as_slice-item-items.ensures))
    (c.loop-item.invariant k h)

pub walk_and_or-returns : goal.walk_and_or-returns
walk_and_or-returns g t c = λ k h.
    joined (g.V.Visitor.keeps c.args.script.now _) _ k (spec.of_pipe c.args.script.now c.args.around (out-AndOr c.args.list.now).first) (flat_map (spec.of_link c.args.script.now c.args.around) (out-AndOr c.args.list.now).rest) _
    (and_or_out c.args.script.now c.args.around c.args.list.now)
    (ended (g.V.Visitor.keeps c.args.script.now _) _ (spec.of_link c.args.script.now c.args.around) c.loop-link.link-index c.as_slice-link-items.result.now _ _ c.loop-link-test.false
    (ap (flat_map (spec.of_link c.args.script.now c.args.around)) (sym c.as_slice-link-items.ensures))
    (c.loop-link.invariant _ (c.in_ok-walk_pipe.ensures k h)))

pub walk_pipe-returns : goal.walk_pipe-returns
walk_pipe-returns g t c = λ k h.
    ended (g.V.Visitor.keeps c.args.script.now _) _ (spec.of_command c.args.script.now c.round_parts-inner.result) c.loop-command.command-index c.as_slice-parts.result.now k _ c.loop-command-test.false
    (pipe_out c.args.script.now c.args.around c.args.pipe.now ∙ rw (c.round_parts-inner.ensures, c.as_slice-parts.ensures) refl)
    (c.loop-command.invariant k h)

pub walk_command-returns : goal.walk_command-returns
walk_command-returns g t c = λ k h.
    joined (g.V.Visitor.keeps c.args.script.now _) _ k (spec.located c.args.script.now c.args.around c.args.command.now ∷ spec.of_kind c.args.script.now c.args.around (out-Command c.args.command.now).kind) (flat_map (spec.of_redirect c.args.script.now) (out-Command c.args.command.now).redirects) _
    (command_out c.args.script.now c.args.around c.args.command.now)
    (ended (g.V.Visitor.keeps c.args.script.now _) _ (spec.of_redirect c.args.script.now) c.loop-redirect.redirect-index c.as_slice-redirect-items.result.now _ _ c.loop-redirect-test.false
    (ap (flat_map (spec.of_redirect c.args.script.now)) (sym c.as_slice-redirect-items.ensures))
    (c.loop-redirect.invariant _ (c.in_ok-walk_kind.ensures _ (c.in_ok-visit.ensures k h))))

-- two pieces in a turn

pub walk_branches-loop-branch-preserved : goal.walk_branches-loop-branch-preserved
walk_branches-loop-branch-preserved g t c = λ k h.
    turned (g.V.Visitor.keeps c.args.script.now _) _ (spec.of_branch c.args.script.now c.args.around) c.loop-branch.branch-index c.args.branches.now c.branch-item.result k _ c.loop-branch-test.true c.branch-item.is refl
    (joined (g.V.Visitor.keeps c.args.script.now _) _ _ (spec.of_script c.args.script.now c.args.around (out-Branch c.branch-item.result).condition) (spec.of_script c.args.script.now c.args.around (out-Branch c.branch-item.result).body) _
    (branch_out c.args.script.now c.args.around c.branch-item.result)
    (c.in_ok-walk_script-2.ensures _ (c.in_ok-walk_script.ensures _ (c.loop-branch.invariant k h))))

pub walk_clauses-loop-clause-preserved : goal.walk_clauses-loop-clause-preserved
walk_clauses-loop-clause-preserved g t c = λ k h.
    turned (g.V.Visitor.keeps c.args.script.now _) _ (spec.of_clause c.args.script.now c.args.around) c.loop-clause.clause-index c.args.clauses.now c.clause-item.result k _ c.loop-clause-test.true c.clause-item.is refl
    (joined (g.V.Visitor.keeps c.args.script.now _) _ _ (flat_map (spec.of_word c.args.script.now) (out-Clause c.clause-item.result).patterns) (spec.of_script c.args.script.now c.args.around (out-Clause c.clause-item.result).body) _
    (clause_out c.args.script.now c.args.around c.clause-item.result)
    (c.in_ok-walk_script.ensures _ (rw c.as_slice.ensures at (c.in_ok-walk_words.ensures _ (c.loop-clause.invariant k h)))))

-- the rest

pub walk_operator-returns-in-Value : goal.walk_operator-returns-in-Value
walk_operator-returns-in-Value g t c = λ k h.
    nothing_visited (g.V.Visitor.keeps c.args.script.now c.args.visitor.now) _ k _ (ap (spec.of_operator c.args.script.now) c.in-Value.is ∙ of_operator-Value c.args.script.now) h

pub walk_operator-returns-in-Length : goal.walk_operator-returns-in-Length
walk_operator-returns-in-Length g t c = λ k h.
    nothing_visited (g.V.Visitor.keeps c.args.script.now c.args.visitor.now) _ k _ (ap (spec.of_operator c.args.script.now) c.in-Length.is ∙ of_operator-Length c.args.script.now) h

pub walk_kind-returns-in_ok-walk_branches-in-Cond : goal.walk_kind-returns-in_ok-walk_branches-in-Cond
walk_kind-returns-in_ok-walk_branches-in-Cond g t c = λ k h.
    both (g.V.Visitor.keeps c.args.script.now c.walk_otherwise.new.visitor) c.walk_otherwise.result _ k (flat_map (spec.of_branch c.args.script.now c.args.around) c.in-Cond.branches) (spec.of_option (spec.of_script c.args.script.now c.args.around) c.in-Cond.otherwise) _
    (ap (spec.of_kind c.args.script.now c.args.around) c.in-Cond.is ∙ of_kind-Cond c.args.script.now c.args.around c.in-Cond.branches c.in-Cond.otherwise)
    (c.walk_otherwise.ensures _ (rw c.as_slice-in-Cond.ensures at (c.in_ok-walk_branches-in-Cond.ensures k h)))

pub walk_kind-returns-in_ok-walk_word-in-Branches : goal.walk_kind-returns-in_ok-walk_word-in-Branches
walk_kind-returns-in_ok-walk_word-in-Branches g t c = λ k h.
    both (g.V.Visitor.keeps c.args.script.now c.walk_clauses.new.visitor) c.walk_clauses.result _ k (spec.of_word c.args.script.now c.in-Branches.word) (flat_map (spec.of_clause c.args.script.now c.args.around) c.in-Branches.clauses) _
    (ap (spec.of_kind c.args.script.now c.args.around) c.in-Branches.is ∙ of_kind-Branches c.args.script.now c.args.around c.in-Branches.word c.in-Branches.clauses)
    (rw c.as_slice-in-Branches.ensures at (c.walk_clauses.ensures _ (c.in_ok-walk_word-in-Branches.ensures k h)))

pub walk_expression-returns-in-Constant : goal.walk_expression-returns-in-Constant
walk_expression-returns-in-Constant g t c = λ k h.
    nothing_visited (g.V.Visitor.keeps c.args.script.now c.args.visitor.now) _ k _ (ap (spec.of_expression c.args.script.now) c.in-Constant.is ∙ of_expression-Constant c.args.script.now _) h

pub walk_expression-returns-in-Variable : goal.walk_expression-returns-in-Variable
walk_expression-returns-in-Variable g t c = λ k h.
    nothing_visited (g.V.Visitor.keeps c.args.script.now c.args.visitor.now) _ k _ (ap (spec.of_expression c.args.script.now) c.in-Variable.is ∙ of_expression-Variable c.args.script.now _) h

pub walk_expression-returns-in_ok-walk_expression-in-Chain : goal.walk_expression-returns-in_ok-walk_expression-in-Chain
walk_expression-returns-in_ok-walk_expression-in-Chain g t c = λ k h.
    both (g.V.Visitor.keeps c.args.script.now c.walk_chain.new.visitor) c.walk_chain.result _ k (spec.of_expression c.args.script.now c.in-Chain.first) (flat_map (spec.of_step c.args.script.now) c.in-Chain.rest) _
    (ap (spec.of_expression c.args.script.now) c.in-Chain.is ∙ of_expression-Chain c.args.script.now c.in-Chain.first c.in-Chain.rest)
    (rw c.as_slice.ensures at (c.walk_chain.ensures _ (rw c.get-in-Chain.ensures at (c.in_ok-walk_expression-in-Chain.ensures k h))))

pub walk_expression-returns-in_ok-walk_expression-in-Choice-2 : goal.walk_expression-returns-in_ok-walk_expression-in-Choice-2
walk_expression-returns-in_ok-walk_expression-in-Choice-2 g t c = λ k h.
    thrice (g.V.Visitor.keeps c.args.script.now c.walk_expression-in-Choice-3.new.visitor) c.walk_expression-in-Choice-3.result _ k (spec.of_expression c.args.script.now c.in-Choice.condition) (spec.of_expression c.args.script.now c.in-Choice.yes) (spec.of_expression c.args.script.now c.in-Choice.no) _
    (ap (spec.of_expression c.args.script.now) c.in-Choice.is ∙ of_expression-Choice c.args.script.now c.in-Choice.condition c.in-Choice.yes c.in-Choice.no)
    (rw c.get-in-Choice-3.ensures at (c.walk_expression-in-Choice-3.ensures _ (rw c.get-in-Choice-2.ensures at (c.in_ok-walk_expression-in-Choice-2.ensures _ (rw c.get-in-Choice.ensures at (c.in_ok-walk_expression-in-Choice.ensures k h))))))

pub walk_part-returns-in-Plain : goal.walk_part-returns-in-Plain
walk_part-returns-in-Plain g t c = λ k h.
    nothing_visited (g.V.Visitor.keeps c.args.script.now c.args.visitor.now) _ k _ (ap (spec.of_part c.args.script.now) c.in-Plain.is ∙ of_part-Plain c.args.script.now _) h

pub walk_part-returns-in-Escaped : goal.walk_part-returns-in-Escaped
walk_part-returns-in-Escaped g t c = λ k h.
    nothing_visited (g.V.Visitor.keeps c.args.script.now c.args.visitor.now) _ k _ (ap (spec.of_part c.args.script.now) c.in-Escaped.is ∙ of_part-Escaped c.args.script.now _) h

pub walk_part-returns-in-Single : goal.walk_part-returns-in-Single
walk_part-returns-in-Single g t c = λ k h.
    nothing_visited (g.V.Visitor.keeps c.args.script.now c.args.visitor.now) _ k _ (ap (spec.of_part c.args.script.now) c.in-Single.is ∙ of_part-Single c.args.script.now _ _) h

pub walk_part-returns-in-Tilde : goal.walk_part-returns-in-Tilde
walk_part-returns-in-Tilde g t c = λ k h.
    nothing_visited (g.V.Visitor.keeps c.args.script.now c.args.visitor.now) _ k _ (ap (spec.of_part c.args.script.now) c.in-Tilde.is ∙ of_part-Tilde c.args.script.now _) h

pub walk_part-returns-in-Joined : goal.walk_part-returns-in-Joined
walk_part-returns-in-Joined g t c = λ k h.
    nothing_visited (g.V.Visitor.keeps c.args.script.now c.args.visitor.now) _ k _ (ap (spec.of_part c.args.script.now) c.in-Joined.is ∙ of_part-Joined c.args.script.now _) h

pub walk_kind-returns-in_ok-walk_script-in-Loop : goal.walk_kind-returns-in_ok-walk_script-in-Loop
walk_kind-returns-in_ok-walk_script-in-Loop g t c = λ k h.
    both (g.V.Visitor.keeps c.args.script.now c.walk_script-in-Loop-2.new.visitor) c.walk_script-in-Loop-2.result _ k (spec.of_script c.args.script.now (spec.inside_loop c.args.around) c.in-Loop.condition) (spec.of_script c.args.script.now (spec.inside_loop c.args.around) c.in-Loop.body) _
    (ap (spec.of_kind c.args.script.now c.args.around) c.in-Loop.is ∙ of_kind-Loop c.args.script.now c.args.around c.in-Loop.kind c.in-Loop.condition c.in-Loop.body)
    (rw c.inside_loop-in-Loop.ensures at (c.walk_script-in-Loop-2.ensures _ (rw c.inside_loop.ensures at (c.in_ok-walk_script-in-Loop.ensures k h))))

pub walk_kind-returns-in_ok-walk_words-in-Some : goal.walk_kind-returns-in_ok-walk_words-in-Some
walk_kind-returns-in_ok-walk_words-in-Some g t c = λ k h.
    both (g.V.Visitor.keeps c.args.script.now c.walk_script-in-Some.new.visitor) c.walk_script-in-Some.result _ k (flat_map (spec.of_word c.args.script.now) c.in-Some.words) (spec.of_script c.args.script.now (spec.inside_loop c.args.around) c.in-For.body) _
    (of_kind-For-Some c.args.script.now c.args.around c.args.kind.now c.in-For.name c.in-For.words c.in-Some.words c.in-For.body c.in-For.is c.in-Some.is)
    (rw c.inside_loop-in-Some.ensures at (c.walk_script-in-Some.ensures _ (rw c.as_slice-in-Some.ensures at (c.in_ok-walk_words-in-Some.ensures k h))))

pub walk_kind-returns-in-None : goal.walk_kind-returns-in-None
walk_kind-returns-in-None g t c = λ k h.
    rw (of_kind-For-None c.args.script.now c.args.around c.args.kind.now c.in-For.name c.in-For.words c.in-For.body c.in-For.is c.in-None.is)
    (rw c.inside_loop-in-None.ensures at (c.walk_script-in-None.ensures k h))
