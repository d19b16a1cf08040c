use Rattle.std.proofs.Common.{◌++◌, inl, inr, sym, ap, subst, ◌∙◌}
use Rattle.sh_tree.specs.standard.language.Parts.{singles_in, operator_singles, expression_singles}
use Rattle.sh_bodies.specs.Singles.{chained}
use Rattle.sh_bodies.proofs.SingleLemmas as single
use Rattle.sh_grammar.specs.Quotes.{SplitsIn}
use Rattle.sh_grammar.proofs.KeptLemmas.{either_split}
use Rattle.sh_grammar.proofs.QuoteLemmas as quotes
use Rattle.sh_grammar.proofs.kept.+kept.Goals as goal

pub split_in_chain-returns-in-Some : goal.split_in_chain-returns-in-Some
split_in_chain-returns-in-Some t c =
    let b = c.args.script.now in
    let at = c.loop-operand in
    quotes.chain_split b c.args.rest.now at.operand-index c.loop-operand-item.result at.invariant c.loop-operand-test.true c.loop-operand-item.is c.in-Some.at
    (subst (λ o. SplitsIn b (expression_singles c.loop-operand-item.result.1) o) c.in-Some.is c.split_in_expr.ensures)

pub split_in_chain-returns : goal.split_in_chain-returns
split_in_chain-returns t c =
    let at = c.loop-operand in
    quotes.chain_end c.args.script.now c.args.rest.now at.operand-index at.invariant c.loop-operand-test.false

pub split_in_chain-loop-operand-preserved : goal.split_in_chain-loop-operand-preserved
split_in_chain-loop-operand-preserved t c =
    let b = c.args.script.now in
    let at = c.loop-operand in
    quotes.chain_kept b c.args.rest.now at.operand-index c.loop-operand-item.result at.invariant c.loop-operand-test.true c.loop-operand-item.is
    (subst (λ o. SplitsIn b (expression_singles c.loop-operand-item.result.1) o) c.in_default.is c.split_in_expr.ensures)

pub split_in_expr-returns-in-Expansion : goal.split_in_expr-returns-in-Expansion
split_in_expr-returns-in-Expansion t c =
    let b = c.args.script.now in
    quotes.same_spans b _ _ c.split_in_part.result (ap expression_singles c.in-Expansion.is ∙ single.of_expansion c.in-Expansion.part) c.split_in_part.ensures

pub split_in_expr-returns-in-Parenthesis : goal.split_in_expr-returns-in-Parenthesis
split_in_expr-returns-in-Parenthesis t c =
    let b = c.args.script.now in
    quotes.same_spans b _ _ c.split_in_expr.result (ap expression_singles c.in-Parenthesis.is ∙ single.of_parenthesis c.in-Parenthesis.inner) (rw c.get.ensures at c.split_in_expr.ensures)

pub split_in_expr-returns-in-Unary : goal.split_in_expr-returns-in-Unary
split_in_expr-returns-in-Unary t c =
    let b = c.args.script.now in
    quotes.same_spans b _ _ c.split_in_expr-in-Unary.result (ap expression_singles c.in-Unary.is ∙ single.of_unary c.in-Unary.operator c.in-Unary.operand)
    (rw c.get-in-Unary.ensures at c.split_in_expr-in-Unary.ensures)

pub split_in_expr-returns-in-Chain : goal.split_in_expr-returns-in-Chain
split_in_expr-returns-in-Chain t c =
    let b = c.args.script.now in
    quotes.same_spans b _ _ c.or.result (ap expression_singles c.in-Chain.is ∙ single.of_chain c.in-Chain.first c.in-Chain.rest)
    (subst (λ o. SplitsIn b (expression_singles c.in-Chain.first ++ chained c.in-Chain.rest) o) (sym c.or.ensures) (either_split b (expression_singles c.in-Chain.first) (chained c.in-Chain.rest) c.split_in_expr-front.result c.split_in_chain.result
    (rw c.get-in-Chain.ensures at c.split_in_expr-front.ensures) (rw c.as_slice.ensures at c.split_in_chain.ensures)))

pub split_in_expr-returns-in-Choice : goal.split_in_expr-returns-in-Choice
split_in_expr-returns-in-Choice t c =
    let b = c.args.script.now in
    let condition = expression_singles c.in-Choice.condition in
    let middle = expression_singles c.in-Choice.yes in
    let last = expression_singles c.in-Choice.no in
    quotes.same_spans b _ _ c.or-in-Choice-2.result (ap expression_singles c.in-Choice.is ∙ single.of_choice c.in-Choice.condition c.in-Choice.yes c.in-Choice.no)
    (subst (λ o. SplitsIn b (condition ++ middle ++ last) o) (sym c.or-in-Choice-2.ensures) (either_split b (condition ++ middle) last c.or-in-Choice.result c.split_in_expr-last.result
    (subst (λ o. SplitsIn b (condition ++ middle) o) (sym c.or-in-Choice.ensures) (either_split b condition middle c.split_in_expr-front-in-Choice.result c.split_in_expr-middle.result
    (rw c.get-in-Choice.ensures at c.split_in_expr-front-in-Choice.ensures) (rw c.get-in-Choice-2.ensures at c.split_in_expr-middle.ensures)))
    (rw c.get-in-Choice-3.ensures at c.split_in_expr-last.ensures)))

pub split_in_expr-returns-in-Assign : goal.split_in_expr-returns-in-Assign
split_in_expr-returns-in-Assign t c =
    let b = c.args.script.now in
    quotes.same_spans b _ _ c.split_in_expr-in-Assign.result (ap expression_singles c.in-Assign.is ∙ single.of_assign c.in-Assign.name c.in-Assign.operator c.in-Assign.value)
    (rw c.get-in-Assign.ensures at c.split_in_expr-in-Assign.ensures)

pub split_in_operator-returns-in-Use : goal.split_in_operator-returns-in-Use
split_in_operator-returns-in-Use t c =
    let b = c.args.script.now in
    quotes.same_spans b _ _ c.split_in_parts.result (ap operator_singles c.in-Use.is ∙ single.of_use c.in-Use.action c.in-Use.colon c.in-Use.word) (rw c.as_slice.ensures at c.split_in_parts.ensures)

pub split_in_operator-returns-in-Remove : goal.split_in_operator-returns-in-Remove
split_in_operator-returns-in-Remove t c =
    let b = c.args.script.now in
    quotes.same_spans b _ _ c.split_in_parts-in-Remove.result (ap operator_singles c.in-Remove.is ∙ single.of_remove c.in-Remove.removal c.in-Remove.pattern)
    (rw c.as_slice-in-Remove.ensures at c.split_in_parts-in-Remove.ensures)

pub split_in_part-returns-in-Single : goal.split_in_part-returns-in-Single
split_in_part-returns-in-Single t c =
    let b = c.args.script.now in
    quotes.same_spans b _ _ c.split_in_span.result (ap singles_in c.in-Single.is ∙ single.of_single _ c.in-Single.span) c.split_in_span.ensures

pub split_in_part-returns-in-Double : goal.split_in_part-returns-in-Double
split_in_part-returns-in-Double t c =
    let b = c.args.script.now in
    quotes.same_spans b _ _ c.split_in_parts.result (ap singles_in c.in-Double.is ∙ single.of_double _ c.in-Double.parts) (rw c.as_slice.ensures at c.split_in_parts.ensures)

pub split_in_part-returns-in-Param : goal.split_in_part-returns-in-Param
split_in_part-returns-in-Param t c =
    let b = c.args.script.now in
    quotes.same_spans b _ _ c.split_in_operator.result (ap singles_in c.in-Param.is ∙ single.of_param c.in-Param.param) c.split_in_operator.ensures

pub split_in_part-returns-in-Arith : goal.split_in_part-returns-in-Arith
split_in_part-returns-in-Arith t c =
    let b = c.args.script.now in
    quotes.same_spans b _ _ c.split_in_expr.result (ap singles_in c.in-Arith.is ∙ single.of_arith _ c.in-Arith.expr) (rw c.get.ensures at c.split_in_expr.ensures)

pub split_in_parts-returns-in-Some : goal.split_in_parts-returns-in-Some
split_in_parts-returns-in-Some t c =
    let b = c.args.script.now in
    let at = c.loop-part in
    quotes.part_split b c.args.parts.now at.part-index c.part-item.result at.invariant c.loop-part-test.true c.part-item.is c.in-Some.at
    (subst (λ o. SplitsIn b (singles_in c.part-item.result) o) c.in-Some.is c.split_in_part.ensures)

pub split_in_parts-returns : goal.split_in_parts-returns
split_in_parts-returns t c =
    let at = c.loop-part in
    quotes.parts_end c.args.script.now c.args.parts.now at.part-index at.invariant c.loop-part-test.false

pub split_in_parts-loop-part-preserved : goal.split_in_parts-loop-part-preserved
split_in_parts-loop-part-preserved t c =
    let b = c.args.script.now in
    let at = c.loop-part in
    quotes.part_kept b c.args.parts.now at.part-index c.part-item.result at.invariant c.loop-part-test.true c.part-item.is
    (subst (λ o. SplitsIn b (singles_in c.part-item.result) o) c.in_default.is c.split_in_part.ensures)

pub split_in_expr-returns-in-Constant : goal.split_in_expr-returns-in-Constant
split_in_expr-returns-in-Constant t c = quotes.no_spans c.args.script.now (expression_singles c.args.expr.now) (quotes.of_plain_expression c.args.expr.now c.in-Constant.is)

pub split_in_expr-returns-in-Constant-2 : goal.split_in_expr-returns-in-Constant-2
split_in_expr-returns-in-Constant-2 t c = quotes.no_spans c.args.script.now (expression_singles c.args.expr.now) (quotes.of_plain_expression c.args.expr.now c.in-Constant.is)

pub split_in_operator-returns-in-Value : goal.split_in_operator-returns-in-Value
split_in_operator-returns-in-Value t c = quotes.no_spans c.args.script.now (operator_singles c.args.operator.now) (quotes.of_plain_operator c.args.operator.now c.in-Value.is)

pub split_in_operator-returns-in-Value-2 : goal.split_in_operator-returns-in-Value-2
split_in_operator-returns-in-Value-2 t c = quotes.no_spans c.args.script.now (operator_singles c.args.operator.now) (quotes.of_plain_operator c.args.operator.now c.in-Value.is)

pub split_in_part-returns-in-Plain : goal.split_in_part-returns-in-Plain
split_in_part-returns-in-Plain t c =
    quotes.no_spans c.args.script.now (singles_in c.args.part.now) (elim c.in-Plain.is [
      | inl p ↦ ap singles_in p.1 ∙ single.of_plain p.0
      | inr q ↦ elim q [
        | inl p ↦ ap singles_in p.1 ∙ single.of_escaped p.0
        | inr q ↦ elim q [
          | inl p ↦ ap singles_in p.3 ∙ single.of_command p.0 p.1 p.2
          | inr q ↦ elim q [
            | inl p ↦ ap singles_in p.1 ∙ single.of_tilde p.0
            | inr p ↦ ap singles_in p.1 ∙ single.of_joined p.0
          ]
        ]
      ]
    ])

pub split_in_part-returns-in-Plain-2 : goal.split_in_part-returns-in-Plain-2
split_in_part-returns-in-Plain-2 t c =
    quotes.no_spans c.args.script.now (singles_in c.args.part.now) (elim c.in-Plain.is [
      | inl p ↦ ap singles_in p.1 ∙ single.of_plain p.0
      | inr q ↦ elim q [
        | inl p ↦ ap singles_in p.1 ∙ single.of_escaped p.0
        | inr q ↦ elim q [
          | inl p ↦ ap singles_in p.3 ∙ single.of_command p.0 p.1 p.2
          | inr q ↦ elim q [
            | inl p ↦ ap singles_in p.1 ∙ single.of_tilde p.0
            | inr p ↦ ap singles_in p.1 ∙ single.of_joined p.0
          ]
        ]
      ]
    ])

pub split_in_part-returns-in-Plain-3 : goal.split_in_part-returns-in-Plain-3
split_in_part-returns-in-Plain-3 t c =
    quotes.no_spans c.args.script.now (singles_in c.args.part.now) (elim c.in-Plain.is [
      | inl p ↦ ap singles_in p.1 ∙ single.of_plain p.0
      | inr q ↦ elim q [
        | inl p ↦ ap singles_in p.1 ∙ single.of_escaped p.0
        | inr q ↦ elim q [
          | inl p ↦ ap singles_in p.3 ∙ single.of_command p.0 p.1 p.2
          | inr q ↦ elim q [
            | inl p ↦ ap singles_in p.1 ∙ single.of_tilde p.0
            | inr p ↦ ap singles_in p.1 ∙ single.of_joined p.0
          ]
        ]
      ]
    ])

pub split_in_part-returns-in-Plain-4 : goal.split_in_part-returns-in-Plain-4
split_in_part-returns-in-Plain-4 t c =
    quotes.no_spans c.args.script.now (singles_in c.args.part.now) (elim c.in-Plain.is [
      | inl p ↦ ap singles_in p.1 ∙ single.of_plain p.0
      | inr q ↦ elim q [
        | inl p ↦ ap singles_in p.1 ∙ single.of_escaped p.0
        | inr q ↦ elim q [
          | inl p ↦ ap singles_in p.3 ∙ single.of_command p.0 p.1 p.2
          | inr q ↦ elim q [
            | inl p ↦ ap singles_in p.1 ∙ single.of_tilde p.0
            | inr p ↦ ap singles_in p.1 ∙ single.of_joined p.0
          ]
        ]
      ]
    ])

pub split_in_part-returns-in-Plain-5 : goal.split_in_part-returns-in-Plain-5
split_in_part-returns-in-Plain-5 t c =
    quotes.no_spans c.args.script.now (singles_in c.args.part.now) (elim c.in-Plain.is [
      | inl p ↦ ap singles_in p.1 ∙ single.of_plain p.0
      | inr q ↦ elim q [
        | inl p ↦ ap singles_in p.1 ∙ single.of_escaped p.0
        | inr q ↦ elim q [
          | inl p ↦ ap singles_in p.3 ∙ single.of_command p.0 p.1 p.2
          | inr q ↦ elim q [
            | inl p ↦ ap singles_in p.1 ∙ single.of_tilde p.0
            | inr p ↦ ap singles_in p.1 ∙ single.of_joined p.0
          ]
        ]
      ]
    ])
