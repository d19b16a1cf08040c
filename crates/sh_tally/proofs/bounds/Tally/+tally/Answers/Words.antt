use Rattle.std.proofs.Common.{IfOk, ◌∷◌, ◌+◌, drop, refl, subst}
use Rattle.std.proofs.lemmas.List.{drop_all}
use Rattle.std.proofs.lemmas.Result.{IfOk-weaker}
use Rattle.sh_tree.specs.Lists.{elements_from, operands_from, parts_from, redirects_from, words_from}
use Rattle.sh_tree.specs.standard.program.Syntax as p
use Rattle.sh_tree.specs.standard.program.Trees as trees
use Rattle.sh_tree.proofs.ProgramRules as rules
use Rattle.sh_domain.specs.Entries as entries
use Rattle.sh_domain.specs.Gains.{expanded_gains, operator_gains, part_gains, word_gains}
use Rattle.sh_rules.specs.Walks as walks
use Rattle.sh_tally.specs.Walks.{Passes, PassesValues, PassesWords, names}
use Rattle.sh_tally.proofs.IterationLemmas.{ListedPassed, listed_begun, listed_next, listed_passed}
use Rattle.sh_tally.proofs.RedirectLemmas.{RedirectsPassed, redirects_begun, redirects_next, redirects_passed}
use Rattle.sh_tally.proofs.WordLemmas.{OperandsPassed, PartsPassed, arithmetic_part, assigned_expression, chain_expression, choice_expression, expanded_expression, expression_as, held, held_operands, idle_expression, idle_operator, inner_expression, operands_next, operands_passed, operator_as, remove_operator, signed_expression, use_operator, assignment_values, assignment_words, double_part, expansion_part, file_target, here_target, idle_part, operand_values, operand_words, part_as, parts_passed, pieces_next, redirection_values, redirection_words, substitution_part, target_as, values_as, values_begun, values_ended, values_next, words_as, words_ended, words_next}
use Rattle.sh_tally.proofs.WalkLemmas.{at_index}
use Rattle.sh_tally.proofs.bounds.Tally.+tally.Goals as goal

pub target-returns-in-File : goal.target-returns-in-File
target-returns-in-File t c =
    let s = c.args.self.now in
    let b = s.script.now in
    let w = c.in-File.word in
    IfOk-weaker c.word.result _ _
    (λ left h. target_as s b c.args.target.now _ (p.File (parts_from b w.parts)) c.args.known left c.args.equations.now c.word.new.equations c.in-File.is (rules.target_of-File b _ w)
    (file_target s (parts_from b w.parts) c.args.known left c.args.equations.now c.word.new.equations h))
    c.word.ensures

pub target-returns-in-Here : goal.target-returns-in-Here
target-returns-in-Here t c =
    let s = c.args.self.now in
    let b = s.script.now in
    let h = c.in-Here.here in
    IfOk-weaker c.word-in-Here.result _ _
    (λ left one. target_as s b c.args.target.now _ (p.Here (parts_from b h.body.parts)) c.args.known left c.args.equations.now c.word-in-Here.new.equations c.in-Here.is (rules.target_of-Here b h)
    (here_target s (parts_from b h.body.parts) c.args.known left c.args.equations.now c.word-in-Here.new.equations one))
    c.word-in-Here.ensures

pub word-returns : goal.word-returns
word-returns t c =
    let s = c.args.self.now in
    let b = s.script.now in
    subst (λ ps. IfOk c.word_parts.result (λ left. Passes s (λ q. entries.word_entered q (parts_from b ps)) (word_gains (parts_from b ps)) c.args.known left c.args.equations.now c.word_parts.new.equations)) c.as_slice.ensures c.word_parts.ensures

pub word_parts-loop-part-preserved : goal.word_parts-loop-part-preserved
word_parts-loop-part-preserved t c =
    let s = c.args.self.now in
    let b = s.script.now in
    let all = parts_from b c.args.parts.now in
    let here : PartsPassed s all (parts_from b (c.part-item.result ∷ drop (c.loop-part.part-index + 1) c.args.parts.now)) c.args.known c.loop-part.left c.args.equations.now c.loop-part.equations =
    subst (λ ps. PartsPassed s all (parts_from b ps) c.args.known c.loop-part.left c.args.equations.now c.loop-part.equations) (at_index c.args.parts.now c.loop-part.part-index c.part-item.result c.loop-part-test.true c.part-item.is) c.loop-part.invariant.left in
    record { left = pieces_next s b all c.part-item.result _ c.args.known c.loop-part.left c.in_ok-left.left c.args.equations.now c.loop-part.equations c.part.new.equations here c.in_ok-left.ensures }

pub word_parts-returns : goal.word_parts-returns
word_parts-returns t c =
    let s = c.args.self.now in
    let b = s.script.now in
    let all = parts_from b c.args.parts.now in
    parts_passed s b all c.args.known c.loop-part.left c.args.equations.now c.loop-part.equations
    (subst (λ ps. PartsPassed s all (parts_from b ps) c.args.known c.loop-part.left c.args.equations.now c.loop-part.equations) (drop_all c.loop-part.part-index c.args.parts.now c.loop-part-test.false) c.loop-part.invariant.left)

pub part-returns-in-Plain : goal.part-returns-in-Plain
unfolding part_gains
part-returns-in-Plain t c =
    let s = c.args.self.now in
    let b = s.script.now in
    part_as s b c.args.part.now _ _ c.args.known c.args.known c.args.equations.now c.args.equations.now c.in-Plain.is (rules.part_of-Plain b _) (idle_part s c.args.known c.args.equations.now _ refl)

pub part-returns-in-Escaped : goal.part-returns-in-Escaped
unfolding part_gains
part-returns-in-Escaped t c =
    let s = c.args.self.now in
    let b = s.script.now in
    part_as s b c.args.part.now _ _ c.args.known c.args.known c.args.equations.now c.args.equations.now c.in-Escaped.is (rules.part_of-Escaped b _) (idle_part s c.args.known c.args.equations.now _ refl)

pub part-returns-in-Single : goal.part-returns-in-Single
unfolding part_gains
part-returns-in-Single t c =
    let s = c.args.self.now in
    let b = s.script.now in
    part_as s b c.args.part.now _ _ c.args.known c.args.known c.args.equations.now c.args.equations.now c.in-Single.is (rules.part_of-Single b _ _) (idle_part s c.args.known c.args.equations.now _ refl)

pub part-returns-in-Tilde : goal.part-returns-in-Tilde
unfolding part_gains
part-returns-in-Tilde t c =
    let s = c.args.self.now in
    let b = s.script.now in
    part_as s b c.args.part.now _ _ c.args.known c.args.known c.args.equations.now c.args.equations.now c.in-Tilde.is (rules.part_of-Tilde b _) (idle_part s c.args.known c.args.equations.now _ refl)

pub part-returns-in-Joined : goal.part-returns-in-Joined
unfolding part_gains
part-returns-in-Joined t c =
    let s = c.args.self.now in
    let b = s.script.now in
    part_as s b c.args.part.now _ _ c.args.known c.args.known c.args.equations.now c.args.equations.now c.in-Joined.is (rules.part_of-Joined b _) (idle_part s c.args.known c.args.equations.now _ refl)

pub part-returns-in-Double : goal.part-returns-in-Double
part-returns-in-Double t c =
    let s = c.args.self.now in
    let b = s.script.now in
    let ps = c.in-Double.parts in
    let same = c.as_slice.ensures in
    let one : IfOk c.word_parts.result (λ left. Passes s (λ q. entries.word_entered q (parts_from b ps)) (word_gains (parts_from b ps)) c.args.known left c.args.equations.now c.word_parts.new.equations) =
    subst (λ ps. IfOk c.word_parts.result (λ left. Passes s (λ q. entries.word_entered q (parts_from b ps)) (word_gains (parts_from b ps)) c.args.known left c.args.equations.now c.word_parts.new.equations)) same c.word_parts.ensures in
    IfOk-weaker c.word_parts.result _ _
    (λ left h. part_as s b c.args.part.now _ _ c.args.known left c.args.equations.now c.word_parts.new.equations c.in-Double.is (rules.part_of-Double b _ ps)
    (double_part s c.args.known c.args.equations.now (parts_from b ps) left c.word_parts.new.equations h))
    one

pub part-returns-in-Param : goal.part-returns-in-Param
part-returns-in-Param t c =
    let s = c.args.self.now in
    let b = s.script.now in
    IfOk-weaker c.operator.result _ _
    (λ left h. part_as s b c.args.part.now _ _ c.args.known left c.args.equations.now c.operator.new.equations c.in-Param.is (rules.part_of-Param b c.in-Param.param)
    (expansion_part s c.args.known c.args.equations.now _ _ _ left c.operator.new.equations h))
    c.operator.ensures

pub part-returns-in-Arith : goal.part-returns-in-Arith
part-returns-in-Arith t c =
    let s = c.args.self.now in
    let b = s.script.now in
    let x = c.in-Arith.expression in
    let one : IfOk c.arithmetic.result (λ left. Passes s (λ q. entries.expression_entered q (trees.expression_of b x)) (expanded_gains (trees.expression_of b x)) c.args.known left c.args.equations.now c.arithmetic.new.equations) =
    subst (λ x. IfOk c.arithmetic.result (λ left. Passes s (λ q. entries.expression_entered q (trees.expression_of b x)) (expanded_gains (trees.expression_of b x)) c.args.known left c.args.equations.now c.arithmetic.new.equations)) c.get.ensures c.arithmetic.ensures in
    IfOk-weaker c.arithmetic.result _ _
    (λ left h. part_as s b c.args.part.now _ _ c.args.known left c.args.equations.now c.arithmetic.new.equations c.in-Arith.is (rules.part_of-Arith b _ x)
    (arithmetic_part s c.args.known c.args.equations.now _ (trees.expression_of b x) left c.arithmetic.new.equations h))
    one

pub part-returns-in_ok-list-in-Command : goal.part-returns-in_ok-list-in-Command
part-returns-in_ok-list-in-Command t c =
    let s = c.args.self.now in
    let b = s.script.now in
    part_as s b c.args.part.now _ _ c.args.known c.args.known c.args.equations.now c.list.new.equations c.in-Command.is (rules.part_of-Command b _ _ c.in-Command.list)
    (substitution_part s c.args.known c.args.equations.now _ (trees.script_of b c.in-Command.list) (walks.around b c.alone.result) c.list.new.equations (c.alone.ensures b) c.in_ok-list-in-Command.ensures.adds)

pub arithmetic-returns-in-Constant : goal.arithmetic-returns-in-Constant
unfolding part_gains
arithmetic-returns-in-Constant t c =
    let s = c.args.self.now in
    let b = s.script.now in
    expression_as s b c.args.expression.now _ _ c.args.known c.args.known c.args.equations.now c.args.equations.now c.in-Constant.is (rules.expression_of-Constant b _) (idle_expression s c.args.known c.args.equations.now _ refl)

pub arithmetic-returns-in-Variable : goal.arithmetic-returns-in-Variable
unfolding part_gains
arithmetic-returns-in-Variable t c =
    let s = c.args.self.now in
    let b = s.script.now in
    expression_as s b c.args.expression.now _ _ c.args.known c.args.known c.args.equations.now c.args.equations.now c.in-Variable.is (rules.expression_of-Variable b _) (idle_expression s c.args.known c.args.equations.now _ refl)

pub arithmetic-returns-in-Expansion : goal.arithmetic-returns-in-Expansion
arithmetic-returns-in-Expansion t c =
    let s = c.args.self.now in
    let b = s.script.now in
    IfOk-weaker c.part.result _ _
    (λ left h. expression_as s b c.args.expression.now _ _ c.args.known left c.args.equations.now c.part.new.equations c.in-Expansion.is (rules.expression_of-Expansion b _)
    (expanded_expression s c.args.known c.args.equations.now left c.part.new.equations _ h))
    c.part.ensures

pub arithmetic-returns-in-Parenthesis : goal.arithmetic-returns-in-Parenthesis
arithmetic-returns-in-Parenthesis t c =
    let s = c.args.self.now in
    let b = s.script.now in
    IfOk-weaker c.arithmetic.result _ _
    (λ left h. expression_as s b c.args.expression.now _ _ c.args.known left c.args.equations.now c.arithmetic.new.equations c.in-Parenthesis.is (rules.expression_of-Parenthesis b _)
    (inner_expression s c.args.known c.args.equations.now left c.arithmetic.new.equations _ (held s b _ _ c.args.known left c.args.equations.now c.arithmetic.new.equations c.get.ensures h)))
    c.arithmetic.ensures

pub arithmetic-returns-in-Unary : goal.arithmetic-returns-in-Unary
arithmetic-returns-in-Unary t c =
    let s = c.args.self.now in
    let b = s.script.now in
    IfOk-weaker c.arithmetic-in-Unary.result _ _
    (λ left h. expression_as s b c.args.expression.now _ _ c.args.known left c.args.equations.now c.arithmetic-in-Unary.new.equations c.in-Unary.is (rules.expression_of-Unary b _ _)
    (signed_expression s c.args.known c.args.equations.now left c.arithmetic-in-Unary.new.equations _ _ (held s b _ _ c.args.known left c.args.equations.now c.arithmetic-in-Unary.new.equations c.get-in-Unary.ensures h)))
    c.arithmetic-in-Unary.ensures

pub arithmetic-returns-in-Assign : goal.arithmetic-returns-in-Assign
arithmetic-returns-in-Assign t c =
    let s = c.args.self.now in
    let b = s.script.now in
    IfOk-weaker c.arithmetic-in-Assign.result _ _
    (λ left h. expression_as s b c.args.expression.now _ _ c.args.known left c.args.equations.now c.arithmetic-in-Assign.new.equations c.in-Assign.is (rules.expression_of-Assign b _ _ _)
    (assigned_expression s c.args.known c.args.equations.now left c.arithmetic-in-Assign.new.equations _ _ _ _ (held s b _ _ c.args.known left c.args.equations.now c.arithmetic-in-Assign.new.equations c.get-in-Assign.ensures h)))
    c.arithmetic-in-Assign.ensures

pub arithmetic-returns-in_ok-left-in-Chain : goal.arithmetic-returns-in_ok-left-in-Chain
arithmetic-returns-in_ok-left-in-Chain t c =
    let s = c.args.self.now in
    let b = s.script.now in
    let mid = c.in_ok-left-in-Chain.left in
    let one = c.arithmetic-in-Chain.new.equations in
    IfOk-weaker c.chain.result _ _
    (λ left h. expression_as s b c.args.expression.now _ _ c.args.known left c.args.equations.now c.chain.new.equations c.in-Chain.is (rules.expression_of-Chain b _ _)
    (chain_expression s c.args.known c.args.equations.now left c.chain.new.equations _ _ mid one (held s b _ _ c.args.known mid c.args.equations.now one c.get-in-Chain.ensures c.in_ok-left-in-Chain.ensures)
    (held_operands s b _ _ mid left one c.chain.new.equations c.as_slice.ensures h)))
    c.chain.ensures

pub arithmetic-returns-in_ok-left-in-Choice : goal.arithmetic-returns-in_ok-left-in-Choice
arithmetic-returns-in_ok-left-in-Choice t c =
    let s = c.args.self.now in
    let b = s.script.now in
    let tested = c.in_ok-tested-in-Choice.tested in
    let mid = c.in_ok-left-in-Choice.left in
    let one = c.arithmetic-in-Choice.new.equations in
    let two = c.arithmetic-in-Choice-2.new.equations in
    let new = c.arithmetic-in-Choice-3.new.equations in
    IfOk-weaker c.arithmetic-in-Choice-3.result _ _
    (λ left h. expression_as s b c.args.expression.now _ _ c.args.known left c.args.equations.now new c.in-Choice.is (rules.expression_of-Choice b _ _ _)
    (choice_expression s c.args.known c.args.equations.now left new _ _ _ mid tested one two (held s b _ _ c.args.known tested c.args.equations.now one c.get-in-Choice.ensures c.in_ok-tested-in-Choice.ensures)
    (held s b _ _ tested mid one two c.get-in-Choice-2.ensures c.in_ok-left-in-Choice.ensures) (held s b _ _ mid left two new c.get-in-Choice-3.ensures h)))
    c.arithmetic-in-Choice-3.ensures

pub chain-loop-link-preserved : goal.chain-loop-link-preserved
chain-loop-link-preserved t c =
    let s = c.args.self.now in
    let b = s.script.now in
    let all = operands_from b c.args.rest.now in
    let here : OperandsPassed s all (operands_from b (c.link-item.result ∷ drop (c.loop-link.link-index + 1) c.args.rest.now)) c.args.known c.loop-link.left c.args.equations.now c.loop-link.equations =
    subst (λ xs. OperandsPassed s all (operands_from b xs) c.args.known c.loop-link.left c.args.equations.now c.loop-link.equations) (at_index c.args.rest.now c.loop-link.link-index c.link-item.result c.loop-link-test.true c.link-item.is) c.loop-link.invariant.left in
    record { left = operands_next s b all c.link-item.result _ c.args.known c.loop-link.left c.in_ok-left.left c.args.equations.now c.loop-link.equations c.arithmetic.new.equations here c.in_ok-left.ensures }

pub chain-returns : goal.chain-returns
chain-returns t c =
    let s = c.args.self.now in
    let b = s.script.now in
    let all = operands_from b c.args.rest.now in
    operands_passed s b all c.args.known c.loop-link.left c.args.equations.now c.loop-link.equations
    (subst (λ xs. OperandsPassed s all (operands_from b xs) c.args.known c.loop-link.left c.args.equations.now c.loop-link.equations) (drop_all c.loop-link.link-index c.args.rest.now c.loop-link-test.false) c.loop-link.invariant.left)

pub operator-returns-in-Value : goal.operator-returns-in-Value
unfolding operator_gains
operator-returns-in-Value t c =
    let s = c.args.self.now in
    let b = s.script.now in
    operator_as s b (trees.parameter_of b c.args.parameter) c.args.operator.now _ _ c.args.known c.args.known c.args.equations.now c.args.equations.now c.in-Value.is (rules.operator_of-Value b) (idle_operator s c.args.known c.args.equations.now (trees.parameter_of b c.args.parameter) _ refl)

pub operator-returns-in-Length : goal.operator-returns-in-Length
unfolding operator_gains
operator-returns-in-Length t c =
    let s = c.args.self.now in
    let b = s.script.now in
    operator_as s b (trees.parameter_of b c.args.parameter) c.args.operator.now _ _ c.args.known c.args.known c.args.equations.now c.args.equations.now c.in-Length.is (rules.operator_of-Length b) (idle_operator s c.args.known c.args.equations.now (trees.parameter_of b c.args.parameter) _ refl)

pub operator-returns-in_ok-word-in-Remove : goal.operator-returns-in_ok-word-in-Remove
operator-returns-in_ok-word-in-Remove t c =
    let s = c.args.self.now in
    let b = s.script.now in
    operator_as s b (trees.parameter_of b c.args.parameter) c.args.operator.now _ _ c.args.known c.args.known c.args.equations.now c.word.new.equations c.in-Remove.is (rules.operator_of-Remove b _ _)
    (remove_operator s c.args.known c.args.equations.now (trees.parameter_of b c.args.parameter) _ _ _ c.word.new.equations c.in_ok-word-in-Remove.ensures)

pub operator-returns-in_ok-word-in-Use : goal.operator-returns-in_ok-word-in-Use
operator-returns-in_ok-word-in-Use t c =
    let s = c.args.self.now in
    let b = s.script.now in
    let y = trees.parameter_of b c.args.parameter in
    operator_as s b y c.args.operator.now _ _ c.args.known c.set_after.result c.args.equations.now c.word-in-Use.new.equations c.in-Use.is (rules.operator_of-Use b c.in-Use.action _ _)
    (use_operator s c.args.known c.args.equations.now y c.in-Use.action _ _ c.in_word.result _ c.set_after.result c.word-in-Use.new.equations (c.in_word.ensures (names s) b) c.in_ok-word-in-Use.ensures (c.set_after.ensures b _ _))

pub operands-loop-element-preserved : goal.operands-loop-element-preserved
operands-loop-element-preserved t c =
    let s = c.args.self.now in
    let b = s.script.now in
    let all = elements_from b c.args.elements.now in
    let here : PassesWords s all (elements_from b (c.element-item.result ∷ drop (c.loop-element.element-index + 1) c.args.elements.now)) c.args.known c.loop-element.left c.args.equations.now c.loop-element.equations =
    subst (λ es. PassesWords s all (elements_from b es) c.args.known c.loop-element.left c.args.equations.now c.loop-element.equations) (at_index c.args.elements.now c.loop-element.element-index c.element-item.result c.loop-element-test.true c.element-item.is) c.loop-element.invariant.left in
    record { left = words_next s b all c.element-item.result _ c.args.known c.loop-element.left c.in_ok-left.left c.args.equations.now c.loop-element.equations c.operand.new.equations here c.in_ok-left.ensures }

pub operands-returns : goal.operands-returns
operands-returns t c =
    let s = c.args.self.now in
    let b = s.script.now in
    let all = elements_from b c.args.elements.now in
    words_ended s b all c.args.known c.loop-element.left c.args.equations.now c.loop-element.equations
    (subst (λ es. PassesWords s all (elements_from b es) c.args.known c.loop-element.left c.args.equations.now c.loop-element.equations) (drop_all c.loop-element.element-index c.args.elements.now c.loop-element-test.false) c.loop-element.invariant.left)

pub values-loop-element-preserved : goal.values-loop-element-preserved
values-loop-element-preserved t c =
    let s = c.args.self.now in
    let b = s.script.now in
    let all = elements_from b c.args.elements.now in
    let here : PassesValues s all (elements_from b (c.element-item.result ∷ drop (c.loop-element.element-index + 1) c.args.elements.now)) c.args.known c.loop-element.left c.args.equations.now c.loop-element.equations =
    subst (λ es. PassesValues s all (elements_from b es) c.args.known c.loop-element.left c.args.equations.now c.loop-element.equations) (at_index c.args.elements.now c.loop-element.element-index c.element-item.result c.loop-element-test.true c.element-item.is) c.loop-element.invariant.left in
    record { left = values_next s b all c.element-item.result _ c.args.known c.loop-element.left c.in_ok-left.left c.args.equations.now c.loop-element.equations c.value.new.equations here c.in_ok-left.ensures }

pub values-returns : goal.values-returns
values-returns t c =
    let s = c.args.self.now in
    let b = s.script.now in
    let all = elements_from b c.args.elements.now in
    values_ended s b all c.args.known c.loop-element.left c.args.equations.now c.loop-element.equations
    (subst (λ es. PassesValues s all (elements_from b es) c.args.known c.loop-element.left c.args.equations.now c.loop-element.equations) (drop_all c.loop-element.element-index c.args.elements.now c.loop-element-test.false) c.loop-element.invariant.left)

pub operand-returns-in-Word : goal.operand-returns-in-Word
operand-returns-in-Word t c =
    let s = c.args.self.now in
    let b = s.script.now in
    let w = c.in-Word.word in
    IfOk-weaker c.word.result _ _
    (λ left h. words_as s b c.args.element.now _ c.args.known left c.args.equations.now c.word.new.equations _ c.in-Word.is (rules.element_from-Word b w)
    (λ rest. operand_words s (parts_from b w.parts) rest c.args.known left c.args.equations.now c.word.new.equations h))
    c.word.ensures

pub operand-returns-in-Assignment : goal.operand-returns-in-Assignment
operand-returns-in-Assignment t c =
    let s = c.args.self.now in
    let b = s.script.now in
    words_as s b c.args.element.now _ c.args.known c.args.known c.args.equations.now c.args.equations.now _ c.in-Assignment.is (rules.element_from-Assignment b _ _)
    (λ rest. assignment_words s _ _ rest c.args.known c.args.equations.now)

pub operand-returns-in-Redirection : goal.operand-returns-in-Redirection
operand-returns-in-Redirection t c =
    let s = c.args.self.now in
    let b = s.script.now in
    words_as s b c.args.element.now _ c.args.known c.args.known c.args.equations.now c.args.equations.now _ c.in-Redirection.is (rules.element_from-Redirection b _)
    (λ rest. redirection_words s _ rest c.args.known c.args.equations.now)

pub value-returns-in-Word : goal.value-returns-in-Word
value-returns-in-Word t c =
    let s = c.args.self.now in
    let b = s.script.now in
    values_as s b c.args.element.now _ c.args.known c.args.known c.args.equations.now c.args.equations.now _ c.in-Word.is (rules.element_from-Word b _)
    (λ rest. operand_values s _ rest c.args.known c.args.equations.now)

pub value-returns-in-Assignment : goal.value-returns-in-Assignment
value-returns-in-Assignment t c =
    let s = c.args.self.now in
    let b = s.script.now in
    let w = c.in-Assignment.value in
    IfOk-weaker c.word.result _ _
    (λ left h. values_as s b c.args.element.now _ c.args.known left c.args.equations.now c.word.new.equations _ c.in-Assignment.is (rules.element_from-Assignment b _ w)
    (λ rest. assignment_values s _ (parts_from b w.parts) rest c.args.known left c.args.equations.now c.word.new.equations h))
    c.word.ensures

pub value-returns-in-Redirection : goal.value-returns-in-Redirection
value-returns-in-Redirection t c =
    let s = c.args.self.now in
    let b = s.script.now in
    let d = c.in-Redirection.redirect in
    IfOk-weaker c.target.result _ _
    (λ left h. values_as s b c.args.element.now _ c.args.known left c.args.equations.now c.target.new.equations _ c.in-Redirection.is (rules.element_from-Redirection b d)
    (λ rest. redirection_values s (trees.target_of b d.target) rest c.args.known left c.args.equations.now c.target.new.equations h))
    c.target.ensures

pub values-loop-element-init : goal.values-loop-element-init
values-loop-element-init t c =
    let s = c.args.self.now in
    record { left = values_begun s (elements_from s.script.now c.args.elements.now) c.args.known c.args.equations.now }

pub words-loop-word-init : goal.words-loop-word-init
words-loop-word-init t c =
    let s = c.args.self.now in
    record { left = listed_begun s (words_from s.script.now c.args.words.now) c.args.known c.args.equations.now }

pub words-loop-word-preserved : goal.words-loop-word-preserved
words-loop-word-preserved t c =
    let s = c.args.self.now in
    let b = s.script.now in
    let all = words_from b c.args.words.now in
    let here : ListedPassed s all (words_from b (c.word-item.result ∷ drop (c.loop-word.word-index + 1) c.args.words.now)) c.args.known c.loop-word.left c.args.equations.now c.loop-word.equations =
    subst (λ ws. ListedPassed s all (words_from b ws) c.args.known c.loop-word.left c.args.equations.now c.loop-word.equations) (at_index c.args.words.now c.loop-word.word-index c.word-item.result c.loop-word-test.true c.word-item.is) c.loop-word.invariant.left in
    record { left = listed_next s b all c.word-item.result _ c.args.known c.loop-word.left c.in_ok-left.left c.args.equations.now c.loop-word.equations c.word.new.equations here c.in_ok-left.ensures }

pub words-returns : goal.words-returns
words-returns t c =
    let s = c.args.self.now in
    let b = s.script.now in
    let all = words_from b c.args.words.now in
    listed_passed s b all c.args.known c.loop-word.left c.args.equations.now c.loop-word.equations
    (subst (λ ws. ListedPassed s all (words_from b ws) c.args.known c.loop-word.left c.args.equations.now c.loop-word.equations) (drop_all c.loop-word.word-index c.args.words.now c.loop-word-test.false) c.loop-word.invariant.left)

pub redirects-loop-redirect-init : goal.redirects-loop-redirect-init
redirects-loop-redirect-init t c =
    let s = c.args.self.now in
    record { left = redirects_begun s (redirects_from s.script.now c.args.redirects.now) c.args.known c.args.equations.now }

pub redirects-loop-redirect-preserved : goal.redirects-loop-redirect-preserved
redirects-loop-redirect-preserved t c =
    let s = c.args.self.now in
    let b = s.script.now in
    let all = redirects_from b c.args.redirects.now in
    let here : RedirectsPassed s all (redirects_from b (c.redirect-item.result ∷ drop (c.loop-redirect.redirect-index + 1) c.args.redirects.now)) c.args.known c.loop-redirect.left c.args.equations.now c.loop-redirect.equations =
    subst (λ rs. RedirectsPassed s all (redirects_from b rs) c.args.known c.loop-redirect.left c.args.equations.now c.loop-redirect.equations) (at_index c.args.redirects.now c.loop-redirect.redirect-index c.redirect-item.result c.loop-redirect-test.true c.redirect-item.is) c.loop-redirect.invariant.left in
    record { left = redirects_next s b all c.redirect-item.result _ c.args.known c.loop-redirect.left c.in_ok-left.left c.args.equations.now c.loop-redirect.equations c.target.new.equations here c.in_ok-left.ensures }

pub redirects-returns : goal.redirects-returns
redirects-returns t c =
    let s = c.args.self.now in
    let b = s.script.now in
    let all = redirects_from b c.args.redirects.now in
    redirects_passed s b all c.args.known c.loop-redirect.left c.args.equations.now c.loop-redirect.equations
    (subst (λ rs. RedirectsPassed s all (redirects_from b rs) c.args.known c.loop-redirect.left c.args.equations.now c.loop-redirect.equations) (drop_all c.loop-redirect.redirect-index c.args.redirects.now c.loop-redirect-test.false) c.loop-redirect.invariant.left)
