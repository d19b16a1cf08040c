use Rattle.std.proofs.Common.{sym, ◌∙◌}
use Rattle.sh_words.proofs.OperandLemmas.{unassigned_keeps, assignment_enters, assignment_works}
use Rattle.sh_words.proofs.builder.WordBuilder.expression_step.Goals as goal

pub returns-in-None-clause-keeps : goal.returns-in-None-clause-keeps
returns-in-None-clause-keeps c =
    unassigned_keeps c.args.script.now c.args.self.now c.lexeme-first.result c.lexeme-second.result c.lexeme-first.ensures c.lexeme-second.ensures
    (sym c.assigned.ensures ∙ c.in-None.is)

pub returns-in-Some-clause-keeps : goal.returns-in-Some-clause-keeps
returns-in-Some-clause-keeps c =
    assignment_enters c.args.script.now c.args.self.now c.enter.new.self c.span_of.result c.lexeme-first.result c.lexeme-second.result c.lexeme-value.result c.in-Some.operator
    c.enter.result c.lexeme-first.ensures c.lexeme-second.ensures c.lexeme-value.ensures (sym c.assigned.ensures ∙ c.in-Some.is) c.span_of.ensures c.enter.ensures

pub returns-in-Some-clause-works : goal.returns-in-Some-clause-works
returns-in-Some-clause-works c =
    assignment_works c.args.script.now c.args.self.now c.enter.new.self c.span_of.result c.lexeme-first.result c.lexeme-second.result c.in-Some.operator
    c.lexeme-value.result.start c.enter.result c.lexeme-first.ensures c.lexeme-second.ensures (sym c.assigned.ensures ∙ c.in-Some.is) c.enter.ensures
