use Rattle.std.proofs.Common.{◌≡◌, rules, true, false, sym, ◌∙◌, subst}
use Rattle.sh_words.specs.Clauses.{Refuses}
use Rattle.sh_words.specs.Lexemes.{is_open, is_dollar}
use Rattle.sh_words.proofs.Exchange.{fault_refuses}
use Rattle.sh_words.proofs.BadLemmas.{bad_is_fault}
use Rattle.sh_words.proofs.OperandLemmas.{Operand, signed_enters, signed_works, whole_keeps, parenthesis_enters, no_operand}
use Rattle.sh_words.proofs.builder.WordBuilder.operand_step.Goals as goal

pub returns-in-Some-clause-keeps : goal.returns-in-Some-clause-keeps
returns-in-Some-clause-keeps c =
    signed_enters c.args.script.now c.args.self.now c.enter.new.self c.lexeme-token.result c.in-Some.operator c.enter.result c.lexeme-token.ensures
    (sym c.unary_of.ensures ∙ c.in-Some.is) c.enter.ensures

pub returns-in-Some-clause-works : goal.returns-in-Some-clause-works
returns-in-Some-clause-works c =
    signed_works c.args.script.now c.args.self.now c.enter.new.self c.lexeme-token.result c.in-Some.operator c.lexeme-token.result.start c.enter.result c.lexeme-token.ensures
    (sym c.unary_of.ensures ∙ c.in-Some.is) c.enter.ensures

pub returns-in-Some-operand_of-clause-keeps : goal.returns-in-Some-operand_of-clause-keeps
returns-in-Some-operand_of-clause-keeps c =
    whole_keeps c.args.script.now c.args.self.now c.have.new.self c.lexeme-token.result c.in-Some-operand_of.expr c.lexeme-token.ensures (sym c.unary_of.ensures ∙ c.in_default.is)
    (sym c.operand_of.ensures ∙ c.in-Some-operand_of.is) c.have.ensures

pub returns-then-eq-clause-keeps : goal.returns-then-eq-clause-keeps
returns-then-eq-clause-keeps c =
    let is : is_open c.lexeme-token.result.figure ≡ true = search rules in
    parenthesis_enters c.args.script.now c.args.self.now c.enter-then-eq.new.self c.lexeme-token.result c.enter-then-eq.result c.lexeme-token.ensures
    is c.enter-then-eq.ensures

pub returns-clause-keeps : goal.returns-clause-keeps
returns-clause-keeps c =
    let b = c.args.script.now in
    let w = c.args.self.now in
    let closed : is_open c.lexeme-token.result.figure ≡ false = search rules in
    let other : is_dollar c.lexeme-token.result.figure ≡ false = search rules in
    subst (λ e. Refuses b (Operand b w) e) (sym c.bad.ensures)
    (fault_refuses b (Operand b w) _ (bad_is_fault b w.at c.lexeme-token.result w.holder c.lexeme-token.ensures c.requires.sound.3)
    (no_operand b w c.lexeme-token.result c.lexeme-token.ensures (sym c.unary_of.ensures ∙ c.in_default.is) (sym c.operand_of.ensures ∙ c.in_default-operand_of.is)
    closed other))
