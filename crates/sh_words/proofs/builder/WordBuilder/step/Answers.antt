use Rattle.std.proofs.Common.{sym, subst}
use Rattle.sh_words.specs.declared.frames.Focus.TheVariants as focus
use Rattle.sh_words.specs.declared.frames.Operation.TheVariants as operation
use Rattle.sh_words.specs.Clauses.{Keeps}
use Rattle.sh_words.specs.Rest.{Left}
use Rattle.sh_words.specs.States.{focused, operating}
use Rattle.sh_words.proofs.Exchange.{steps_equal, unfocused}
use Rattle.sh_words.proofs.OperandLemmas.{conditional_keeps}
use Rattle.sh_words.proofs.RunLemmas.{waiting_ends}
use Rattle.sh_words.proofs.builder.WordBuilder.step.Goals as goal

pub returns-in-Parts-clause-keeps : goal.returns-in-Parts-clause-keeps
returns-in-Parts-clause-keeps c =
    steps_equal c.args.script.now c.args.self.now (focused c.args.self.now focus.Parts) c.parts_step.new.self c.parts_step.result
    (unfocused c.args.self.now focus.Parts (sym c.in-Parts.ensures.value)) c.parts_step.ensures.keeps

pub returns-in-Expression-clause-keeps : goal.returns-in-Expression-clause-keeps
returns-in-Expression-clause-keeps c =
    steps_equal c.args.script.now c.args.self.now (focused c.args.self.now focus.Expression) c.expression_step.new.self c.expression_step.result
    (unfocused c.args.self.now focus.Expression (sym c.in-Expression.ensures.value)) c.expression_step.ensures.keeps

pub returns-in_ok-conditional_step-in-Conditional-clause-keeps :
    goal.returns-in_ok-conditional_step-in-Conditional-clause-keeps
returns-in_ok-conditional_step-in-Conditional-clause-keeps c =
    let b = c.args.script.now in
    let w = c.args.self.now in
    rw (c.in_ok-conditional_step-in-Conditional.ensures)
    (subst (λ v. Keeps b (Left b v) (operating w operation.Condition w.depth (focus.Level 0) w.at)) (unfocused w focus.Conditional (sym c.in-Conditional.ensures.value)) (conditional_keeps b w))

pub returns-in-Level-clause-keeps : goal.returns-in-Level-clause-keeps
returns-in-Level-clause-keeps c =
    steps_equal c.args.script.now c.args.self.now (focused c.args.self.now (focus.Level c.in-Level.level)) c.level_step.new.self c.level_step.result
    (unfocused c.args.self.now (focus.Level c.in-Level.level) (sym c.in-Level.ensures.value)) c.level_step.ensures.keeps

pub returns-in-Have-clause-keeps : goal.returns-in-Have-clause-keeps
returns-in-Have-clause-keeps c =
    steps_equal c.args.script.now c.args.self.now (focused c.args.self.now (focus.Have c.in-Have.expr)) c.have_step.new.self c.have_step.result
    (unfocused c.args.self.now (focus.Have c.in-Have.expr) (sym c.in-Have.ensures.value)) c.have_step.ensures.keeps

pub returns-in-Commands-clause-keeps : goal.returns-in-Commands-clause-keeps
returns-in-Commands-clause-keeps c = waiting_ends c.args.script.now c.args.self.now c.in-Commands.start c.in-Commands.field-1 (sym c.in-Commands.ensures.value) c.requires.sound
