use Rattle.std.proofs.Common.{◌∷◌, subst, sym, ap, ◌∙◌}
use Rattle.sh_words.specs.Rest.{Left, IsOperand}
use Rattle.sh_words.specs.Lexemes.{follows}
use Rattle.sh_words.specs.States.{focused}
use Rattle.sh_words.specs.declared.frames.Focus.TheVariants as focus
use Rattle.sh_words.proofs.BadLemmas.{bad_is_fault}
use Rattle.sh_words.proofs.Exchange.{fault_refuses}
use Rattle.sh_words.proofs.OperationLemmas.{unfollowed_ends, nothing_around, no_operand_around, expansion_read, expansion_moves}
use Rattle.sh_words.proofs.builder.WordBuilder.expression_read.Goals as goal

pub returns-then-not-follows-clause-keeps : goal.returns-then-not-follows-clause-keeps
returns-then-not-follows-clause-keeps c =
    let b = c.args.script.now in
    let w = c.args.self.now in
    fault_refuses b (Left b (focused w (focus.Have c.args.expr))) c.misplaced.result c.misplaced.ensures
    (unfollowed_ends b w c.args.expr (ap (λ t. follows t.figure) (sym c.requires.token.0) ∙ sym c.follows.ensures ∙ c.if-not-follows.true))

pub returns-in_default-clause-keeps : goal.returns-in_default-clause-keeps
returns-in_default-clause-keeps c =
    (c.requires.inside, no_operand_around c.args.script.now c.args.self.now c.args.expr (subst (λ h. IsOperand h → ⊥) (sym c.in_default.is) (λ x. x)))

pub returns-in-None-clause-keeps : goal.returns-in-None-clause-keeps
returns-in-None-clause-keeps c =
    let b = c.args.script.now in
    let w = c.args.self.now in
    fault_refuses b (Left b (focused w (focus.Have c.args.expr))) c.bad.result
    (rw c.bad.ensures (bad_is_fault b w.at c.args.token w.holder c.requires.token c.requires.sound.3)) (nothing_around b w c.args.expr c.in-None.ensures.0)

pub returns-in-Some-Opened-clause-keeps : goal.returns-in-Some-Opened-clause-keeps
returns-in-Some-Opened-clause-keeps c =
    let m = c.in-Some-Opened in
    let o = c.in-Operand in
    let operand : IsOperand c.args.self.now.holder = subst IsOperand (sym o.is) tt in
    expansion_read c.args.script.now c.args.self.now c.pop.new.self m.holder m.depth m.start m.field-0-3 m.opening c.args.expr c.args.token
    c.close_arithmetic.new.self c.close_arithmetic.result (m.ensures ∙ ap (λ f. f ∷ c.pop.new.self) m.field-0-is) operand c.requires.token c.close_arithmetic.ensures

pub returns-in-Some-Opened-clause-moves : goal.returns-in-Some-Opened-clause-moves
returns-in-Some-Opened-clause-moves c =
    let m = c.in-Some-Opened in
    expansion_moves c.args.script.now c.args.self.now c.pop.new.self m.holder m.depth m.start m.opening c.args.expr c.args.token
    c.close_arithmetic.new.self c.close_arithmetic.result c.requires.token c.close_arithmetic.ensures
