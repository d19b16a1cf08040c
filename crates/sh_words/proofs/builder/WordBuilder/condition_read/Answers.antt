use Rattle.std.proofs.Common.{◌≡◌, rules, true, false, refl}
use Rattle.sh_tree.specs.standard.language.Arithmetic.{lexeme}
use Rattle.sh_tree.specs.standard.language.Reading.{is_question}
use Rattle.sh_words.specs.declared.frames.Operation.TheVariants as operation
use Rattle.sh_words.proofs.OperationLemmas.{choice_read_on, operand_keeps, operand_goes}
use Rattle.sh_words.proofs.builder.WordBuilder.condition_read.Goals as goal

pub returns-then-eq-clause-keeps : goal.returns-then-eq-clause-keeps
returns-then-eq-clause-keeps c =
    let place = (lexeme c.args.script.now c.args.token.end).start in
    let is : is_question c.args.token.figure ≡ true = search rules in
    choice_read_on c.args.script.now c.args.self.now c.args.expr operation.Condition c.args.token place c.enter_choice.new.self c.enter_choice.result refl
    c.requires.token is c.enter_choice.ensures.inside c.enter_choice.ensures.enters

pub returns-clause-keeps : goal.returns-clause-keeps
returns-clause-keeps c =
    let other : is_question c.args.token.figure ≡ false = search rules in
    operand_keeps c.args.script.now c.args.self.now c.args.expr operation.Condition c.args.token c.have.new.self c.requires.token (other, c.have.ensures)

pub returns-clause-moves : goal.returns-clause-moves
returns-clause-moves c =
    let other : is_question c.args.token.figure ≡ false = search rules in
    (operand_goes c.args.script.now c.args.self.now c.args.expr operation.Condition c.args.token c.have.new.self c.requires.token c.requires.sound (other, c.have.ensures)).0

pub returns-clause-sound : goal.returns-clause-sound
returns-clause-sound c =
    let other : is_question c.args.token.figure ≡ false = search rules in
    (operand_goes c.args.script.now c.args.self.now c.args.expr operation.Condition c.args.token c.have.new.self c.requires.token c.requires.sound (other, c.have.ensures)).1

pub returns-clause-works : goal.returns-clause-works
returns-clause-works c =
    let other : is_question c.args.token.figure ≡ false = search rules in
    (operand_goes c.args.script.now c.args.self.now c.args.expr operation.Condition c.args.token c.have.new.self c.requires.token c.requires.sound (other, c.have.ensures)).2
