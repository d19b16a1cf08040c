use Rattle.std.proofs.Common.{sym, ◌∙◌, subst}
use Rattle.sh_words.specs.declared.frames.Focus.TheVariants as focus
use Rattle.sh_words.specs.declared.frames.Frame.TheVariants as frame
use Rattle.sh_words.specs.declared.frames.Operation.{Operation}
use Rattle.sh_words.specs.Clauses.{Steps}
use Rattle.sh_words.specs.Rest.{Left}
use Rattle.sh_words.specs.States.{framed}
use Rattle.std.proofs.lemmas.Result.{err_from_is_err_and}
use Rattle.sh_words.proofs.OperationLemmas.{OperandRead, misplaced_close, misplaced_colon, operand_keeps, operand_goes, Goes}
use Rattle.sh_words.proofs.builder.WordBuilder.operand_read.Goals as goal
use Rattle.sh_words.proofs.builder.WordBuilder.operand_read.Goals.{Joined-operation, in-Parenthesis+in_ok-parenthesis_read-in-Parenthesis}
use Rattle.sh_words.proofs.builder.WordBuilder.operand_read.Goals.{in-Unary+in_ok-unary_read-in-Unary, in-First+in_ok-first_read-in-First}
use Rattle.sh_words.proofs.builder.WordBuilder.operand_read.Goals.{in-More+in_ok-more_read-in-More, in-Yes+in_ok-yes_read-in-Yes}
use Rattle.sh_words.proofs.builder.WordBuilder.operand_read.Goals.{in-No+in_ok-choice_read-in-No, in-Assign+in_ok-value_read-in-Assign}

pub returns-in_err-parenthesis_read-in-Parenthesis-clause-keeps : goal.returns-in_err-parenthesis_read-in-Parenthesis-clause-keeps
returns-in_err-parenthesis_read-in-Parenthesis-clause-keeps c =
    let p = err_from_is_err_and c.from_residual.result c.from_residual.ensures.1 in
    rw (p.1, p.2) (misplaced_close c.args.script.now c.args.self.now c.args.expr c.args.operation c.in-Parenthesis.depth c.args.token
    c.in_err-parenthesis_read-in-Parenthesis.field-0.0 c.in-Parenthesis.is c.requires.token c.requires.sound.3 c.in_err-parenthesis_read-in-Parenthesis.ensures)

pub returns-in_err-yes_read-in-Yes-clause-keeps : goal.returns-in_err-yes_read-in-Yes-clause-keeps
returns-in_err-yes_read-in-Yes-clause-keeps c =
    let step = c.from_residual-in_err-yes_read-in-Yes in
    let p = err_from_is_err_and step.result step.ensures.1 in
    rw (p.1, p.2) (misplaced_colon c.args.script.now c.args.self.now c.args.expr c.args.operation c.in-Yes.depth c.in-Yes.condition c.args.token
    c.in_err-yes_read-in-Yes.field-0.0 c.in-Yes.is c.requires.token c.requires.sound.3 c.in_err-yes_read-in-Yes.ensures)

pub returns-in-Condition-clause-keeps : goal.returns-in-Condition-clause-keeps
returns-in-Condition-clause-keeps c =
    let b = c.args.script.now in
    let w = c.args.self.now in
    let to = λ (f : Operation). Steps b (Left b (framed w (frame.Operation f) (focus.Have c.args.expr))) c.condition_read.new.self c.condition_read.result in
    subst to (sym c.in-Condition.is) c.condition_read.ensures.keeps

-- each arm reads the operand of its operation
read : (c : Joined-operation) → OperandRead c.args.self.now c.args.operation c.args.expr c.args.token c.match-operation.self
read c =
    let to = λ (f : Operation). OperandRead c.args.self.now f c.args.expr c.args.token c.match-operation.self in
    elim c.match-operation.branch [
      | in-Parenthesis+in_ok-parenthesis_read-in-Parenthesis w ↦
          let q = w.in_ok-parenthesis_read-in-Parenthesis.ensures in subst to (sym w.in-Parenthesis.is) (q.0, w.self-is ∙ q.1)
      | in-Unary+in_ok-unary_read-in-Unary w ↦ subst to (sym w.in-Unary.is) (w.self-is ∙ w.in_ok-unary_read-in-Unary.ensures)
      | in-First+in_ok-first_read-in-First w ↦ subst to (sym w.in-First.is) (w.self-is ∙ w.in_ok-first_read-in-First.ensures)
      | in-More+in_ok-more_read-in-More w ↦ subst to (sym w.in-More.is) (w.self-is ∙ w.in_ok-more_read-in-More.ensures)
      | in-Yes+in_ok-yes_read-in-Yes w ↦ let q = w.in_ok-yes_read-in-Yes.ensures in subst to (sym w.in-Yes.is) (q.0, w.self-is ∙ q.1)
      | in-No+in_ok-choice_read-in-No w ↦ subst to (sym w.in-No.is) (w.self-is ∙ w.in_ok-choice_read-in-No.ensures)
      | in-Assign+in_ok-value_read-in-Assign w ↦ subst to (sym w.in-Assign.is) (w.self-is ∙ w.in_ok-value_read-in-Assign.ensures)
    ]

pub returns-clause-keeps : goal.returns-clause-keeps
returns-clause-keeps c =
    operand_keeps c.args.script.now c.args.self.now c.args.expr c.args.operation c.args.token c.match-operation.self c.requires.token (read c)

goes : (c : Joined-operation) → Goes c.args.script.now c.args.self.now c.args.expr c.args.operation c.match-operation.self
goes c = operand_goes c.args.script.now c.args.self.now c.args.expr c.args.operation c.args.token c.match-operation.self c.requires.token c.requires.sound (read c)

pub returns-clause-moves : goal.returns-clause-moves
returns-clause-moves c = (goes c).0

pub returns-clause-sound : goal.returns-clause-sound
returns-clause-sound c = (goes c).1

pub returns-clause-works : goal.returns-clause-works
returns-clause-works c = (goes c).2
