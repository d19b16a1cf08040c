use Rattle.std.proofs.Common.{sym, ap, subst}
use Rattle.sh_tree.specs.declared.token.arithmetic.Lexeme.{Lexeme}
use Rattle.sh_words.specs.declared.builder.WordBuilder.{WordBuilder}
use Rattle.sh_words.specs.declared.frames.Focus.TheVariants as focus
use Rattle.sh_words.specs.Clauses.{Steps}
use Rattle.sh_words.specs.Rest.{Left}
use Rattle.sh_words.specs.Sound.{StepMoves, StepWorks, IsSound}
use Rattle.sh_words.specs.States.{focused}
use Rattle.sh_words.proofs.LevelLemmas.{left_steps, left_moves, left_works, left_sound}
use Rattle.sh_words.proofs.builder.WordBuilder.have_step.Goals as goal

pub expression_read-requires-clause-sound : goal.expression_read-requires-clause-sound
expression_read-requires-clause-sound c =
    let b = c.args.script.now in
    subst (λ (v : WordBuilder). IsSound b (focused v (focus.Have c.args.expr))) (sym c.leave_levels.ensures) (left_sound b c.args.self.now c.args.expr c.lexeme-token.result.figure c.requires.sound)

pub returns-clause-keeps : goal.returns-clause-keeps
returns-clause-keeps c =
    let b = c.args.script.now in
    left_steps b c.args.self.now c.args.expr c.lexeme-token.result.figure c.expression_read.new.self c.expression_read.result (ap (λ (t : Lexeme). t.figure) c.lexeme-token.ensures.0)
    (subst (λ (v : WordBuilder). Steps b (Left b (focused v (focus.Have c.args.expr))) c.expression_read.new.self c.expression_read.result) c.leave_levels.ensures c.expression_read.ensures.keeps)

pub returns-clause-moves : goal.returns-clause-moves
returns-clause-moves c =
    let b = c.args.script.now in
    left_moves b c.args.self.now c.lexeme-token.result.figure c.expression_read.new.self c.expression_read.result
    (subst (λ (v : WordBuilder). StepMoves b v c.expression_read.new.self c.expression_read.result) c.leave_levels.ensures c.expression_read.ensures.moves)

pub returns-clause-works : goal.returns-clause-works
returns-clause-works c =
    let b = c.args.script.now in
    left_works b c.args.self.now c.args.expr c.lexeme-token.result.figure c.expression_read.new.self c.expression_read.result
    (subst (λ (v : WordBuilder). StepWorks b (focused v (focus.Have c.args.expr)) c.expression_read.new.self c.expression_read.result) c.leave_levels.ensures c.expression_read.ensures.works)
