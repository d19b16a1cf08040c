use Rattle.std.proofs.Common.{◌<◌, ◌≤◌, sym, subst, arith}
use Rattle.sh_tree.specs.standard.language.Arithmetic.{unary_level}
use Rattle.sh_words.specs.declared.frames.Focus.TheVariants as focus
use Rattle.sh_words.specs.Clauses.{Keeps}
use Rattle.sh_words.specs.Rest.{Left}
use Rattle.sh_words.specs.States.{focused}
use Rattle.sh_words.proofs.OperandLemmas.{level_keeps}
use Rattle.sh_words.proofs.builder.WordBuilder.level_step.Goals as goal

pub returns-clause-keeps : goal.returns-clause-keeps
returns-clause-keeps c =
    let b = c.args.script.now in
    let w = c.args.self.now in
    let fits : c.args.level ≤ unary_level = c.requires.sound.2 in
    let other = c.if-level-eq-UNARY_LEVEL.false in
    let lower : c.args.level < unary_level = omega arith in
    subst (λ v. Keeps b (Left b (focused w (focus.Level c.args.level))) v) (sym c.in_ok-operate.ensures) (level_keeps b w c.args.level lower)
