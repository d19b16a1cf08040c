use Rattle.std.proofs.Common.{◌≡◌, ◌≤◌, length, rules, sym, subst, arith}
use Rattle.sh_tree.specs.declared.token.word.Sign.TheVariants as sign
use Rattle.sh_tree.specs.declared.tree.CommandStyle.TheVariants.{Backquote}
use Rattle.sh_words.specs.Clauses.{Never}
use Rattle.sh_words.specs.Rest.{LeftPart}
use Rattle.sh_words.proofs.PartLemmas.{ask_steps, unclosed_left}
use Rattle.sh_words.proofs.builder.WordBuilder.substitution_step.Goals as goal

pub returns-then-end-script-clause-keeps : goal.returns-then-end-script-clause-keeps
returns-then-end-script-clause-keeps c =
    let b = c.args.script.now in
    let w = c.args.self.now in
    let is : c.args.style ≡ Backquote = search rules in (
      omega arith,
      subst (λ s. Never (LeftPart b w (sign.Substitution s) c.args.start c.args.end)) (sym is) (unclosed_left b w c.args.start c.args.end (omega arith)),
    )

pub returns-clause-keeps : goal.returns-clause-keeps
returns-clause-keeps c =
    let inside : c.args.start ≤ length c.args.script.now = omega arith in
    ask_steps c.args.script.now c.args.self.now c.ask.new.self c.args.style c.args.start c.args.end c.ask.result inside c.ask.ensures
