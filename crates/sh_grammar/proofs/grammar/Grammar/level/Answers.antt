use Rattle.std.proofs.Common.{IfErr, inl, subst, ◌∙◌}
use Rattle.std.proofs.lemmas.Result.{err_from_is_err_and}
use Rattle.sh_grammar.specs.declared.state.State.{State}
use Rattle.sh_grammar.specs.States.{substituted}
use Rattle.sh_grammar.specs.Substitutions.{TellsClosed}
use Rattle.sh_grammar.proofs.grammar.Grammar.level.Goals as goal

pub returns-in_err-from-clause-told : goal.returns-in_err-from-clause-told
returns-in_err-from-clause-told g c =
    let p = err_from_is_err_and c.from_residual.result c.from_residual.ensures.1 in
    rw (p.1, p.2) (inl tt)

pub returns-clause-told : goal.returns-clause-told
returns-clause-told g c =
    let b = c.args.text.now in
    let style = c.args.style in
    let r = c.substitution.result in
    let from = c.in_ok-from.ensures ∙ c.within-first.ensures.value in
    subst (λ i. IfErr r (TellsClosed b style i (substituted b c.args.at c.args.depth c.args.ticks c.args.around.now))) c.opened_at.ensures.value
    (subst (λ (s : State). IfErr r (TellsClosed b style c.opened_at.result s)) from c.substitution.ensures.told)
