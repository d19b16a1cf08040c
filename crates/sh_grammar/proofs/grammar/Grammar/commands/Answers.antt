use Rattle.std.proofs.Common.{sym, ap, subst, ◌∙◌, arith}
use Rattle.std.proofs.lemmas.Result.{err_from_is_err_and}
use Rattle.sh_tree.specs.standard.language.Commands.{is_bar}
use Rattle.sh_grammar.specs.Breaks.{BreaksFrom, BreaksTo}
use Rattle.sh_grammar.specs.Readers.{Refused}
use Rattle.sh_grammar.proofs.ListLemmas.{commands_last, commands_stopped, commands_more}
use Rattle.sh_grammar.proofs.grammar.Grammar.commands.Goals as goal

pub returns-then-not-is_bar : goal.returns-then-not-is_bar
returns-then-not-is_bar g c =
    let at = c.loop-parts in
    let b = c.args.script.now in
    let found = c.in_ok-command in
    let bar = sym (c.is_bar.ensures ∙ ap is_bar c.lead.ensures.value) ∙ c.if-not-is_bar.true in
    let from = at.invariant.from in
    let further = found.ensures.from in
    record {
      one = rw c.in_ok-push.ensures.ok (commands_last b c.args.from at.next at.parts at.invariant.found found.command found.behind found.ensures.one bar);
      from = omega arith;
      stands = found.ensures.stands;
    }

pub returns-in_err-next : goal.returns-in_err-next
returns-in_err-next g c =
    let at = c.loop-parts in
    let b = c.args.script.now in
    let found = c.in_ok-command in
    let residual = c.from_residual-in_err-next in
    let p = err_from_is_err_and residual.result residual.ensures.1 in
    let bar = sym (c.is_bar.ensures ∙ ap is_bar c.lead.ensures.value) ∙ c.if-not-is_bar.false in
    let none = subst (λ v. Refused b (BreaksFrom b v) c.in_err-next.field-0.0) c.next.ensures.value c.in_err-next.ensures in
    rw (p.1, p.2) (commands_stopped b c.args.from at.next at.parts at.invariant.found found.command found.behind found.ensures.one _ bar none)

pub loop-parts-preserved : goal.loop-parts-preserved
loop-parts-preserved g c =
    let at = c.loop-parts in
    let b = c.args.script.now in
    let found = c.in_ok-command in
    let to = c.in_ok-next in
    let bar = sym (c.is_bar.ensures ∙ ap is_bar c.lead.ensures.value) ∙ c.if-not-is_bar.false in
    let breaks = subst (λ v. BreaksTo b v to.next) c.next.ensures.value to.ensures in
    let from = at.invariant.from in
    let further = found.ensures.from in
    let after = c.next.ensures.after in
    let behind = to.ensures.from in
    record {
      found = rw c.in_ok-push.ensures.ok (commands_more b c.args.from at.next at.parts at.invariant.found found.command found.behind found.ensures.one bar to.next breaks);
      from = omega arith;
      stands = to.ensures.stands;
    }
