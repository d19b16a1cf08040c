use Rattle.std.proofs.Common.{◌∙◌, sym, subst, arith}
use Rattle.std.proofs.lemmas.Result.{err_from_is_err_and}
use Rattle.sh_grammar.proofs.ListLemmas.{straight_refused, negated_read, straight_read}
use Rattle.sh_grammar.specs.Readers.{One, CommandsFrom}
use Rattle.sh_grammar.specs.States.{here}
use Rattle.sh_grammar.proofs.grammar.Grammar.pipeline.Goals as goal

pub returns-in_err-parts-2 : goal.returns-in_err-parts-2
returns-in_err-parts-2 g c =
    let residual = c.from_residual-in_err-parts-2 in
    let p = err_from_is_err_and residual.result residual.ensures.1 in
    rw (p.1, p.2) (straight_refused c.args.script.now c.args.from (λ bang. c.is_bang.ensures.no c.if-is_bang.false (c.lead.ensures.value ∙ bang)) _ c.in_err-parts-2.ensures)

pub returns-then-is_bang : goal.returns-then-is_bang
returns-then-is_bang g c =
    let b = c.args.script.now in
    let found = c.in_ok-parts in
    let bang = sym c.lead.ensures.value ∙ c.is_bang.ensures.yes c.if-is_bang.true in
    let one = subst (λ v. One (CommandsFrom b v) (here found.behind) found.parts) c.next.ensures.value found.ensures.one in
    let after = c.next.ensures.after in
    let further = found.ensures.from in
    record {
      one = negated_read b c.args.from bang found.parts found.behind one;
      from = omega arith;
      stands = found.ensures.stands;
    }

pub returns : goal.returns
returns g c =
    let found = c.in_ok-parts-2 in
    record {
      one = straight_read c.args.script.now c.args.from (λ bang. c.is_bang.ensures.no c.if-is_bang.false (c.lead.ensures.value ∙ bang)) found.parts found.behind found.ensures.one;
      from = found.ensures.from;
      stands = found.ensures.stands;
    }
