use Rattle.std.proofs.Common.{not, ◌||◌, sym, ap, ◌∙◌, arith}
use Rattle.sh_tree.specs.standard.language.Commands.{begins_pipeline, separator, is_reserved}
use Rattle.sh_grammar.specs.declared.state.State.{State}
use Rattle.sh_grammar.specs.Items.{RestFrom}
use Rattle.sh_grammar.proofs.ListLemmas.{items_wrong, items_more, separates, items_stopped, items_all}
use Rattle.sh_grammar.proofs.ReaderLemmas.{refused_none}
use Rattle.std.proofs.lemmas.Result.{err_from_is_err_and}
use Rattle.sh_grammar.proofs.grammar.Grammar.items.Goals as goal

pub returns-then-not-closes : goal.returns-then-not-closes
returns-then-not-closes g c =
    let at = c.loop-next in
    let b = c.args.script.now in
    let list = c.in_ok-list in
    let some = sym (c.begins_pipeline.ensures ∙ ap begins_pipeline c.lead.ensures.value) ∙ c.loop-next-test.true in
    let none = sym (c.in_default.ensures ∙ ap separator c.lead-lead.ensures.value) in
    let wrong = ap (λ l. not (is_reserved l) || list.behind.closed) (sym c.lead-lead.ensures.value) ∙ ap (λ (v : State). not (is_reserved c.lead-lead.result) || v.closed) (sym c.get.ensures) ∙ sym c.closes.ensures ∙ c.if-not-closes.true in
    refused_none b (RestFrom b c.args.from) c.unexpected.result c.unexpected.ensures.fault
    (items_wrong b c.args.from at.next at.items at.invariant.found some list.list list.behind list.ensures.one none wrong)

pub parted-requires-clause-inside : goal.parted-requires-clause-inside
parted-requires-clause-inside g c = c.lead-lead.ensures.within (separates c.lead-lead.result c.in-Some.background c.in-Some.ensures)

pub loop-next-preserved : goal.loop-next-preserved
loop-next-preserved g c =
    let at = c.loop-next in
    let b = c.args.script.now in
    let list = c.in_ok-list in
    let some = sym (c.begins_pipeline.ensures ∙ ap begins_pipeline c.lead.ensures.value) ∙ c.loop-next-test.true in
    let ends = sym (c.in-Some.ensures ∙ ap separator c.lead-lead.ensures.value) in
    let from = at.invariant.from in
    let further = list.ensures.from in
    let after = c.parted.ensures.after in
    let behind = c.in_ok-next.ensures.from in
    record {
      found = rw c.in_ok-push-2.ensures.ok (items_more b c.args.from at.next at.items at.invariant.found some list.list list.behind list.ensures.one c.in-Some.background ends
          c.parted.result c.in_ok-next.next c.parted.ensures.value c.in_ok-next.ensures);
      from = omega arith;
      stands = c.in_ok-next.ensures.stands;
    }

pub returns-in_err-next : goal.returns-in_err-next
returns-in_err-next g c =
    let at = c.loop-next in
    let b = c.args.script.now in
    let residual = c.from_residual-in_err-next in
    let p = err_from_is_err_and residual.result residual.ensures.1 in
    let list = c.in_ok-list in
    let some = sym (c.begins_pipeline.ensures ∙ ap begins_pipeline c.lead.ensures.value) ∙ c.loop-next-test.true in
    let ends = sym (c.in-Some.ensures ∙ ap separator c.lead-lead.ensures.value) in
    rw (p.1, p.2) (items_stopped b c.args.from at.next at.items at.invariant.found some list.list list.behind list.ensures.one c.in-Some.background ends c.parted.result
    c.parted.ensures.value _ c.in_err-next.ensures)

pub returns : goal.returns
returns g c =
    let at = c.loop-next in
    let b = c.args.script.now in
    let none = sym (c.begins_pipeline.ensures ∙ ap begins_pipeline c.lead.ensures.value) ∙ c.loop-next-test.false in
    record {
      one = items_all b c.args.from at.next at.items at.invariant.found none;
      from = at.invariant.from;
      stands = at.invariant.stands;
    }
