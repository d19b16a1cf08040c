use Rattle.std.proofs.Common.{◌∙◌, sym, subst, arith, ◌≡◌}
use Rattle.sh_grammar.specs.Fors.{ForWordsFrom, ListedFrom}
use Rattle.sh_grammar.proofs.ForLemmas.{for_words_none, arguments_stopped, for_words_refused, for_words_read, arguments_ended, arguments_read, for_words_stopped}
use Rattle.sh_grammar.proofs.ReaderLemmas.{refused_none}
use Rattle.std.proofs.lemmas.Result.{err_from_is_err_and}
use Rattle.sh_grammar.specs.Breaks.{BreaksFrom, BreaksTo}
use Rattle.sh_grammar.specs.Readers.{One, Refused}
use Rattle.sh_grammar.specs.States.{here}
use Rattle.sh_tree.specs.declared.token.command.Lead.TheVariants as lead
use Rattle.sh_tree.specs.declared.token.command.Operator.TheVariants as op
use Rattle.sh_tree.specs.declared.token.command.Stage.TheVariants.{First}
use Rattle.sh_tree.specs.standard.language.Commands.{lead_at}
use Rattle.sh_grammar.proofs.grammar.Grammar.for_words.Goals as goal

pub returns-then-not-is_same : goal.returns-then-not-is_same
returns-then-not-is_same g c =
    let b = c.args.script.now in
    let at = c.lead-lead.ensures.value in
    refused_none b (ForWordsFrom b c.args.from) c.unexpected_at.result c.unexpected_at.ensures.fault (for_words_none b c.args.from
    (λ ended. c.is_same.ensures.no c.if-is_same.false (c.lead-first.ensures.value ∙ ended)) c.in_ok-next.next c.in_ok-next.ensures
    (λ bare. c.is_same-2.ensures.no c.if-is_same-2.false (at ∙ bare)) (λ listed. c.is_same-3.ensures.no c.if-not-is_same.true (at ∙ listed)))

pub returns-in_err-end : goal.returns-in_err-end
returns-in_err-end g c =
    let b = c.args.script.now in
    let residual = c.from_residual in
    let p = err_from_is_err_and residual.result residual.ensures.1 in
    let is = sym c.lead-first.ensures.value ∙ c.is_same.ensures.yes c.if-is_same.true in
    let none = subst (λ v. Refused b (BreaksFrom b v) c.in_err-end.field-0.0) c.next.ensures.value c.in_err-end.ensures in
    rw (p.1, p.2) (arguments_stopped b c.args.from is _ none)

pub returns-in_err-words : goal.returns-in_err-words
returns-in_err-words g c =
    let b = c.args.script.now in
    let residual = c.from_residual-in_err-words in
    let p = err_from_is_err_and residual.result residual.ensures.1 in
    let other : lead_at b First c.args.from.at ≡ lead.Operator op.Semicolon → ⊥ = λ ended. c.is_same.ensures.no c.if-is_same.false (c.lead-first.ensures.value ∙ ended) in
    let next = c.in_ok-next in
    let is = sym c.lead-lead.ensures.value ∙ c.is_same-3.ensures.yes c.if-not-is_same.false in
    let none = subst (λ v. Refused b (ListedFrom b v) c.in_err-words.field-0.0) c.skip.ensures.value c.in_err-words.ensures in
    rw (p.1, p.2) (for_words_refused b c.args.from other next.next next.ensures is _ none)

pub returns : goal.returns
returns g c =
    let b = c.args.script.now in
    let other : lead_at b First c.args.from.at ≡ lead.Operator op.Semicolon → ⊥ = λ ended. c.is_same.ensures.no c.if-is_same.false (c.lead-first.ensures.value ∙ ended) in
    let next = c.in_ok-next in
    let is = sym c.lead-lead.ensures.value ∙ c.is_same-3.ensures.yes c.if-not-is_same.false in
    let found = c.in_ok-words in
    let one = subst (λ v. One (ListedFrom b v) (here found.behind) found.words) c.skip.ensures.value found.ensures.one in
    let before = next.ensures.from in
    let further = c.skip.ensures.further in
    let after = found.ensures.from in
    record {
      one = for_words_read b c.args.from other next.next next.ensures is found.words found.behind one;
      from = omega arith;
      stands = found.ensures.stands;
    }

pub returns-then-is_same : goal.returns-then-is_same
returns-then-is_same g c =
    let b = c.args.script.now in
    let is = sym c.lead-first.ensures.value ∙ c.is_same.ensures.yes c.if-is_same.true in
    let end = c.in_ok-end in
    let breaks = subst (λ v. BreaksTo b v end.end) c.next.ensures.value end.ensures in
    let after = c.next.ensures.after in
    let from = end.ensures.from in
    record { one = arguments_ended b c.args.from is end.end breaks; from = omega arith; stands = end.ensures.stands }

pub returns-in_err-next : goal.returns-in_err-next
returns-in_err-next g c =
    let b = c.args.script.now in
    let residual = c.from_residual-in_err-next in
    let p = err_from_is_err_and residual.result residual.ensures.1 in
    let other : lead_at b First c.args.from.at ≡ lead.Operator op.Semicolon → ⊥ = λ ended. c.is_same.ensures.no c.if-is_same.false (c.lead-first.ensures.value ∙ ended) in
    rw (p.1, p.2) (for_words_stopped b c.args.from other _ c.in_err-next.ensures)

pub returns-then-is_same-2 : goal.returns-then-is_same-2
returns-then-is_same-2 g c =
    let b = c.args.script.now in
    let next = c.in_ok-next in
    let other : lead_at b First c.args.from.at ≡ lead.Operator op.Semicolon → ⊥ = λ ended. c.is_same.ensures.no c.if-is_same.false (c.lead-first.ensures.value ∙ ended) in
    let is = sym c.lead-lead.ensures.value ∙ c.is_same-2.ensures.yes c.if-is_same-2.true in
    record { one = arguments_read b c.args.from other next.next next.ensures is; from = next.ensures.from; stands = next.ensures.stands }
