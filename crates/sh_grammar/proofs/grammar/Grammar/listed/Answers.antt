use Rattle.std.proofs.Common.{sym, ap, ◌∙◌, false, arith}
use Rattle.sh_tree.specs.standard.language.Commands.{separator}
use Rattle.sh_grammar.specs.Fors.{ListedFrom}
use Rattle.sh_grammar.proofs.ForLemmas.{listed_unended, listed_read, listed_stopped}
use Rattle.sh_grammar.proofs.ListLemmas.{separates}
use Rattle.sh_grammar.proofs.ReaderLemmas.{refused_none}
use Rattle.std.proofs.lemmas.Result.{err_from_is_err_and}
use Rattle.sh_grammar.proofs.grammar.Grammar.listed.Goals as goal

pub returns-then-not-ends_words : goal.returns-then-not-ends_words
returns-then-not-ends_words g c =
    let b = c.args.script.now in
    let words = c.in_ok-words in
    refused_none b (ListedFrom b c.args.from) c.unexpected_at.result c.unexpected_at.ensures.fault (listed_unended b c.args.from words.words words.behind words.ensures.one
    (λ ends. c.ends_words.ensures.no c.if-not-ends_words.true (ap separator c.lead-lead.ensures.value ∙ ends)))

pub parted-requires-clause-inside : goal.parted-requires-clause-inside
parted-requires-clause-inside g c = c.lead-lead.ensures.within (separates c.lead-lead.result false (sym (c.ends_words.ensures.yes c.if-not-ends_words.false)))

pub returns-in_err-end : goal.returns-in_err-end
returns-in_err-end g c =
    let b = c.args.script.now in
    let words = c.in_ok-words in
    let ends = sym (ap separator c.lead-lead.ensures.value) ∙ c.ends_words.ensures.yes c.if-not-ends_words.false in
    let residual = c.from_residual-in_err-end in
    let p = err_from_is_err_and residual.result residual.ensures.1 in
    rw (p.1, p.2) (listed_stopped b c.args.from words.words words.behind words.ensures.one ends c.parted.result c.parted.ensures.value _ c.in_err-end.ensures)

pub returns : goal.returns
returns g c =
    let b = c.args.script.now in
    let words = c.in_ok-words in
    let ends = sym (ap separator c.lead-lead.ensures.value) ∙ c.ends_words.ensures.yes c.if-not-ends_words.false in
    let end = c.in_ok-end in
    let from = words.ensures.from in
    let after = c.parted.ensures.after in
    let behind = end.ensures.from in
    record {
      one = listed_read b c.args.from words.words words.behind words.ensures.one ends c.parted.result end.end c.parted.ensures.value end.ensures;
      from = omega arith;
      stands = end.ensures.stands;
    }
