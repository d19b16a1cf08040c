use Rattle.std.proofs.Common.{option_map}
use Rattle.sh_tree.specs.standard.Words.{words_of}
use Rattle.sh_quote.proofs.UnquotedLemmas.{none_told, on_err, simple_told, simple_some, simple_behind}
use Rattle.sh_quote.proofs.unquoted.add_simple.Goals as goal

pub returns-in-None-clause-kept : goal.returns-in-None-clause-kept
returns-in-None-clause-kept c = none_told c.args.script.now (option_map (λ t. t.now) c.args.name) c.args.steady (words_of c.args.elements.now) _ c.in-None.ensures

pub returns-in_ok-add_word-in-Some-clause-kept : goal.returns-in_ok-add_word-in-Some-clause-kept
returns-in_ok-add_word-in-Some-clause-kept c =
    simple_told c.add_operands.result c.args.script.now (option_map (λ t. t.now) c.args.name) c.args.steady c.declares.result (words_of c.args.elements.now)
    (words_of c.in-Some.rest.now) c.in-Some.word.now _ _ _ c.in-Some.ensures c.declares.ensures c.in_ok-add_word-in-Some.ensures.kept c.add_operands.ensures.kept

pub returns-in_err-add_word-in-Some-clause-some : goal.returns-in_err-add_word-in-Some-clause-some
returns-in_err-add_word-in-Some-clause-some c =
    on_err c.from_residual.result
    (simple_some c.args.script.now (option_map (λ t. t.now) c.args.name) c.args.steady (words_of c.args.elements.now) (words_of c.in-Some.rest.now) c.in-Some.word.now c.in-Some.ensures
    c.in_err-add_word-in-Some.ensures.some)

pub returns-in_ok-add_word-in-Some-clause-some : goal.returns-in_ok-add_word-in-Some-clause-some
returns-in_ok-add_word-in-Some-clause-some c =
    simple_behind c.add_operands.result c.args.script.now (option_map (λ t. t.now) c.args.name) c.args.steady c.declares.result (words_of c.args.elements.now)
    (words_of c.in-Some.rest.now) c.in-Some.word.now c.in-Some.ensures c.declares.ensures c.add_operands.ensures.some
