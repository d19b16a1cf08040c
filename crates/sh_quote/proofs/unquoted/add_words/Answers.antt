use Rattle.std.proofs.Common.{rules, ◌≡◌, ◌<◌, length, get_or}
use Rattle.sh_quote.specs.Unquoted.{word_told}
use Rattle.sh_quote.proofs.UnquotedLemmas.{on_err, some_in}
use Rattle.sh_quote.proofs.unquoted.add_words.Goals as goal

pub returns-in_err-add_word-clause-some : goal.returns-in_err-add_word-clause-some
returns-in_err-add_word-clause-some c =
    let there : c.loop-word.word-index < length c.args.words.now = search rules in
    let same : c.word-item.result ≡ get_or c.args.words.now c.loop-word.word-index c.word-item.result = search rules in
    on_err c.from_residual.result
    (some_in (word_told c.args.script.now c.args.steady) c.args.words.now c.loop-word.word-index c.word-item.result there same c.in_err-add_word.ensures.some)
