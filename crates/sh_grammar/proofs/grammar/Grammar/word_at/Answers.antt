use Rattle.std.proofs.Common.{sym, subst, ◌∙◌, le_trans}
use Rattle.std.proofs.lemmas.Result.{err_from_is_err_and}
use Rattle.sh_grammar.specs.Quotes.{Splits}
use Rattle.sh_grammar.specs.Readers.{One, WordAt}
use Rattle.sh_grammar.specs.declared.state.State.{State}
use Rattle.sh_grammar.specs.States.{here}
use Rattle.sh_words.specs.Modes.{context_of}
use Rattle.sh_grammar.proofs.WordLemmas.{word_located, word_read, word_split, word_unread}
use Rattle.sh_grammar.proofs.grammar.Grammar.word_at.Goals as goal

pub returns-in_err-word-clause-reads : goal.returns-in_err-word-clause-reads
returns-in_err-word-clause-reads g c =
    let p = err_from_is_err_and c.from_residual.result c.from_residual.ensures.1 in
    rw (p.1, p.2) (word_unread c.args.script.now c.args.mode c.args.at c.args.from c.in_err-word.field-0.0 c.requires.whole c.in_err-word.ensures)

pub returns-then-is_location-clause-reads : goal.returns-then-is_location-clause-reads
returns-then-is_location-clause-reads g c =
    let found = c.in_ok-word in
    let located = sym c.is_location.ensures.value ∙ c.if-is_location.true in (
      c.is_location.ensures.within c.if-is_location.true,
      word_located c.args.script.now c.args.mode c.requires.whole c.args.at c.args.from found.last found.word found.ensures located,
    )

pub returns-in-Some-clause-reads : goal.returns-in-Some-clause-reads
returns-in-Some-clause-reads g c =
    let b = c.args.script.now in
    let found = c.in_ok-word in
    let told = subst (λ (v : State). Splits b v.joins c.as_slice.result.now c.split_at.result) c.get.ensures c.split_at.ensures in
    let splits = subst (λ ps. Splits b found.last.joins ps c.split_at.result) c.as_slice.ensures told in
    let split = subst (λ o. Splits b found.last.joins found.word.parts o) c.in-Some.is splits in (
      split.1,
      word_split b c.args.mode c.requires.whole c.args.at c.args.from found.last found.word found.ensures split.0,
    )

pub returns-clause-reads : goal.returns-clause-reads
returns-clause-reads g c =
    let b = c.args.script.now in
    let found = c.in_ok-word in
    let m = c.args.mode in
    let i = c.args.at in
    let s = c.args.from in
    let free = sym c.is_location.ensures.value ∙ c.if-is_location.false in
    let told = subst (λ (v : State). Splits b v.joins c.as_slice.result.now c.split_at.result) c.get.ensures c.split_at.ensures in
    let splits = subst (λ ps. Splits b found.last.joins ps c.split_at.result) c.as_slice.ensures told in
    let kept = subst (λ o. Splits b found.last.joins found.word.parts o) c.in_default.is splits in
    let end = c.next_from-behind.ensures in
    record {
      one = subst (λ v. One (WordAt b (context_of b m i) i s) (here v) found.word) (sym end.value) (word_read b m c.requires.whole i s found.last found.word found.ensures free kept);
      from = le_trans found.ensures.from end.after;
      stands = end.stands;
    }
