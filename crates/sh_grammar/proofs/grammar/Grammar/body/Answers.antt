use Rattle.std.proofs.Common.{◌≤◌, not, length, take, subst, ◌∙◌, arith, length-take}
use Rattle.std.proofs.lemmas.Result.{err_from_is_err_and}
use Rattle.sh_tree.specs.standard.language.Contexts.{in_document_of}
use Rattle.sh_grammar.specs.Marks.{mark_of}
use Rattle.sh_grammar.specs.Modes.{PartsAt, Whole}
use Rattle.sh_grammar.specs.Quotes.{Splits}
use Rattle.sh_grammar.specs.Readers.{Refused}
use Rattle.sh_grammar.proofs.DocumentLemmas.{body_read, body_refused, body_split}
use Rattle.sh_grammar.proofs.grammar.Grammar.body.Goals as goal

pub returns-in_err-word : goal.returns-in_err-word
unfolding in_document_of
returns-in_err-word g c =
    let b = c.args.script.now in
    let m = c.args.mark.now in
    let text = take c.args.end b in
    let s = c.args.from.now in
    let e = c.in_err-word.field-0.0 in
    let p = err_from_is_err_and c.from_residual-in_err-word.result c.from_residual-in_err-word.ensures.1 in
    let within : length text ≤ length b = omega (arith, length-take c.args.end b) in
    let none = subst (λ x. Refused text (PartsAt text (in_document_of (mark_of m)) 10 s.at x) e) (c.in_ok-inside.ensures ∙ c.in_document.ensures) c.in_err-word.ensures in
    rw (p.1, p.2) (body_refused b m c.args.end s e within none)

pub returns-in-Some : goal.returns-in-Some
unfolding in_document_of
returns-in-Some g c =
    let b = c.args.script.now in
    let m = c.args.mark.now in
    let text = take c.args.end b in
    let s = c.args.from.now in
    let found = c.in_ok-word in
    let whole = subst (λ x. Whole text (in_document_of (mark_of m)) 10 s.at x found.word found.last) (c.in_ok-inside.ensures ∙ c.in_document.ensures) found.ensures in
    let splits = subst (λ ps. Splits b (not m.quoted) ps c.split_at.result) c.as_slice.ensures c.split_at.ensures in
    let split = subst (λ o. Splits b (not m.quoted) found.word.parts o) c.in-Some.is splits in
    (split.1, body_split b m c.args.end s found.word found.last whole split.0)

pub returns : goal.returns
unfolding in_document_of
returns g c =
    let b = c.args.script.now in
    let m = c.args.mark.now in
    let text = take c.args.end b in
    let s = c.args.from.now in
    let found = c.in_ok-word in
    let whole = subst (λ x. Whole text (in_document_of (mark_of m)) 10 s.at x found.word found.last) (c.in_ok-inside.ensures ∙ c.in_document.ensures) found.ensures in
    let splits = subst (λ ps. Splits b (not m.quoted) ps c.split_at.result) c.as_slice.ensures c.split_at.ensures in
    let kept = subst (λ o. Splits b (not m.quoted) found.word.parts o) c.in_default.is splits in
    rw c.count.ensures (body_read b m c.args.end s found.word found.last whole kept)
