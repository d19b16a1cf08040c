use Rattle.std.proofs.Common.{◌-◌, length, take, drop, subst}
use Rattle.std.proofs.lemmas.Result.{err_from_is_err_and}
use Rattle.sh_grammar.proofs.DocumentLemmas.{DocumentsLeft, documents_all, documents_more, documents_refused, mark_first, no_marks}
use Rattle.sh_grammar.proofs.grammar.Grammar.documents.Goals as goal

pub loop-left-preserved : goal.loop-left-preserved
loop-left-preserved g c =
    let b = c.args.script.now in
    let at = c.loop-left in
    let left = at.left.now in
    let m = c.mark-item.result in
    let more = subst (λ ms. DocumentsLeft b c.args.marks.now c.args.from ms at.next) (mark_first left m c.in-len1-up.len_at_least c.mark-item.is) at.invariant in
    documents_more b c.args.marks.now c.args.from m (take (length left - 1) (drop 1 left)) at.next more c.in_ok-next.next c.in_ok-next.ensures.reads

pub returns-in_err-next : goal.returns-in_err-next
returns-in_err-next g c =
    let b = c.args.script.now in
    let at = c.loop-left in
    let left = at.left.now in
    let m = c.mark-item.result in
    let more = subst (λ ms. DocumentsLeft b c.args.marks.now c.args.from ms at.next) (mark_first left m c.in-len1-up.len_at_least c.mark-item.is) at.invariant in
    let p = err_from_is_err_and c.from_residual.result c.from_residual.ensures.1 in
    rw (p.1, p.2) (documents_refused b c.args.marks.now c.args.from m (take (length left - 1) (drop 1 left)) at.next more c.in_err-next.field-0.0 c.in_err-next.ensures.reads)

pub returns : goal.returns
returns g c =
    let b = c.args.script.now in
    let at = c.loop-left in
    documents_all b c.args.marks.now c.args.from at.next (subst (λ ms. DocumentsLeft b c.args.marks.now c.args.from ms at.next) (no_marks at.left.now c.in_default.len_below) at.invariant)
