use Rattle.std.proofs.Common.{◌<◌, ◌+◌, IfSome, length, sym, ap, subst, ◌∙◌, arith}
use Rattle.sh_tree.specs.standard.Tree.{text_of}
use Rattle.sh_tree.specs.standard.language.HereDocuments.{is_split_text}
use Rattle.sh_tree.specs.standard.language.Reading.{is_some}
use Rattle.sh_grammar.proofs.QuoteLemmas.{span_kept, span_split, span_inside}
use Rattle.sh_grammar.proofs.kept.split_in_span.Goals as goal

pub returns-in-Some : goal.returns-in-Some
unfolding is_some
returns-in-Some c =
    let b = c.args.script.now in
    let s = c.args.span in
    let t = c.text.result.now in
    let so = sym (ap is_some c.in-Some.is) ∙ c.joined_in.ensures.value ∙ ap (λ cs. is_split_text cs) c.text.ensures in
    let room : c.in-Some.further + 1 < length t = subst (λ o. IfSome o (λ i. i + 1 < length t)) c.in-Some.is c.joined_in.ensures.within in
    let within : c.in-Some.further + 1 < length (text_of b s) = subst (λ cs. c.in-Some.further + 1 < length cs) c.text.ensures room in
    span_split b s _ so (span_inside b s c.in-Some.further (omega arith))

pub returns-in-None : goal.returns-in-None
unfolding is_some
returns-in-None c =
    let so = sym (ap is_some c.in-None.is) ∙ c.joined_in.ensures.value ∙ ap (λ cs. is_split_text cs) c.text.ensures in
    span_kept c.args.script.now c.args.span so
