use Rattle.std.proofs.Common.{◌≡◌, ◌++◌, ◌∷◌, [], ◌≤◌, Err, length, ap, sym, subst, ◌∙◌, le_trans}
use Rattle.std.proofs.lemmas.Result.{err_from_is_err_and}
use Rattle.sh_tree.specs.standard.language.HereDocuments.{behind_line}
use Rattle.sh_tree.specs.standard.language.Trees.{word}
use Rattle.sh_grammar.specs.declared.state.State.{State}
use Rattle.sh_grammar.specs.Documents.{DocumentFrom, Passes}
use Rattle.sh_grammar.specs.Faults.{unended}
use Rattle.sh_grammar.specs.Readers.{Refused}
use Rattle.sh_grammar.specs.States.{Lies}
use Rattle.sh_grammar.proofs.DocumentLemmas.{document_refused, document_read, line_ends}
use Rattle.sh_grammar.proofs.grammar.Grammar.document.Goals as goal

pub returns-in_default-clause-open : goal.returns-in_default-clause-open
returns-in_default-clause-open g c = λ none. ap Err (c.unended.ensures.which ∙ ap (unended c.args.script.now c.args.mark.now) c.get-here.ensures)

pub returns-in_err-check_lines-clause-open : goal.returns-in_err-check_lines-clause-open
returns-in_err-check_lines-clause-open g c = λ none. absurd (line_ends c.args.script.now c.args.mark.now c.args.from c.get-here.result.now c.in-Some.line c.get-here.ensures c.in-Some.ensures.value none)

pub returns-in_err-parts-clause-open : goal.returns-in_err-parts-clause-open
returns-in_err-parts-clause-open g c = λ none. absurd (line_ends c.args.script.now c.args.mark.now c.args.from c.get-here.result.now c.in-Some.line c.get-here.ensures c.in-Some.ensures.value none)

pub returns-in_err-with_document-clause-open : goal.returns-in_err-with_document-clause-open
returns-in_err-with_document-clause-open g c = λ none. absurd (line_ends c.args.script.now c.args.mark.now c.args.from c.get-here.result.now c.in-Some.line c.get-here.ensures c.in-Some.ensures.value none)

pub returns-in_err-parts-clause-reads : goal.returns-in_err-parts-clause-reads
returns-in_err-parts-clause-reads g c =
    let b = c.args.script.now in
    let m = c.args.mark.now in
    let e = c.in_err-parts.field-0.0 in
    let p = err_from_is_err_and c.from_residual-in_err-parts.result c.from_residual-in_err-parts.ensures.1 in
    rw (p.1, p.2) (subst (λ (s : State). Refused b (DocumentFrom b m s) e) c.get-here.ensures
    (document_refused b m c.get-here.result.now c.in-Some.line c.in-Some.ensures.value e c.in_err-parts.ensures))

pub returns-clause-reads : goal.returns-clause-reads
returns-clause-reads g c =
    let b = c.args.script.now in
    let m = c.args.mark.now in
    let s = c.get-here.result.now in
    let line = c.in-Some.line in
    let found = c.in_ok-parts in
    let v = c.in_ok-with_document.field-0 in
    let end = c.behind_line.ensures in
    let ordered = c.in-Some.ensures.ordered in
    let lies = subst (Lies b) (sym c.get-here.ensures) c.requires.lies in
    let after = subst (λ i. s.at ≤ i) end.value (le_trans ordered.0 (le_trans ordered.1 end.after)) in
    let within = subst (λ i. i ≤ length b) end.value end.within in
    let to : v ≡ record s { at = behind_line b line.end; count = found.count; bodies = s.bodies ++ record { text = word s.at line.start found.parts; end = line } ∷ [] } =
    c.in_ok-with_document.ensures ∙ ap (λ i. record c.args.from { at = i; count = found.count; bodies = c.args.from.bodies ++ record { text = word s.at line.start found.parts; end = line } ∷ [] }) end.value
    ∙ ap (λ (t : State). record t { at = behind_line b line.end; count = found.count; bodies = t.bodies ++ record { text = word s.at line.start found.parts; end = line } ∷ [] }) (sym c.get-here.ensures) in
    subst (λ (t : State). Passes b (DocumentFrom b m t) t.at v) c.get-here.ensures
    (document_read b m s line c.in-Some.ensures.value found.parts found.count v c.in_ok-check_lines.ensures found.ensures lies after within to)

pub returns-clause-open : goal.returns-clause-open
returns-clause-open g c = λ none. absurd (line_ends c.args.script.now c.args.mark.now c.args.from c.get-here.result.now c.in-Some.line c.get-here.ensures c.in-Some.ensures.value none)
