use Rattle.std.proofs.Common.{◌≡◌, ◌+◌, Some, None, [], refl, sym, ap, subst, ◌∙◌}
use Rattle.std.proofs.lemmas.Result.{err_from_is_err_and}
use Rattle.sh_grammar.specs.declared.state.State.{State}
use Rattle.sh_grammar.specs.Documents.{DocumentsFrom, Passes}
use Rattle.sh_grammar.specs.Readers.{Refused}
use Rattle.sh_grammar.proofs.BreakLemmas.{line_across, line_over, line_refused}
use Rattle.sh_grammar.proofs.grammar.Grammar.line.Goals as goal

pub returns-in_err-behind-clause-line : goal.returns-in_err-behind-clause-line
returns-in_err-behind-clause-line g c =
    let b = c.args.script.now in
    let s = c.args.from in
    let first = c.on_line-marks.result.1 in
    let e = c.in_err-behind.field-0.0 in
    let p = err_from_is_err_and c.from_residual.result c.from_residual.ensures.1 in
    let none = subst (λ ms. Refused b (DocumentsFrom b ms first) e) (c.as_slice.ensures ∙ c.on_line-marks.ensures.marks) c.in_err-behind.ensures in
    rw (p.1, p.2) (line_refused b s first first (sym c.in_default.is ∙ ap (λ (v : State). v.outer) c.get.ensures) (c.on_line-marks.ensures.line ∙ ap (λ i. record s { at = i + 1; pending = [] }) c.at-at.ensures) e none)

pub returns-clause-line : goal.returns-clause-line
returns-clause-line g c =
    let b = c.args.script.now in
    let s = c.args.from in
    let first = c.on_line-marks.result.1 in
    let v = c.in_ok-behind.behind in
    let passes = subst (λ ms. Passes b (DocumentsFrom b ms first) first.at v) (c.as_slice.ensures ∙ c.on_line-marks.ensures.marks) c.in_ok-behind.ensures in
    let end = c.settled.ensures in
    line_over b s first v (sym c.in_default.is ∙ ap (λ (v : State). v.outer) c.get.ensures) (c.on_line-marks.ensures.line ∙ ap (λ i. record s { at = i + 1; pending = [] }) c.at-at.ensures) passes c.settled.result end.value end.after end.stands

pub returns-in-Some-clause-line : goal.returns-in-Some-clause-line
returns-in-Some-clause-line g c = line_across c.args.script.now c.args.from c.in-Some.at (sym c.in-Some.is ∙ ap (λ (v : State). v.outer) c.get.ensures) c.requires.stands

pub returns-in_err-behind-clause-across : goal.returns-in_err-behind-clause-across
returns-in_err-behind-clause-across g c =
    let none : c.args.from.outer ≡ None = sym (sym c.in_default.is ∙ ap (λ (v : State). v.outer) c.get.ensures) in
    rw none tt

pub returns-clause-across : goal.returns-clause-across
returns-clause-across g c =
    let none : c.args.from.outer ≡ None = sym (sym c.in_default.is ∙ ap (λ (v : State). v.outer) c.get.ensures) in
    rw none tt

pub returns-in-Some-clause-across : goal.returns-in-Some-clause-across
returns-in-Some-clause-across g c =
    let some : c.args.from.outer ≡ Some c.in-Some.at = sym (sym c.in-Some.is ∙ ap (λ (v : State). v.outer) c.get.ensures) in
    rw some refl
