use Rattle.std.proofs.Common.{sym, ap, ◌∙◌, arith, length-drop}
use Rattle.std.proofs.lemmas.List.{take_rest}
use Rattle.sh_tree.specs.standard.language.HereDocuments.{line_text}
use Rattle.sh_grammar.specs.Lines.{strip_step}
use Rattle.sh_grammar.proofs.LineLemmas.{strip_ends, strip_on}
use Rattle.sh_grammar.proofs.end_lines.stripped.Goals as goal

pub returns-then-step-eq0 : goal.returns-then-step-eq0
returns-then-step-eq0 c =
    let at = c.loop-rest in
    let line = c.args.line.now in
    let none = sym (c.strip_step-step.ensures.value ∙ ap (λ cs. strip_step c.args.joins cs) (take_rest line at.at)) ∙ c.if-step-eq0.true in
    ap (λ cs. line_text c.args.joins cs) (take_rest line at.at) ∙ strip_ends c.args.joins line at.at at.invariant none

pub loop-rest-preserved : goal.loop-rest-preserved
loop-rest-preserved c =
    let at = c.loop-rest in
    let line = c.args.line.now in
    let step = c.strip_step-step.ensures.value ∙ ap (λ cs. strip_step c.args.joins cs) (take_rest line at.at) in
    let some = c.if-step-eq0.false in
    let long = c.strip_step-step.ensures.within in
    let within = at.invariant.within in
    strip_on c.args.joins line at.at c.strip_step-step.result at.invariant step (omega arith) (let l = rw (take_rest line at.at) at long in omega (arith, length-drop at.at line))
